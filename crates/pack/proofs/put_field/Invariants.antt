-- `put_field`: with w - j bits left to put, the bits so far and those left spell the field after what stood before it.
use mathlib.Core.Path.{◌≡◌}
use Prim.Native.Nat.{ℕ, ◌+◌, ◌-◌, ◌*◌, ◌%◌, ◌^◌, ◌≤◌}
use lib.ListN.{drop}
use Rattle.pack.specs.Field.{prefix}
use Rattle.pack.proofs.Laws.{Bytes}
use Rattle.pack.proofs.put_field.Given as goal

abbrev pub invariant-loop-j : goal.invariant-loop-j
invariant-loop-j l =
    (prefix l.out (l.p + l.j) * 2 ^ (l.w - l.j) + l.v % 2 ^ (l.w - l.j) ≡ prefix l.initial.out l.p * 2 ^ l.w + l.v)
    × ((i : ℕ) → l.p + l.w ≤ i * 8 → drop i l.out ≡ drop i l.initial.out)
    × Bytes l.out

-- `put_all`: the first p bits of the buffer are the fields before i (`Reached`); the bytes past the form are those at the start.
use mathlib.Core.Path.{◌≡◌}
use lib.ListN.{length, drop}
use Rattle.pack.specs.Pack.{size}
use Rattle.pack.specs.Field.{prefix}
use Rattle.pack.proofs.Laws.{Bytes}
use Rattle.pack.proofs.Loops.{Reached}
use Rattle.pack.proofs.put_all.Given as goal

abbrev pub invariant-loop-i : goal.invariant-loop-i
invariant-loop-i l =
    Reached l.ws l.vs (prefix l.out l.p) l.p l.i × (length l.out ≡ length l.initial.out) × (drop (size l.ws) l.out ≡ drop (size l.ws) l.initial.out) × Bytes l.out

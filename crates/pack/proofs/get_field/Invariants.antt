-- `get_field`: after k turns v is what the k bits from p on spell.
use mathlib.Core.Path.{◌≡◌}
use Prim.Native.Nat.{◌+◌, ◌*◌, ◌^◌, ◌<◌}
use Rattle.pack.specs.Field.{prefix}
use Rattle.pack.proofs.get_field.Given as goal

abbrev pub invariant-loop-k : goal.invariant-loop-k
invariant-loop-k l = (l.v < 2 ^ l.k) × (prefix l.s (l.p + l.k) ≡ prefix l.s l.p * 2 ^ l.k + l.v)

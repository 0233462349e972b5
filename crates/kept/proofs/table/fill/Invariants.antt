-- `kept::table::fill` meets its contract.
use Prim.Native.Nat.{ℕ, ◌<◌}
use mathlib.Core.Path.{◌≡◌}
use mathlib.Core.Bool.{false}
use lib.ListN.{length, get_or}
use lib.Dec.{eqb}
use Rattle.kept.specs.Kept.{Entered}
use Rattle.kept.proofs.table.fill.Given as goal

abbrev pub invariant-loop-k : goal.invariant-loop-k
invariant-loop-k l =
    (length l.kept ≡ 48) × ((j : ℕ) → j < l.k → eqb (get_or l.kept j 0) 1 ≡ false → Entered l.mode.user l.mode.control l.ds l.size j (get_or l.kept j 0))

-- `steps::run_steps` meets its contract.
use Prim.Native.Nat.{◌-◌}
use mathlib.Core.Path.{◌≡◌}
use lib.ListN.{length}
use Rattle.bus.specs.Leave.{state_of}
use Rattle.steps.proofs.Loop.{Going}
use Rattle.steps.proofs.run_steps.Given as goal

abbrev pub invariant-loop-n : goal.invariant-loop-n
invariant-loop-n l =
    Going l.budget (state_of l.initial.r l.initial.c l.initial.control l.initial.ds l.initial.w) l.r l.c l.control l.ds l.w l.n × (l.held.size ≡ length l.initial.w)

abbrev pub decreases-loop-n : goal.decreases-loop-n
decreases-loop-n l = l.budget - l.n

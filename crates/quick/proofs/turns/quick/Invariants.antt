-- `quick::turns::quick`: what holds at its loop's test.
use Rattle.quick.proofs.Running.{Going}
use Rattle.quick.proofs.turns.quick.Given as goal

abbrev pub invariant-loop-n : goal.invariant-loop-n
invariant-loop-n l = Going l.limit l.user l.kept l.initial.r l.initial.w l.r l.w l.n

-- `quick::turns::quick` meets its contract.
use Rattle.std.proofs.Common.{rules}
use Rattle.quick.proofs.Running.{starts, again}
use Rattle.quick.proofs.turns.quick.Goals as goal

pub loop-n-init : goal.loop-n-init
loop-n-init c = starts _ _ _ _ _ c.requires.inside

pub loop-n-preserved : goal.loop-n-preserved
loop-n-preserved c = again _ _ _ _ _ _ _ _ c.loop-n.invariant c.in-Some.c _ _ (search rules) c.in-Some.ensures.pc_value c.loop-n-test.true (search rules)

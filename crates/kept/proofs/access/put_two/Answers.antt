-- `kept::access::put_two` meets its contract.
use Rattle.std.proofs.Common.{arith}
use Rattle.kept.proofs.Kept.{word_put}
use Rattle.kept.proofs.access.put_two.Goals as goal

pub returns-clause-wrote : goal.returns-clause-wrote
returns-clause-wrote c = word_put _ _ _ _ (omega arith) c.requires c.in_ok-p.ensures _

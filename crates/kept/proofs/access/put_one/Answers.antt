-- `kept::access::put_one` meets its contract.
use Rattle.std.proofs.Common.{arith}
use Rattle.kept.proofs.Kept.{byte_put}
use Rattle.kept.proofs.access.put_one.Goals as goal

pub returns-clause-wrote : goal.returns-clause-wrote
returns-clause-wrote c = byte_put _ _ _ _ (omega arith) c.requires c.in_ok-p.ensures _

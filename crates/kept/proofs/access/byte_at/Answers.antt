-- `kept::access::byte_at` meets its contract.
use Rattle.std.proofs.Common.{refl, arith, rules}
use Rattle.kept.proofs.Kept.{byte_read}
use Rattle.kept.proofs.access.byte_at.Goals as goal

pub returns : goal.returns
returns c = byte_read _ _ _ _ (omega arith) c.requires c.in_ok-p.ensures _ refl (search rules)

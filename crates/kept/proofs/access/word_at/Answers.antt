-- `kept::access::word_at` meets its contract.
use Rattle.std.proofs.Common.{refl, arith, rules}
use Rattle.kept.proofs.Kept.{word_read}
use Rattle.kept.proofs.access.word_at.Goals as goal

pub returns : goal.returns
returns c = word_read _ _ _ _ (omega arith) c.requires c.in_ok-p.ensures _ _ _ refl refl (search rules) (search rules) refl

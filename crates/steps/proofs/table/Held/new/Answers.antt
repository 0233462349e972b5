-- `steps::table::Held::new` meets its contract.
use Rattle.steps.proofs.Kept.{empty}
use Rattle.steps.proofs.table.Held.new.Goals as goal

pub invariant_of-result : goal.invariant_of-result
invariant_of-result c = record { stands = empty _ _ _ _ }

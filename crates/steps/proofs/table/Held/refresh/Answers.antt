-- `steps::table::Held::refresh` meets its contract.
use Rattle.steps.proofs.Kept.{filled}
use Rattle.steps.proofs.table.Held.refresh.Goals as goal

pub invariant_of-self : goal.invariant_of-self
invariant_of-self c = record { stands = filled _ _ _ _ _ _ c.args.mode.enabled c.fill.ensures.right c.fill.ensures.inside c.fill.ensures.kept_len_2 }

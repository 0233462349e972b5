use Rattle.std.proofs.Common.{sym, ◌∙◌, ap}
use Rattle.legal.specs.Refusal.{refused_by}
use Rattle.host.proofs.Laws.{ran_on}
use Rattle.host.proofs.run.Goals as goal

pub returns-in-Ok : goal.returns-in-Ok
returns-in-Ok c = ran_on _ _ _ _ _ (sym (ap (λ r. refused_by r) c.in-Ok.is) ∙ c.admit.ensures) c.run_steps.ensures

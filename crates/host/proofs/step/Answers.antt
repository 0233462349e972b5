use Rattle.std.proofs.Common.{sym, ◌∙◌, ap}
use Rattle.legal.specs.Refusal.{refused_by}
use Rattle.host.proofs.Laws.{step_on}
use Rattle.host.proofs.step.Goals as goal

pub returns-in-Ok : goal.returns-in-Ok
returns-in-Ok c = step_on _ _ _ _ (sym (ap (λ r. refused_by r) c.in-Ok.is) ∙ c.admit.ensures) c.run_steps-a.ensures

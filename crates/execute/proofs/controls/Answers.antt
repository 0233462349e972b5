-- `execute::controls` meets its contract.
use mathlib.Core.Path.{ap, ◌∙◌}
use Rattle.std.specs.Prelude.{Some}
use Rattle.sums.proofs.Past.{past_from}
use Rattle.execute.proofs.Swaps.{far}
use Rattle.execute.proofs.controls.Goals as goal

pub returns-in_default : goal.returns-in_default
returns-in_default c h = ap (λ d. Some d) c.still.ensures ∙ far _ _ _ _ _ (past_from 100 16 c.args.i.op c.in_default.in_default-own.rest h)

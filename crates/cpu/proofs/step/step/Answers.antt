-- `cpu::step::step` meets its contract.
use mathlib.Core.Path.{◌∙◌}
use Rattle.cpu.specs.Turns.{came}
use Rattle.cpu.proofs.step.step.Goals as goal

pub returns-in-Ok : goal.returns-in-Ok
unfolding came
returns-in-Ok c = rw (c.of-mode.ensures.control_value, c.in-Ok.is) at c.attempt.ensures

pub returns-in-Err : goal.returns-in-Err
unfolding came
returns-in-Err c = c.denied.ensures _ _ ∙ rw (c.of-mode.ensures.control_value, c.in-Err.is) at c.attempt.ensures

-- `machine_with`: registers and control registers as their functions answer.
use Rattle.form.proofs.machine_with.Goals as goal

pub returns : goal.returns
returns c = rw (c.regs_of-r.ensures, c.control_of-c.ensures)

-- `allowed`: the control registers' tests, then that of MMU control.
use Rattle.legal.specs.Legal.{allowed_bits}
use Rattle.legal.proofs.allowed.Goals as goal

pub returns : goal.returns
unfolding allowed_bits
returns c = rw c.allowed_control.ensures

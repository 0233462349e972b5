use mathlib.Core.Path.{refl}
use Rattle.decode.specs.Fd.{formats_fd}
use Rattle.decode.proofs.fd.table.Goals as goal

pub returns : goal.returns
unfolding formats_fd
returns c = refl

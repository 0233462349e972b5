use mathlib.Core.Path.{refl}
use Rattle.decode.specs.FdEd.{formats_fd_ed}
use Rattle.decode.proofs.fd_ed.table.Goals as goal

pub returns : goal.returns
unfolding formats_fd_ed
returns c = refl

use mathlib.Core.Path.{refl}
use Rattle.decode.specs.FdCb.{formats_fd_cb}
use Rattle.decode.proofs.fd_cb.table.Goals as goal

pub returns : goal.returns
unfolding formats_fd_cb
returns c = refl

use mathlib.Core.Path.{refl}
use Rattle.decode.specs.DdCb.{formats_dd_cb}
use Rattle.decode.proofs.dd_cb.table.Goals as goal

pub returns : goal.returns
unfolding formats_dd_cb
returns c = refl

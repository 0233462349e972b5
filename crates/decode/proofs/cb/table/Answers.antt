use mathlib.Core.Path.{refl}
use Rattle.decode.specs.Cb.{formats_cb}
use Rattle.decode.proofs.cb.table.Goals as goal

pub returns : goal.returns
unfolding formats_cb
returns c = refl

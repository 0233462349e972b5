use mathlib.Core.Path.{refl}
use Rattle.decode.specs.Dd.{formats_dd}
use Rattle.decode.proofs.dd.table.Goals as goal

pub returns : goal.returns
unfolding formats_dd
returns c = refl

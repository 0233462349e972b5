use mathlib.Core.Path.{refl}
use Rattle.decode.specs.None.{formats_none}
use Rattle.decode.proofs.none.table.Goals as goal

pub returns : goal.returns
unfolding formats_none
returns c = refl

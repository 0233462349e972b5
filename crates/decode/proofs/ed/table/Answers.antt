use mathlib.Core.Path.{refl}
use Rattle.decode.specs.Ed.{formats_ed}
use Rattle.decode.proofs.ed.table.Goals as goal

pub returns : goal.returns
unfolding formats_ed
returns c = refl

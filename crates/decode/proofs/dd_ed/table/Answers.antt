use mathlib.Core.Path.{refl}
use Rattle.decode.specs.DdEd.{formats_dd_ed}
use Rattle.decode.proofs.dd_ed.table.Goals as goal

pub returns : goal.returns
unfolding formats_dd_ed
returns c = refl

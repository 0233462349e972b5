-- Known step P9, by computation.
use mathlib.Core.Path.{refl}
use lib.Count.{ones, ones_in}
use Rattle.logic.specs.Logic.{or_of}
use Rattle.logic.specs.Known.{P9}

pub known9 : P9
unfolding or_of ones ones_in
known9 f = refl

-- Known steps P4 to P8, by computation.
use Rattle.std.proofs.Common.{refl}
use Rattle.sums.specs.Width.{sub_over}
use Rattle.sums.specs.Sums.{cpw_of, negw_of}
use Rattle.sums.specs.Known.{P4, P5, P6, P7, P8}

pub known4 : P4
unfolding sub_over cpw_of
known4 f = refl

pub known5 : P5
unfolding sub_over cpw_of
known5 f = refl

pub known6 : P6
unfolding sub_over cpw_of
known6 f = refl

pub known7 : P7
unfolding sub_over negw_of
known7 f = refl

pub known8 : P8
unfolding sub_over negw_of
known8 f = refl

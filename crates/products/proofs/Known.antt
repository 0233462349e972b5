-- Known step P10, by computation.
use Rattle.std.proofs.Common.{refl}
use Rattle.products.specs.Products.{mult_of}
use Rattle.products.specs.Known.{P10}

pub known10 : P10
unfolding mult_of
known10 f = refl

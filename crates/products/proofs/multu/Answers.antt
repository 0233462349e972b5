-- `products::multu` meets its contract: the product fits.
use Rattle.std.proofs.Common.{rules}
use Rattle.products.specs.Products.{multu_of}
use Rattle.products.proofs.Product.{whole_product}
use Rattle.products.proofs.multu.Goals as goal

pub returns : goal.returns
unfolding multu_of
returns g c =
    let law = whole_product g.T.Operand.k c.wide.result c.wide-2.result c.from.result c.wide.ensures.1 c.wide-2.ensures.1 (search rules) c.from.ensures in
    let w = g.met.T.Operand.weights in
    cc

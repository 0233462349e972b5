-- `products::mult` meets its contract.
use Rattle.std.proofs.Common.{rules, arith, ◌∙◌}
use Rattle.sums.proofs.Over.{twice}
use Rattle.products.proofs.Product.{mult_is}
use Rattle.products.proofs.mult.Goals as goal

pub returns : goal.returns
returns g c =
    let laws = g.met.T.Operand in
    mult_is _ _ (search rules) (search rules) c.signed.ensures.size c.signed-2.ensures.size g.T.Operand.k _ _ _ c.TOP.result _ _ _ (search rules)
    (omega (arith, twice g.T.Operand.k laws.short.0, laws.short, laws.weights))
    (c.TOP.ensures ∙ laws.weights.1) c.from-top.ensures c.signed.ensures.value c.signed-2.ensures.value
    c.product.ensures c.product_f.ensures

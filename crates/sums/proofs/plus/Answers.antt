-- `sums::plus` meets its contract, by the law at k bits.
use Rattle.std.proofs.Common.{rules}
use Rattle.sums.proofs.Over.{add_flags_lem}
use Rattle.sums.proofs.plus.Goals as goal

pub returns-clause-flags : goal.returns-clause-flags
returns-clause-flags g c =
    let t = g.T.Operand in
    let laws = g.met.T.Operand in
    let law = add_flags_lem t.k laws.short.0 (t.number c.args.a) (t.number c.args.b) c.from-c.result (search rules) (search rules) (search rules) in
    cc

-- `served::parts::behind` meets its contract.
use Rattle.std.proofs.Common.{arith, rules, ◌≡◌, ◌<◌, ◌+◌}
use Rattle.std.specs.Prelude.{slice_index_or}
use Rattle.bus.specs.Access.{joined}
use Rattle.served.specs.Served.{behind}
use Rattle.served.proofs.parts.behind.Goals as goal

pub returns-in-0 : goal.returns-in-0
unfolding behind
returns-in-0 c = rw c.in-0.is

pub returns-in-1 : goal.returns-in-1
unfolding behind joined
returns-in-1 c =
    let h : slice_index_or c.args.w.now c.args.c.p 0 < 256 = search rules in
    rw c.in-1.is (omega arith)

pub returns-in_default : goal.returns-in_default
unfolding behind joined
returns-in_default c =
    let h : slice_index_or c.args.w.now c.args.c.p 0 < 256 = search rules in
    let k : slice_index_or c.args.w.now (c.args.c.p + 1) 0 < 256 = search rules in
    let n : c.args.n ≡ 2 = omega arith in
    rw n (omega arith)

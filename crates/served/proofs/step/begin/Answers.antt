-- `served::step::begin` meets its contract.
use Rattle.std.proofs.Common.{ap, ◌∙◌}
use Rattle.decode.specs.Entry.{op_in, bytes_in}
use Rattle.served.proofs.Serving.{op_at}
use Rattle.served.proofs.step.begin.Goals as goal

pub returns-clause-op : goal.returns-clause-op
returns-clause-op c = op_at (bytes_in c.args.g.c.e) c.args.r c.args.g.c c.args.w.now _ c.ins-i.ensures ∙ ap op_in c.if-g-e.false

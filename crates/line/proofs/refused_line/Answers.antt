-- Three pieces.
use Rattle.std.specs.Prelude.{decimal}
use Rattle.line.specs.Line.{refused_word, newline, refused_line}
use Rattle.line.proofs.Text.{begun, more}
use Rattle.line.proofs.refused_line.Goals as goal

pub returns : goal.returns
unfolding refused_line
returns c =
    let l = more (begun c.new-l.ensures.n c.new-l.ensures.text) refused_word c.put.ensures.n c.put.ensures.text in
    let d = more l (decimal c.args.k) (rw c.from.ensures at c.put_decimal.ensures.n) (rw c.from.ensures at c.put_decimal.ensures.text) in
    more d newline c.put-2.ensures.n c.put-2.ensures.text

-- Seven pieces.
use Rattle.std.specs.Prelude.{decimal}
use Rattle.line.specs.Line.{four_hex, stop_word, steps_word, pc_word, newline, ended_line}
use Rattle.line.proofs.Text.{begun, more}
use Rattle.line.proofs.ended_line.Goals as goal

pub returns : goal.returns
unfolding ended_line
returns c =
    let l = more (begun c.new-l.ensures.n c.new-l.ensures.text) stop_word c.put.ensures.n c.put.ensures.text in
    let e = more l (decimal c.args.e.event) c.put_decimal.ensures.n c.put_decimal.ensures.text in
    let f = more e steps_word c.put-2.ensures.n c.put-2.ensures.text in
    let g = more f (decimal c.args.e.steps) c.put_decimal-2.ensures.n c.put_decimal-2.ensures.text in
    let h = more g pc_word c.put-3.ensures.n c.put-3.ensures.text in
    let k = more h (four_hex c.args.e.pc) (rw c.four_hex.ensures at c.put-4.ensures.n) (rw c.four_hex.ensures at c.put-4.ensures.text) in
    more k newline c.put-5.ensures.n c.put-5.ensures.text

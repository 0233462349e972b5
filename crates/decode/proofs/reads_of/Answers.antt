use borrow.Author.Tests.{ne_eqb}
use Rattle.decode.proofs.reads_of.Goals as goal

pub returns-then-four : goal.returns-then-four
returns-then-four c = simp c.if-four.true

pub returns : goal.returns
returns c = simp (ne_eqb _ _ c.if-four.false)

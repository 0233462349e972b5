-- The form's refusals come first, then what the memory gives.
use Rattle.show.proofs.Laws.{not_exact, run_never, run_ended}
use Rattle.show.proofs.answer.show.Goals as goal

pub returns-then-w-a : goal.returns-then-w-a
returns-then-w-a c = not_exact _ c.if-input-lt-LENGTH.false _ c.in_ok-a.ensures c.if-w-a.true

pub returns-in_err-r : goal.returns-in_err-r
returns-in_err-r c = absurd (run_never _ c.if-input-lt-LENGTH.false _ c.in_ok-a.ensures c.if-w-a.false _ _ c.in_err-r.ensures)

pub returns : goal.returns
returns c =
    run_ended _ c.if-input-lt-LENGTH.false _ c.in_ok-a.ensures c.if-w-a.false _ _ _ c.in_ok-r.ensures c.from-n.ensures

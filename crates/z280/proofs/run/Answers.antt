use Rattle.lent.proofs.Laws.{twelve}
use Rattle.z280.proofs.Laws.{run_never, run_on}
use Rattle.z280.proofs.run.Goals as goal

pub returns-in_err-r : goal.returns-in_err-r
returns-in_err-r c = absurd (run_never _ _ _ _ c.in_ok-a.ensures.refusal c.in_ok-a.ensures.read _ _ _ c.in_err-r.ensures)

pub put_answer-requires : goal.put_answer-requires
put_answer-requires c = twelve _ _ _ c.in_ok-a.ensures.refusal

pub returns : goal.returns
returns c =
    run_on _ _ _ _ c.in_ok-a.ensures.refusal c.in_ok-a.ensures.read _ _ _ c.in_ok-r.ensures _ c.put_answer.ensures _ c.write_form.ensures.1

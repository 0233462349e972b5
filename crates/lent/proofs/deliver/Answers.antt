use Rattle.std.proofs.lemmas.Result.{err_from_is_err_and}
use Rattle.lent.proofs.Laws.{undelivered, delivered_on}
use Rattle.lent.proofs.deliver.Goals as goal

pub returns-in_err-next : goal.returns-in_err-next
returns-in_err-next c =
    let p = err_from_is_err_and c.from_residual-in_err-next.result c.from_residual-in_err-next.ensures.1 in
    rw (p.1, p.2)
    (undelivered _ _ _ _ c.in_ok-a.ensures.refusal c.in_ok-a.ensures.read _ c.event_in-e.ensures _ _ c.in_err-next.ensures)

pub returns : goal.returns
returns c =
    delivered_on _ _ _ _ c.in_ok-a.ensures.refusal c.in_ok-a.ensures.read _ c.event_in-e.ensures _ _ c.in_ok-next.ensures _ c.write_form.ensures.1

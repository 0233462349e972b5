use Rattle.lent.proofs.Laws.{made_on}
use Rattle.lent.proofs.make_valid.Goals as goal

pub returns : goal.returns
returns c = made_on _ _ _ c.in_ok-a.ensures _ c.in_ok-next.ensures _ c.write_form.ensures.1

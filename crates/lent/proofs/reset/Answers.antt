use Rattle.lent.proofs.Laws.{reset_on}
use Rattle.lent.proofs.reset.Goals as goal

pub returns : goal.returns
returns c = reset_on _ _ c.if-not-fits.false _ c.reset.ensures _ _ c.write_form.ensures

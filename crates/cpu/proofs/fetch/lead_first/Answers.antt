-- `cpu::fetch::lead_first` meets its contract.
use borrow.Author.Tests.{le-ltb}
use Rattle.cpu.proofs.Leads.{opens_nothing}
use Rattle.cpu.proofs.fetch.lead_first.Goals as goal

pub returns : goal.returns
returns c = opens_nothing _ _ c.entry-e.ensures (le-ltb _ _ c.if-opens.false) _ _ _ _ _

-- `served::parts::operand` meets its contract.
use Rattle.std.proofs.Common.{refl}
use Rattle.bus.specs.Access.{count, got_many}
use Rattle.served.proofs.Serving.{counted}
use Rattle.served.proofs.parts.operand.Goals as goal

pub returns-in-0 : goal.returns-in-0
unfolding count got_many
returns-in-0 c user mmu ds right = rw c.in-0.is

pub returns-in-1 : goal.returns-in-1
unfolding count
returns-in-1 c = counted _ _ _ 1 _ c.if-s.false c.in-1.is refl c.byte_at.ensures

pub returns-in-2 : goal.returns-in-2
unfolding count
returns-in-2 c = counted _ _ _ 2 _ c.if-s.false c.in-2.is refl c.word_at.ensures

-- What a step leaves beside descriptors and memory, by how it ends.
use Rattle.std.specs.Prelude.{ℕ, List, Result, Ok, Err}
use Rattle.board.specs.Program as b
use Rattle.board.specs.declared.Fault.{Fault}
use Rattle.regs.specs.declared.Regs.{Regs}
use Rattle.regs.specs.declared.Control.{Control}
use Rattle.plan.specs.declared.kinds.Stop.{Stop}
use Rattle.bus.specs.declared.kinds.Turn.{Turn}
use Rattle.bus.specs.declared.kinds.Event.TheVariants.{Completed, Stopped}
use Rattle.bus.specs.Board.{real}
use Rattle.bus.specs.Leave.{state_of, whole, denial}

abbrev pub completed_turn : Regs → Control → (mmu : ℕ) → Turn
completed_turn r c mmu = record { regs = r; ctl = c; mmu = mmu; event = Completed }

abbrev pub stopped_turn : Regs → Control → (mmu : ℕ) → Stop → Turn
stopped_turn r c mmu e = record { regs = r; ctl = c; mmu = mmu; event = Stopped e }

-- what a step comes to: a turn, or the fault that ends it
unfoldable pub came : Regs → Control → (mmu : ℕ) → Result Turn Fault → (ds w : List ℕ) → b.Answer real
came r c mmu (Ok t) ds w = whole t ds w
came r c mmu (Err e) ds w = denial (state_of r c mmu ds w) e

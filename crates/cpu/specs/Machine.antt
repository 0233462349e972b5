-- The machine record against the definition's state.
use Rattle.std.specs.Prelude.{List, ℕ}
use Rattle.board.specs.Program as b
use Rattle.regs.specs.declared.Machine.{Machine}
use Rattle.bus.specs.Board.{real}
use Rattle.bus.specs.Leave.{state_of}

abbrev pub machine_state : Machine → (w : List ℕ) → b.State real
machine_state m w = state_of m.regs m.ctl m.mmu m.ds w

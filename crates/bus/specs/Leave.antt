-- The code's records against the definition's: what a turn leaves, with the descriptors and the memory after it.
use Rattle.std.specs.Prelude.{ℕ, ◌/◌, ◌%◌, Bool, List, [], ◌∷◌, Err}
use Rattle.board.specs.Program as b
use Rattle.board.specs.declared.Fault.{Fault}
use Rattle.regs.specs.declared.Regs.{Regs}
use Rattle.regs.specs.declared.Control.{Control}
use Rattle.plan.specs.declared.kinds.Write as wr
use Rattle.plan.specs.declared.kinds.Write.TheVariants as write
use Rattle.bus.specs.declared.kinds.Turn.{Turn}
use Rattle.bus.specs.declared.kinds.Event.{Event}
use Rattle.bus.specs.declared.kinds.Event.TheVariants.{Completed, Violation, Absent, Stopped}
use Rattle.bus.specs.Board.{real}
use Rattle.bus.specs.Access.{next}

unfoldable pub event_of : Event → b.Event real
event_of Completed = b.completed
event_of (Violation i a) = b.violation i a
event_of (Absent p) = b.absent p
event_of (Stopped e) = b.other e

abbrev pub state_of : Regs → Control → (mmu : ℕ) (ds w : List ℕ) → b.State real
state_of r c mmu ds w = record { regs = r; ctl = c; mmu = mmu; ds = ds; mem = w }

abbrev pub whole : Turn → (ds w : List ℕ) → b.Answer real
whole t ds w = record { state = state_of t.regs t.ctl t.mmu ds w; event = event_of t.event }

-- a fault ends the step
unfoldable pub denial : b.State real → Fault → b.Answer real
denial s e = b.after s (Err e) (λ x. record { state = s; event = b.completed })

-- what is written, byte by byte, low byte of a word first
abbrev pub one_write : Bool → ℕ → ℕ → List b.Write
one_write k a v = record { program = k; addr = a; byte = v } ∷ []

abbrev pub two_writes : Bool → ℕ → ℕ → List b.Write
two_writes k a v = record { program = k; addr = a; byte = v % 256 } ∷ record { program = k; addr = next a; byte = v / 256 } ∷ []

unfoldable pub listed : wr.Write → List b.Write
listed write.Nothing = []
listed (write.One k a v) = one_write k a v
listed (write.Two k a v) = two_writes k a v

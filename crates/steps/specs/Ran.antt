-- What a run leaves, against the definition's.
use Rattle.std.specs.Prelude.{ℕ, Bool, true, false, List}
use Rattle.board.specs.Run as n
use Rattle.bus.specs.declared.kinds.Event.{Event}
use Rattle.bus.specs.declared.kinds.Event.TheVariants.{Completed, Violation, Absent, Stopped}
use Rattle.bus.specs.Board.{real}
use Rattle.bus.specs.Leave.{event_of}
use Rattle.cpu.specs.Machine.{machine_state}
use Rattle.steps.specs.declared.Ran.{Ran}

abbrev pub ran_of : Ran → (w : List ℕ) → n.Ran real
ran_of r w = record { state = machine_state r.machine w; event = event_of r.event; steps = r.steps }

-- whether an event ends a run
unfoldable pub stops_at : Event → Bool
stops_at Completed = false
stops_at (Violation i a) = true
stops_at (Absent p) = true
stops_at (Stopped e) = true

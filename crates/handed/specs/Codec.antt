-- The 12 bytes both ways, stated: an event read from an answer's bytes is the event that was written, and delivery is handed it.
use Rattle.std.specs.Prelude.{ℕ, ◌<◌, ◌≡◌, cond, List, eqb}
use Rattle.plan.specs.declared.kinds.Stop.{Stop}
use Rattle.plan.specs.declared.kinds.Stop.TheVariants.{Privileged, Call, Extended, Halted, Break, Port, Nothing}
use Rattle.bus.specs.declared.kinds.Event.{Event}
use Rattle.bus.specs.declared.kinds.Event.TheVariants.{Completed, Violation, Absent, Stopped}
use Rattle.bus.specs.Leave.{event_of}
use Rattle.events.specs.declared.Numbered.{Numbered}
use Rattle.events.specs.Events.{numbers, event_numbers}
use Rattle.events.specs.Bytes.{answer_bytes}
use Rattle.handed.specs.Handed.{spelt, event_in}

-- Each value has room in its bytes. The definition's numbers are unbounded, so it is said here.
unfoldable pub StopFits : Stop → Type 0
StopFits (Privileged a) = a < 65536
StopFits (Call operand next) = (operand < 65536) × (next < 65536)
StopFits (Extended a) = a < 65536
StopFits Halted = Unit
StopFits (Break a) = a < 65536
StopFits (Port p out) = p < 4294967296
StopFits (Nothing a) = a < 65536

unfoldable pub Fits : Event → Type 0
Fits Completed = Unit
Fits (Violation i a) = (i < 32) × (a < 65536)
Fits (Absent p) = p < 4294967296
Fits (Stopped s) = StopFits s

-- the numbers that an answer's bytes spell
abbrev pub numbers_in : List ℕ → Numbered
numbers_in s = numbers (spelt s 0 2) (spelt s 4 4) (spelt s 8 4)

-- the event that has them
unfoldable pub named : Numbered → Event
named n =
    cond (eqb n.number 0) Completed
    (cond (eqb n.number 1) (Violation n.first n.second)
    (cond (eqb n.number 2) (Absent n.first)
    (cond (eqb n.number 3) (Stopped (Privileged n.first))
    (cond (eqb n.number 4) (Stopped (Call n.first n.second))
    (cond (eqb n.number 5) (Stopped (Extended n.first))
    (cond (eqb n.number 6) (Stopped Halted)
    (cond (eqb n.number 7) (Stopped (Break n.first))
    (cond (eqb n.number 8) (Stopped (Port n.first (eqb n.second 1))) (Stopped (Nothing n.first))))))))))

-- what delivery is handed: the event where it is 1, 3, 4 or 7
unfoldable pub stop_handed : Stop → Event
stop_handed (Privileged a) = Stopped (Privileged a)
stop_handed (Call operand next) = Stopped (Call operand next)
stop_handed (Extended a) = Completed
stop_handed Halted = Completed
stop_handed (Break a) = Stopped (Break a)
stop_handed (Port p out) = Completed
stop_handed (Nothing a) = Completed

unfoldable pub handed : Event → Event
handed Completed = Completed
handed (Violation i a) = Violation i a
handed (Absent p) = Completed
handed (Stopped s) = stop_handed s

-- .. and its values in their range there; the others are refused whatever they carry
unfoldable pub StopInRange : Stop → Type 0
StopInRange (Privileged a) = a < 65536
StopInRange (Call operand next) = (operand < 65536) × (next < 65536)
StopInRange (Extended a) = Unit
StopInRange Halted = Unit
StopInRange (Break a) = a < 65536
StopInRange (Port p out) = Unit
StopInRange (Nothing a) = Unit

unfoldable pub InRange : Event → Type 0
InRange Completed = Unit
InRange (Violation i a) = (i < 32) × (a < 65536)
InRange (Absent p) = Unit
InRange (Stopped s) = StopInRange s

pub record Codec : Type 0 where
  pub event : (e : Event) (steps : ℕ) → Fits e → named (numbers_in (answer_bytes (event_numbers (event_of e)) steps)) ≡ e
  pub steps : (n : Numbered) (steps : ℕ) → steps < 65536 → spelt (answer_bytes n steps) 2 2 ≡ steps
  pub delivered : (e : Event) (steps : ℕ) → InRange e → event_in (answer_bytes (event_numbers (event_of e)) steps) ≡ handed e

-- Document 01's table of events: the number of each, and what it carries, in the table's order; 0 where it carries no first or second.
use Rattle.std.specs.Prelude.{ℕ, Bool, cond}
use Rattle.board.specs.Program as b
use Rattle.plan.specs.declared.kinds.Stop.{Stop}
use Rattle.plan.specs.declared.kinds.Stop.TheVariants.{Privileged, Call, Extended, Halted, Break, Port, Nothing}
use Rattle.bus.specs.Board.{real}
use Rattle.events.specs.declared.Numbered.{Numbered}

abbrev pub numbers : (number first second : ℕ) → Numbered
numbers number first second = record { number = number; first = first; second = second }

-- 0 in, 1 out
abbrev pub direction_of : (out : Bool) → ℕ
direction_of out = cond out 1 0

unfoldable pub stop_numbers : Stop → Numbered
stop_numbers (Privileged a) = numbers 3 a 0
stop_numbers (Call operand next) = numbers 4 operand next
stop_numbers (Extended a) = numbers 5 a 0
stop_numbers Halted = numbers 6 0 0
stop_numbers (Break a) = numbers 7 a 0
stop_numbers (Port p out) = numbers 8 p (direction_of out)
stop_numbers (Nothing a) = numbers 9 a 0

unfoldable pub event_numbers : b.Event real → Numbered
event_numbers b.completed = numbers 0 0 0
event_numbers (b.violation i a) = numbers 1 i a
event_numbers (b.absent p) = numbers 2 p 0
event_numbers (b.other e) = stop_numbers e

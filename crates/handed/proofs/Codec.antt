-- The 12 bytes both ways: bytes of a number that fits spell it, so what was written is read.
use Prim.Native.Nat.{ℕ, ◌+◌, ◌*◌, ◌/◌, ◌%◌, ◌<◌}
use mathlib.Core.Path.{◌≡◌, refl, ◌∙◌, ap}
use mathlib.Core.Bool.{Bool, true, false}
use native.Mathlib.Omega.{arith}
use borrow.Author.Tests.{lt-leb}
use lib.Dec.{lit<}
use Rattle.plan.specs.declared.kinds.Stop.{Stop}
use Rattle.plan.specs.declared.kinds.Stop.TheVariants.{Privileged, Call, Extended, Halted, Break, Port, Nothing}
use Rattle.bus.specs.declared.kinds.Event.{Event}
use Rattle.bus.specs.declared.kinds.Event.TheVariants.{Completed, Violation, Absent, Stopped}
use Rattle.bus.specs.Leave.{event_of}
use Rattle.events.specs.declared.Numbered.{Numbered}
use Rattle.events.specs.Events.{direction_of, stop_numbers, event_numbers}
use Rattle.events.specs.Bytes.{little, answer_bytes}
use Rattle.handed.specs.Handed.{spelt, violation_in, alone, call_in, taken, delivered, event_in}
use Rattle.handed.specs.Codec.{StopFits, Fits, StopInRange, InRange, numbers_in, named, stop_handed, handed, Codec}

-- ---- bytes of a number

two : (v : ℕ) → v < 65536 → v % 256 + (v / 256 % 256 + 0) * 256 ≡ v
two v h = omega (arith, h)

four : (v : ℕ) → v < 4294967296 → v % 256 + (v / 256 % 256 + (v / 256 / 256 % 256 + (v / 256 / 256 / 256 % 256 + 0) * 256) * 256) * 256 ≡ v
four v h = omega (arith, h)

-- numbers that their bytes can hold
pub record Small (n : Numbered) : Type 0 where
  pub number : n.number < 65536
  pub first : n.first < 4294967296
  pub second : n.second < 4294967296

numbers_back : (n : Numbered) (steps : ℕ) → Small n → numbers_in (answer_bytes n steps) ≡ n
unfolding answer_bytes little spelt
numbers_back n steps h = rw (two n.number h.number, four n.first h.first, four n.second h.second)

steps_back : (n : Numbered) (steps : ℕ) → steps < 65536 → spelt (answer_bytes n steps) 2 2 ≡ steps
unfolding answer_bytes little spelt
steps_back n steps h = two steps h

-- ---- events

wider : (a : ℕ) → a < 65536 → a < 4294967296
wider a h = omega (arith, h)

one_bit : (out : Bool) → direction_of out < 4294967296
one_bit true = lit< tt
one_bit false = lit< tt

stop_small : (s : Stop) → StopFits s → Small (stop_numbers s)
unfolding StopFits stop_numbers
stop_small (Privileged a) h = record { number = lit< tt; first = wider a h; second = lit< tt }
stop_small (Call operand next) h = record { number = lit< tt; first = wider operand h.0; second = wider next h.1 }
stop_small (Extended a) h = record { number = lit< tt; first = wider a h; second = lit< tt }
stop_small Halted h = record { number = lit< tt; first = lit< tt; second = lit< tt }
stop_small (Break a) h = record { number = lit< tt; first = wider a h; second = lit< tt }
stop_small (Port p out) h = record { number = lit< tt; first = h; second = one_bit out }
stop_small (Nothing a) h = record { number = lit< tt; first = wider a h; second = lit< tt }

small : (e : Event) → Fits e → Small (event_numbers (event_of e))
unfolding Fits event_numbers event_of
small Completed h = record { number = lit< tt; first = lit< tt; second = lit< tt }
small (Violation i a) h = record { number = lit< tt; first = omega (arith, h.0); second = wider a h.1 }
small (Absent p) h = record { number = lit< tt; first = h; second = lit< tt }
small (Stopped s) h = stop_small s h

stop_named : (s : Stop) → named (stop_numbers s) ≡ Stopped s
unfolding named stop_numbers
stop_named (Privileged a) = refl
stop_named (Call operand next) = refl
stop_named (Extended a) = refl
stop_named Halted = refl
stop_named (Break a) = refl
stop_named (Port p true) = refl
stop_named (Port p false) = refl
stop_named (Nothing a) = refl

-- no two events have the same numbers
pub event_named : (e : Event) → named (event_numbers (event_of e)) ≡ e
unfolding named event_numbers event_of
event_named Completed = refl
event_named (Violation i a) = refl
event_named (Absent p) = refl
event_named (Stopped s) = stop_named s

-- ---- delivery

abbrev handed_by : Numbered → Event
handed_by n = delivered n.number n.first n.second

module _ (steps : ℕ) where
  abbrev read : Numbered → Event
  read n = event_in (answer_bytes n steps)

  -- numbers that their bytes hold are handed over as they are
  over : (n : Numbered) → Small n → read n ≡ handed_by n
  unfolding event_in
  over n h = ap handed_by (numbers_back n steps h)

  stop_handed_lem : (s : Stop) → StopInRange s → read (stop_numbers s) ≡ stop_handed s
  unfolding event_in answer_bytes little spelt delivered taken alone call_in StopFits StopInRange stop_numbers stop_handed
  stop_handed_lem (Privileged a) h = over (stop_numbers (Privileged a)) (stop_small (Privileged a) h) ∙ rw (lt-leb 65536 a h)
  stop_handed_lem (Call operand next) h =
      over (stop_numbers (Call operand next)) (stop_small (Call operand next) h) ∙ rw (lt-leb 65536 operand h.0, lt-leb 65536 next h.1)
  stop_handed_lem (Extended a) h = refl
  stop_handed_lem Halted h = refl
  stop_handed_lem (Break a) h = over (stop_numbers (Break a)) (stop_small (Break a) h) ∙ rw (lt-leb 65536 a h)
  stop_handed_lem (Port p out) h = refl
  stop_handed_lem (Nothing a) h = refl

  handed_over : (e : Event) → InRange e → read (event_numbers (event_of e)) ≡ handed e
  unfolding event_in answer_bytes little spelt delivered taken violation_in Fits InRange event_numbers event_of handed
  handed_over Completed h = refl
  handed_over (Violation i a) h =
      over (event_numbers (event_of (Violation i a))) (small (Violation i a) h) ∙ rw (lt-leb 32 i h.0, lt-leb 65536 a h.1)
  handed_over (Absent p) h = refl
  handed_over (Stopped s) h = stop_handed_lem s h

pub codec : Codec
codec =
    record {
      event = λ e steps h. ap named (numbers_back (event_numbers (event_of e)) steps (small e h)) ∙ event_named e;
      steps = steps_back;
      delivered = λ e steps h. handed_over steps e h;
    }

-- The event that the 12 bytes of an answer hand to delivery.
use Rattle.std.specs.Prelude.{ℕ, zero, suc, ◌+◌, ◌*◌, cond, List, eqb, leb, ltb, get_or, Option, Some, None, option_map, unwrap_or}
use Rattle.plan.specs.declared.kinds.Stop.TheVariants.{Privileged, Call, Break}
use Rattle.bus.specs.declared.kinds.Event.{Event}
use Rattle.bus.specs.declared.kinds.Event.TheVariants.{Completed, Violation, Stopped}

-- the number that n bytes from index k on spell
unfoldable pub spelt : List ℕ → (k n : ℕ) → ℕ
spelt s k zero = 0
spelt s k (suc n) = get_or s k 0 + spelt s (k + 1) n * 256

-- Values out of their range name no event.
unfoldable pub violation_in : (descriptor address : ℕ) → Option Event
violation_in i a = cond (leb 32 i) None (cond (leb 65536 a) None (Some (Violation i a)))

unfoldable pub alone : (address none : ℕ) → Option ℕ
alone a none = cond (leb 65536 a) None (cond (ltb 0 none) None (Some a))

unfoldable pub call_in : (operand next : ℕ) → Option Event
call_in operand next =
    cond (leb 65536 operand) None (cond (leb 65536 next) None (Some (Stopped (Call operand next))))

unfoldable pub taken : (number first second : ℕ) → Option Event
taken number first second =
    cond (eqb number 1) (violation_in first second)
    (cond (eqb number 3) (option_map (λ a. Stopped (Privileged a)) (alone first second))
    (cond (eqb number 4) (call_in first second)
    (cond (eqb number 7) (option_map (λ a. Stopped (Break a)) (alone first second)) None)))

-- What names none is as event 0, which can't be delivered.
unfoldable pub delivered : (number first second : ℕ) → Event
delivered number first second = unwrap_or (taken number first second) Completed

-- the completed steps are not looked at, so that an answer can be delivered as it came
unfoldable pub event_in : List ℕ → Event
event_in s = delivered (spelt s 0 2) (spelt s 4 4) (spelt s 8 4)

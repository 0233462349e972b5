-- What the fetch of an opening sequence comes to, over plain values: an operation code, or a fault.
use Rattle.std.specs.Prelude.{ℕ, ◌%◌, Bool, true, cond, List, eqb, ltb, Result, Ok, Err}
use Rattle.board.specs.declared.Fault.{Fault}
use Rattle.decode.specs.Opening.{opening_of, after_opening}
use Rattle.bus.specs.Access.{next, read_from}
use Rattle.cpu.specs.declared.kinds.Lead.{Lead}

abbrev pub code : (o b d at : ℕ) → Result Lead Fault
code o b d at = Ok (record { opening = o; code = b; displacement = d; at = at })

unfoldable pub lead_by : Result ℕ Fault → (ℕ → Result Lead Fault) → Result Lead Fault
lead_by (Ok b) f = f b
lead_by (Err e) f = Err e

module _ (user : Bool) (mmu : ℕ) (ds w : List ℕ) where
  unfoldable pub lead_fourth : (a o d : ℕ) → Result Lead Fault
  lead_fourth a o d = lead_by (read_from user mmu ds w true a) (λ b. code o (b % 256) d (next a))

  unfoldable pub lead_third : (a o : ℕ) → Result Lead Fault
  lead_third a o =
      lead_by (read_from user mmu ds w true a)
      (λ b. cond (ltb o 7) (lead_fourth (next a) o (b % 256)) (code o (b % 256) 0 (next a)))

  unfoldable pub lead_second : (a o b : ℕ) → Result Lead Fault
  lead_second a o b = cond (eqb (after_opening o b) 0) (code o b 0 a) (lead_third a (after_opening o b))

  unfoldable pub lead_first : (a b : ℕ) → Result Lead Fault
  lead_first a b =
      cond (eqb (opening_of b) 0) (code 0 b 0 a)
      (lead_by (read_from user mmu ds w true a) (λ k. lead_second (next a) (opening_of b) (k % 256)))

  unfoldable pub lead_of : (pc : ℕ) → Result Lead Fault
  lead_of pc = lead_by (read_from user mmu ds w true pc) (λ b. lead_first (next pc) (b % 256))

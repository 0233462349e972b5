-- Document 01, "Known steps": the system call that is delivered.
use Rattle.std.specs.Prelude.{ℕ, ◌+◌, ◌/◌, ◌%◌, ◌<◌, ◌≤◌, ◌≡◌, true, false, List, [], ◌∷◌, length, get_or}
use Rattle.regs.specs.declared.Machine.{Machine}
use Rattle.mmu.specs.Translate.{bit}
use Rattle.plan.specs.declared.kinds.Stop.TheVariants.{Call}
use Rattle.bus.specs.declared.kinds.Event.TheVariants.{Stopped}
use Rattle.legal.specs.Legal.{whole_frames, allowed_bits}
use Rattle.saves.specs.Saves.{Outcome, vector_at}
use Rattle.deliver.specs.Deliver.{deliver_of}

-- the six bytes from 1FFAh upward
abbrev pub six : List ℕ → List ℕ
six w =
    get_or w 0x1FFA 0 ∷ get_or w 0x1FFB 0 ∷ get_or w 0x1FFC 0 ∷ get_or w 0x1FFD 0 ∷ get_or w 0x1FFE 0 ∷ get_or w 0x1FFF 0 ∷ []

pub record Called (m : Machine) (next : ℕ) (o : Outcome) : Type 0 where
  pub taken : o.answer.refusal ≡ 0
  pub sp : o.answer.machine.regs.ssp ≡ 0x1FFA
  pub bytes : six o.memory ≡ 0x34 ∷ 0x12 ∷ m.ctl.msr % 256 ∷ m.ctl.msr / 256 ∷ next % 256 ∷ next / 256 ∷ []

-- system call, operand 1234h, SP 2000h, no translation: for every other register, memory and address
abbrev pub SystemCall : Type 0
SystemCall =
    (m : Machine) (w : List ℕ) (next : ℕ) → whole_frames (length w) ≡ true → allowed_bits m ≡ true →
    0x2000 ≤ length w → vector_at m.ctl 0x50 + 3 < length w → m.regs.ssp ≡ 0x2000 → bit 0x0800 m.mmu ≡ false →
    Called m next (deliver_of m w (Stopped (Call 0x1234 next)))

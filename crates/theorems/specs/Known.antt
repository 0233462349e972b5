-- Document 01's known steps P1 to P11 in one table, of the definitions.
use Rattle.std.specs.Prelude.{ℕ, ◌+◌, ◌*◌, ◌/◌, ◌%◌, ◌<◌, ◌≡◌, true, false, List, [], ◌∷◌, length, get_or}
use Rattle.mmu.specs.Translate.{bit, valid, protected}
use Rattle.mmu.specs.Known.{P1, P2, P3}
use Rattle.sums.specs.Known.{P4, P5, P6, P7, P8}
use Rattle.logic.specs.Known.{P9}
use Rattle.products.specs.Known.{P10}
use Rattle.board.specs.Program.{completed, violation}
use Rattle.regs.specs.declared.Machine.{Machine}
use Rattle.regs.specs.Select.{user_of}
use Rattle.host.specs.Host.{machine_in, refusal_of, StepOutcome, step_of}
use Rattle.valid.specs.Valid.{make_valid}
use Rattle.theorems.specs.Withhold.{withheld}

-- where page d has the byte of a logical address, not separated
abbrev pub byte_in : (d a : ℕ) → ℕ
byte_in d a = d / 16 * 4096 + a % 4096

-- descriptor d is valid, its page unprotected and backed
pub record Backed (d n : ℕ) : Type 0 where
  pub good : valid d ≡ true
  pub free : protected d ≡ false
  pub there : d / 16 * 4096 + 4095 < n

-- user PUSH of a register pair (C5h, D5h, E5h, F5h: BC, DE, HL, AF by q), not separated, fetched from page 2, SP 1001h,
-- pages 0 to 2 backed and unprotected
pub record Pushing (q d0 d1 d2 : ℕ) (rest : List ℕ) (m : Machine) (mem : List ℕ) : Type 0 where
  pub called : refusal_of m (length mem) ≡ 0
  pub user : user_of m.ctl ≡ true
  pub translated : bit 0x8000 m.mmu ≡ true
  pub whole : bit 0x4000 m.mmu ≡ false
  pub sp : m.regs.usp ≡ 0x1001
  pub page : m.regs.pc / 4096 ≡ 2
  pub pages : m.ds ≡ d0 ∷ d1 ∷ d2 ∷ rest
  pub backed0 : Backed d0 (length mem)
  pub backed1 : Backed d1 (length mem)
  pub backed2 : Backed d2 (length mem)
  pub pair : q < 4
  pub code : get_or mem (byte_in d2 m.regs.pc) 0 ≡ 0xC5 + 16 * q

-- the step of a record and a memory; the record and the memory after it, with the mark of i set
abbrev pub marked_at : ℕ → StepOutcome → Machine
marked_at i o = (make_valid (machine_in o.answer.state) i).machine

module _ (m : Machine) (mem : List ℕ) where
  abbrev pub first : StepOutcome
  first = step_of (withheld (0 ∷ 1 ∷ []) m) mem

  abbrev pub second : StepOutcome
  second = step_of (marked_at 0 first) first.answer.state.mem

  abbrev pub third : StepOutcome
  third = step_of (marked_at 1 second) second.answer.state.mem

-- 0 and 1 withheld: descriptor 0, then 1, then completion with SP 0FFFh
pub record Pushed (m : Machine) (mem : List ℕ) : Type 0 where
  pub zero : (first m mem).answer.event ≡ violation 0 m.regs.pc
  pub one : (second m mem).answer.event ≡ violation 1 m.regs.pc
  pub done : (third m mem).answer.event ≡ completed
  pub sp : (third m mem).answer.state.regs.usp ≡ 0x0FFF

abbrev pub P11 : Type 0
P11 =
    (q d0 d1 d2 : ℕ) (rest : List ℕ) (m : Machine) (mem : List ℕ) → Pushing q d0 d1 d2 rest m mem → Pushed m mem

pub record KnownSteps : Type 0 where
  pub p1 : P1
  pub p2 : P2
  pub p3 : P3
  pub p4 : P4
  pub p5 : P5
  pub p6 : P6
  pub p7 : P7
  pub p8 : P8
  pub p9 : P9
  pub p10 : P10
  pub p11 : P11

-- Making a page valid: document 01.
use Rattle.std.specs.Prelude.{ℕ, cond, ltb, get_or, Result, Ok, Err}
use Rattle.regs.specs.declared.Machine.{Machine}
use Rattle.mmu.specs.Translate.{valid, set_valid, change}
use Rattle.legal.specs.Legal.{allowed_bits}
use Rattle.legal.specs.declared.refusal.Refused.{Refused}
use Rattle.legal.specs.Refusal.{number_of}

-- an answer: 0 or the refusal's number, and the machine
pub record Made : Type 0 where
  pub refusal : ℕ
  pub machine : Machine

abbrev pub unmade : ℕ → Machine → Made
unmade k m = record { refusal = k; machine = m }

abbrev pub made : Result Machine Refused → Made
made (Ok t) = record { refusal = 0; machine = t }
made (Err x) = unmade (number_of x.refusal) x.machine

-- the valid bit of descriptor n, and nothing else
abbrev pub made_valid : Machine → ℕ → Machine
made_valid m n = record { regs = m.regs; ctl = m.ctl; mmu = m.mmu; ds = change set_valid n m.ds }

unfoldable pub make_valid : Machine → ℕ → Made
make_valid m n =
    cond (allowed_bits m)
    (cond (ltb n 32)
    (cond (valid (get_or m.ds n 0)) (unmade 7 m) (record { refusal = 0; machine = made_valid m n }))
    (unmade 6 m))
    (unmade 2 m)

-- Document 01, "Known steps": the last descriptor made valid.
use Rattle.std.specs.Prelude.{◌≡◌, true, false, get_or}
use Rattle.regs.specs.declared.Machine.{Machine}
use Rattle.mmu.specs.Translate.{valid}
use Rattle.legal.specs.Legal.{allowed_bits}
use Rattle.valid.specs.Valid.{unmade, made_valid, make_valid}

-- descriptor 31 can be made valid, 32 is refusal 6
abbrev pub LastDescriptor : Type 0
LastDescriptor =
    (m : Machine) → allowed_bits m ≡ true → valid (get_or m.ds 31 0) ≡ false →
    (make_valid m 31 ≡ record { refusal = 0; machine = made_valid m 31 }) × (make_valid m 32 ≡ unmade 6 m)

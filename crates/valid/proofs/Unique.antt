-- No two answers meet the promise of the call.
use Rattle.std.specs.Prelude.{◌≡◌, ℕ, Result, Ok, Err}
use Rattle.std.proofs.Common.{refl, sym, ◌∙◌, ap}
use Rattle.regs.specs.declared.Machine.{Machine}
use Rattle.legal.specs.declared.refusal.Refused.{Refused}
use Rattle.legal.proofs.Numbers.{recorded, record_back}
use Rattle.valid.specs.Valid.{Made, made, make_valid}

abbrev answer : Made → Result Machine Refused
answer x = recorded x.refusal x.machine x.machine

answer_back : (r : Result Machine Refused) → answer (made r) ≡ r
answer_back (Ok t) = refl
answer_back (Err x) = record_back x x.machine

pub made_once : (m : Machine) (n : ℕ) (r s : Result Machine Refused) → made r ≡ make_valid m n → made s ≡ make_valid m n → r ≡ s
made_once m n r s p q = sym (answer_back r) ∙ ap answer (p ∙ sym q) ∙ answer_back s

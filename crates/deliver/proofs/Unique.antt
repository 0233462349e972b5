-- No two answers, and no two memories, meet the promise of the call.
use Prim.Native.Nat.{ℕ}
use mathlib.Core.Path.{◌≡◌, refl, sym, ◌∙◌, ap}
use mathlib.Core.List.{List}
use Rattle.regs.specs.declared.Machine.{Machine}
use Rattle.std.specs.Prelude.{Result, Ok, Err}
use Rattle.bus.specs.declared.kinds.Event.{Event}
use Rattle.legal.specs.declared.refusal.Refused.{Refused}
use Rattle.legal.proofs.Numbers.{recorded, record_back}
use Rattle.saves.specs.Saves.{Outcome, outcome}
use Rattle.deliver.specs.Deliver.{deliver_of}

abbrev answer : Outcome → Result Machine Refused
answer o = recorded o.answer.refusal o.answer.machine o.answer.machine

answer_back : (r : Result Machine Refused) (w : List ℕ) → answer (outcome r w) ≡ r
answer_back (Ok t) w = refl
answer_back (Err x) w = record_back x x.machine

bytes_back : (r : Result Machine Refused) (w : List ℕ) → (outcome r w).memory ≡ w
bytes_back (Ok t) w = refl
bytes_back (Err x) w = refl

pub delivered_once : (m : Machine) (w : List ℕ) (e : Event) (r s : Result Machine Refused) (w' v' : List ℕ) →
    outcome r w' ≡ deliver_of m w e → outcome s v' ≡ deliver_of m w e → (r ≡ s) × (w' ≡ v')
delivered_once m w e r s w' v' p q = (
  sym (answer_back r w') ∙ ap answer (p ∙ sym q) ∙ answer_back s v',
  sym (bytes_back r w') ∙ ap (λ (o : Outcome). o.memory) (p ∙ sym q) ∙ bytes_back s v',
)

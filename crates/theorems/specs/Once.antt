-- Determination, stated: no two answers, and no two memories, meet the promise of a public call.
-- Each premise is the call's `ensures`, word for word, with the lent bytes afterwards named.
use Rattle.std.specs.Prelude.{ℕ, ◌≡◌, List, length, Result}
use Rattle.regs.specs.declared.Machine.{Machine}
use Rattle.bus.specs.declared.kinds.Event.{Event}
use Rattle.legal.specs.declared.refusal.Refusal.{Refusal}
use Rattle.legal.specs.Refusal.{refused_by}
use Rattle.legal.specs.declared.refusal.Refused.{Refused}
use Rattle.host.specs.declared.Stepped.{Stepped}
use Rattle.steps.specs.declared.Ran.{Ran}
use Rattle.host.specs.Host.{stepped, step_of, ran, run_of}
use Rattle.valid.specs.Valid.{made, make_valid}
use Rattle.saves.specs.Saves.{outcome}
use Rattle.deliver.specs.Deliver.{deliver_of}
use Rattle.form.specs.declared.Restored.{Restored}
use Rattle.form.specs.declared.Unread.{Unread}
use Rattle.form.specs.Form.{write_refusal, written, reading, read_form}

-- r and w' are an answer and the memory after it, s and v' another's
pub record Determined : Type 0 where
  pub step : (m : Machine) (w : List ℕ) (r s : Result Stepped Refused) (w' v' : List ℕ) →
      stepped r w' ≡ step_of m w → stepped s v' ≡ step_of m w → (r ≡ s) × (w' ≡ v')
  pub run : (m : Machine) (w : List ℕ) (budget : ℕ) (r s : Result Ran Refused) (w' v' : List ℕ) →
      ran r w' ≡ run_of m w budget → ran s v' ≡ run_of m w budget → (r ≡ s) × (w' ≡ v')
  pub deliver : (m : Machine) (w : List ℕ) (e : Event) (r s : Result Machine Refused) (w' v' : List ℕ) →
      outcome r w' ≡ deliver_of m w e → outcome s v' ≡ deliver_of m w e → (r ≡ s) × (w' ≡ v')
  pub making_valid : (m : Machine) (n : ℕ) (r s : Result Machine Refused) → made r ≡ make_valid m n → made s ≡ make_valid m n → r ≡ s
  pub writing_form : (m : Machine) (frames : ℕ) (out : List ℕ) (r s : Result (Unit {0}) Refusal) (out' other : List ℕ) →
      (refused_by r ≡ write_refusal m frames (length out)) × (out' ≡ written m frames out) →
      (refused_by s ≡ write_refusal m frames (length out)) × (other ≡ written m frames out) → (r ≡ s) × (out' ≡ other)
  pub reading_form : (s : List ℕ) (r t : Result Restored Unread) → reading r ≡ read_form s → reading t ≡ read_form s → r ≡ t

-- A law for each way out of step and run, over plain values.
use Prim.Native.Nat.{ℕ}
use mathlib.Core.Path.{◌≡◌, sym, ◌∙◌, ap}
use mathlib.Core.Bool.{true, false}
use mathlib.Core.List.{List}
use Rattle.std.specs.Prelude.{Ok, Err}
use lib.Dec.{eqb}
use lib.ListN.{length}
use Rattle.bus.specs.Leave.{event_of}
use Rattle.legal.specs.declared.refusal.Refusal.{Refusal}
use Rattle.legal.specs.declared.refusal.Refused.{Refused}
use Rattle.legal.specs.Refusal.{number_of}
use Rattle.legal.proofs.Numbers.{not_0}
use Rattle.form.specs.declared.Restored.{Restored}
use Rattle.form.specs.Form.{Reading, reading, written, read_form}
use Rattle.form.proofs.Accepted.{accepted, whole}
use Rattle.events.specs.Events.{event_numbers}
use Rattle.events.specs.Bytes.{answer_bytes}
use Rattle.host.specs.declared.Stepped.{Stepped}
use Rattle.steps.specs.declared.Ran.{Ran}
use Rattle.host.specs.Host.{refusal_of, StepOutcome, stepped, step_of, Outcome, ran, run_of}
use Rattle.lent.specs.Lent.{lent_refusal, completed_by}
use Rattle.lent.proofs.Laws.{taken}
use Rattle.z280.specs.Calls.{answered, step_read, step_form, run_read, run_form}

-- ---- an accepted form with exactly its frames is refused by neither

admitted : (s : List ℕ) (memory bytes : ℕ) → 0 ≡ lent_refusal (read_form s) memory bytes → refusal_of (read_form s).machine memory ≡ 0
unfolding refusal_of
admitted s memory bytes h =
    let t = taken (read_form s) memory bytes (sym h) in
    let a = accepted s t.0 in
    rw (t.1, whole (read_form s).frames a.some a.few, a.allowed)

contradicted : (k : Refusal) (n : ℕ) → number_of k ≡ n → n ≡ 0 → ⊥
contradicted k n e h = let z : eqb (number_of k) 0 ≡ true = rw (e, h) in let y : true ≡ false = sym z ∙ not_0 k in cc

module _ (s w e : List ℕ) where
  pub step_refused : (k : Refusal) → number_of k ≡ lent_refusal (read_form s) (length w) (length e) → answered (number_of k) s w e ≡ step_form s w e
  unfolding step_form step_read
  step_refused k q = rw (← q, not_0 k)

  pub run_refused : (budget : ℕ) (k : Refusal) → number_of k ≡ lent_refusal (read_form s) (length w) (length e) →
      answered (number_of k) s w e ≡ run_form s w budget e
  unfolding run_form run_read
  run_refused budget k q = rw (← q, not_0 k)

  module _ (a : Restored) (q : 0 ≡ lent_refusal (read_form s) (length w) (length e)) (p : reading (Ok a) ≡ read_form s) where
    fine : refusal_of a.machine (length w) ≡ 0
    fine = ap (λ (r : Reading). refusal_of r.machine (length w)) p ∙ admitted s (length w) (length e) q

    pub step_never : (x : Refused) (w' : List ℕ) → stepped (Err x) w' ≡ step_of a.machine w → ⊥
    unfolding step_of
    step_never x w' f = contradicted x.refusal _ (ap (λ (o : StepOutcome). o.refusal) f) fine

    pub run_never : (budget : ℕ) (x : Refused) (w' : List ℕ) → ran (Err x) w' ≡ run_of a.machine w budget → ⊥
    unfolding run_of
    run_never budget x w' f = contradicted x.refusal _ (ap (λ (o : Outcome). o.refusal) f) fine

    pub step_on : (r : Stepped) (w' : List ℕ) → stepped (Ok r) w' ≡ step_of a.machine w →
        (steps : ℕ) → steps ≡ completed_by (event_of r.event) → (e' : List ℕ) → e' ≡ answer_bytes (event_numbers (event_of r.event)) steps →
        (s' : List ℕ) → s' ≡ written r.machine a.frames s → answered 0 s' w' e' ≡ step_form s w e
    unfolding step_form step_read
    step_on r w' x steps y e' z s' f = rw (← q, ← p, ← x, f, z, y)

    pub run_on : (budget : ℕ) (r : Ran) (w' : List ℕ) → ran (Ok r) w' ≡ run_of a.machine w budget →
        (e' : List ℕ) → e' ≡ answer_bytes (event_numbers (event_of r.event)) r.steps →
        (s' : List ℕ) → s' ≡ written r.machine a.frames s → answered 0 s' w' e' ≡ run_form s w budget e
    unfolding run_form run_read
    run_on budget r w' x e' z s' f = rw (← q, ← p, ← x, f, z)

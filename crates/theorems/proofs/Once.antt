-- No two answers meet a promise: what stands on the promise's left side can be taken back from it.
use Prim.Native.Nat.{ℕ}
use mathlib.Core.Path.{◌≡◌, refl, sym, ◌∙◌, ap}
use mathlib.Core.List.{List}
use mathlib.Core.Bool.{cond}
use lib.Dec.{eqb}
use Rattle.board.specs.Program as b
use Rattle.board.specs.Run.{ended}
use Rattle.bus.specs.declared.kinds.Event.{Event}
use Rattle.bus.specs.declared.kinds.Event.TheVariants.{Completed, Violation, Absent, Stopped}
use Rattle.bus.specs.Board.{real}
use Rattle.bus.specs.Leave.{event_of}
use Rattle.std.specs.Prelude.{Result, Ok, Err}
use Rattle.regs.specs.declared.Machine.{Machine}
use Rattle.legal.specs.declared.refusal.Refusal.{Refusal}
use Rattle.legal.proofs.Numbers.{numbered, not_0, numbered_back, once, recorded, record_back}
use Rattle.legal.specs.declared.refusal.Refused.{Refused}
use Rattle.host.specs.declared.Stepped.{Stepped}
use Rattle.steps.specs.declared.Ran.{Ran}
use Rattle.host.specs.Host.{machine_in, StepOutcome, stepped, Outcome, ran}
use Rattle.valid.proofs.Unique.{made_once}
use Rattle.deliver.proofs.Unique.{delivered_once}
use Rattle.form.specs.declared.Restored.{Restored}
use Rattle.form.specs.declared.Unread.{Unread}
use Rattle.form.specs.Form.{Reading, reading}
use Rattle.theorems.specs.Once.{Determined}

event_in : b.Event real → Event
event_in b.completed = Completed
event_in (b.violation i a) = Violation i a
event_in (b.absent p) = Absent p
event_in (b.other e) = Stopped e

event_back : (e : Event) → event_in (event_of e) ≡ e
unfolding event_in event_of
event_back Completed = refl
event_back (Violation i a) = refl
event_back (Absent p) = refl
event_back (Stopped e) = refl

abbrev step_in : StepOutcome → Result Stepped Refused
step_in o =
    let m : Machine = machine_in o.answer.state in
    recorded o.refusal m (record { machine = m; event = event_in o.answer.event })

step_back : (r : Result Stepped Refused) (w : List ℕ) → step_in (stepped r w) ≡ r
step_back (Ok r) w = ap (λ (e : Event). Ok (record { machine = r.machine; event = e })) (event_back r.event)
step_back (Err x) w = record_back x (record { machine = x.machine; event = event_in b.completed })

step_bytes : (r : Result Stepped Refused) (w : List ℕ) → (stepped r w).answer.state.mem ≡ w
step_bytes (Ok r) w = refl
step_bytes (Err x) w = refl

abbrev run_in : Outcome → Result Ran Refused
run_in o =
    let m : Machine = machine_in o.ran.state in
    recorded o.refusal m (record { machine = m; event = event_in o.ran.event; steps = o.ran.steps })

run_back : (r : Result Ran Refused) (w : List ℕ) → run_in (ran r w) ≡ r
unfolding ended
run_back (Ok r) w =
    ap (λ (e : Event). Ok (record { machine = r.machine; event = e; steps = r.steps })) (event_back r.event)
run_back (Err x) w = record_back x (record { machine = x.machine; event = event_in b.completed; steps = 0 })

run_bytes : (r : Result Ran Refused) (w : List ℕ) → (ran r w).ran.state.mem ≡ w
unfolding ended
run_bytes (Ok r) w = refl
run_bytes (Err x) w = refl

abbrev read_in : Reading → Result Restored Unread
read_in x =
    let r : Restored = record { machine = x.machine; frames = x.frames } in
    cond (eqb x.refusal 0) (Ok r) (Err (record { refusal = numbered x.refusal; restored = r }))

read_back : (r : Result Restored Unread) → read_in (reading r) ≡ r
read_back (Ok r) = refl
read_back (Err u) = rw (not_0 u.refusal, numbered_back u.refusal)

pub determined : Determined
determined =
    record {
      step =
          λ m w r s w' v' p q. (
            sym (step_back r w') ∙ ap step_in (p ∙ sym q) ∙ step_back s v',
            sym (step_bytes r w') ∙ ap (λ (o : StepOutcome). o.answer.state.mem) (p ∙ sym q) ∙ step_bytes s v',
          );
      run =
          λ m w budget r s w' v' p q. (
            sym (run_back r w') ∙ ap run_in (p ∙ sym q) ∙ run_back s v',
            sym (run_bytes r w') ∙ ap (λ (o : Outcome). o.ran.state.mem) (p ∙ sym q) ∙ run_bytes s v',
          );
      deliver = delivered_once;
      making_valid = made_once;
      writing_form =
          λ m frames out r s out' other p q. (
            once r s (p.0 ∙ sym q.0),
            p.1 ∙ sym q.1,
          );
      reading_form = λ s r t p q. sym (read_back r) ∙ ap read_in (p ∙ sym q) ∙ read_back t;
    }

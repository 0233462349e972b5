-- The calls for C, stated: determination, the orders of their refusals, and that they are the calls of Rattle on what the form reads as.
-- s is the stored form, w the memory, e the answer's or event's bytes; a prime names them afterwards.
use Rattle.std.specs.Prelude.{ℕ, ◌*◌, ◌<◌, ◌≢◌, ◌≡◌, not, ◌&&◌, List, [], ◌∷◌, ◌++◌, eqb, leb, ltb, length, get_or}
use Rattle.board.specs.Program.{violation}
use Rattle.board.specs.Run.{step, run}
use Rattle.mmu.specs.Translate.{valid}
use Rattle.regs.specs.declared.Machine.{Machine}
use Rattle.bus.specs.declared.kinds.Event.{Event}
use Rattle.bus.specs.Leave.{event_of}
use Rattle.cpu.specs.Machine.{machine_state}
use Rattle.cpu.specs.Program.{program}
use Rattle.host.specs.Host.{machine_in, step_of, run_of}
use Rattle.valid.specs.Valid.{make_valid}
use Rattle.deliver.specs.Deliver.{trap_of, deliver_of}
use Rattle.form.specs.Form.{read_form, write_refusal}
use Rattle.events.specs.Events.{event_numbers}
use Rattle.events.specs.Bytes.{answer_bytes}
use Rattle.handed.specs.Handed.{event_in}
use Rattle.handed.specs.Codec.{InRange}
use Rattle.lent.specs.Lent.{formed, reset_form, moved, deliver_form, make_form}
use Rattle.z280.specs.Calls.{answered, step_form, run_form}
use Rattle.theorems.specs.Refusals.{Test, test, refusal_by, deliverable, fatal, read_tests}

-- ── no two answers, and no two sets of lent bytes, meet a promise ──

-- each premise is the call's `ensures`, word for word
pub record DeterminedForC : Type 0 where
  pub reset : (s : List ℕ) (frames k j : ℕ) (s' t' : List ℕ) →
      formed k s' ≡ reset_form s frames → formed j t' ≡ reset_form s frames → (k ≡ j) × (s' ≡ t')
  pub step : (s w e : List ℕ) (k j : ℕ) (s' t' w' v' e' f' : List ℕ) →
      answered k s' w' e' ≡ step_form s w e → answered j t' v' f' ≡ step_form s w e → (k ≡ j) × (s' ≡ t') × (w' ≡ v') × (e' ≡ f')
  pub run : (s w : List ℕ) (budget : ℕ) (e : List ℕ) (k j : ℕ) (s' t' w' v' e' f' : List ℕ) →
      answered k s' w' e' ≡ run_form s w budget e → answered j t' v' f' ≡ run_form s w budget e →
      (k ≡ j) × (s' ≡ t') × (w' ≡ v') × (e' ≡ f')
  pub deliver : (s w e : List ℕ) (k j : ℕ) (s' t' w' v' : List ℕ) →
      moved k s' w' ≡ deliver_form s w e → moved j t' v' ≡ deliver_form s w e → (k ≡ j) × (s' ≡ t') × (w' ≡ v')
  pub making_valid : (s : List ℕ) (i k j : ℕ) (s' t' : List ℕ) →
      formed k s' ≡ make_form s i → formed j t' ≡ make_form s i → (k ≡ j) × (s' ≡ t')

-- ── the orders of refusals; a refused call changes no byte ──

abbrev pub reset_tests : (s : List ℕ) (frames : ℕ) → List Test
reset_tests s frames = test 3 (not (eqb (length s) 101)) ∷ test 1 (not (leb 1 frames && leb frames 16)) ∷ []

-- the memory is exactly the form's frames; twelve bytes are lent
abbrev pub buffer_tests : (s w e : List ℕ) → List Test
buffer_tests s w e = test 1 (not (eqb (length w) ((read_form s).frames * 4096))) ∷ test 3 (not (eqb (length e) 12)) ∷ []

abbrev pub lent_tests : (s w e : List ℕ) → List Test
lent_tests s w e = read_tests s ++ buffer_tests s w e

-- delivery's own, and making valid's own
abbrev pub trap_tests : (s w e : List ℕ) → List Test
trap_tests s w e =
    test 8 (not (deliverable (event_in e))) ∷ test 9 (fatal (read_form s).machine w (trap_of (event_in e))) ∷ []

abbrev pub mark_tests : (s : List ℕ) (i : ℕ) → List Test
mark_tests s i = test 6 (ltb 31 i) ∷ test 7 (valid (get_or (read_form s).machine.ds i 0)) ∷ []

pub record RefusedForC : Type 0 where
  pub reset : (s : List ℕ) (frames : ℕ) → (reset_form s frames).refusal ≡ refusal_by (reset_tests s frames)
  pub reset_refused : (s : List ℕ) (frames : ℕ) → (reset_form s frames).refusal ≢ 0 → (reset_form s frames).form ≡ s
  pub step : (s w e : List ℕ) → (step_form s w e).refusal ≡ refusal_by (lent_tests s w e)
  pub step_refused : (s w e : List ℕ) → (step_form s w e).refusal ≢ 0 → step_form s w e ≡ answered (step_form s w e).refusal s w e
  pub run : (s w : List ℕ) (budget : ℕ) (e : List ℕ) → (run_form s w budget e).refusal ≡ refusal_by (lent_tests s w e)
  pub run_refused : (s w : List ℕ) (budget : ℕ) (e : List ℕ) → (run_form s w budget e).refusal ≢ 0 →
      run_form s w budget e ≡ answered (run_form s w budget e).refusal s w e
  pub deliver : (s w e : List ℕ) → (deliver_form s w e).refusal ≡ refusal_by (read_tests s ++ buffer_tests s w e ++ trap_tests s w e)
  pub deliver_refused : (s w e : List ℕ) → (deliver_form s w e).refusal ≢ 0 → deliver_form s w e ≡ moved (deliver_form s w e).refusal s w
  pub making_valid : (s : List ℕ) (i : ℕ) → (make_form s i).refusal ≡ refusal_by (read_tests s ++ mark_tests s i)
  pub make_valid_refused : (s : List ℕ) (i : ℕ) → (make_form s i).refusal ≢ 0 → (make_form s i).form ≡ s

-- ── where the buffers are taken, the work is that of the defined machine, and the writer takes back what it left ──

pub record WorksForC : Type 0 where
  pub step : (s w e : List ℕ) → (step_form s w e).refusal ≡ 0 →
      (step_of (read_form s).machine w).answer ≡ step program (machine_state (read_form s).machine w)
  pub run : (s w : List ℕ) (budget : ℕ) (e : List ℕ) → (run_form s w budget e).refusal ≡ 0 →
      (run_of (read_form s).machine w budget).ran ≡ run program budget (machine_state (read_form s).machine w)
  pub step_back : (s w : List ℕ) → (read_form s).refusal ≡ 0 →
      write_refusal (machine_in (step_of (read_form s).machine w).answer.state) (read_form s).frames (length s) ≡ 0
  pub run_back : (s w : List ℕ) (budget : ℕ) → (read_form s).refusal ≡ 0 →
      write_refusal (machine_in (run_of (read_form s).machine w budget).ran.state) (read_form s).frames (length s) ≡ 0
  pub deliver_back : (s w : List ℕ) (v : Event) → (read_form s).refusal ≡ 0 →
      write_refusal (deliver_of (read_form s).machine w v).answer.machine (read_form s).frames (length s) ≡ 0
  pub make_back : (s : List ℕ) (i : ℕ) → (read_form s).refusal ≡ 0 →
      write_refusal (make_valid (read_form s).machine i).machine (read_form s).frames (length s) ≡ 0
  -- An answer delivered as it came is its event delivered. `InRange` asks that addresses and operand have 16 bits, as the code's types
  -- have them, and a descriptor below 32, which the next two say.
  pub answer_delivered : (s w : List ℕ) (v : Event) (steps : ℕ) → InRange v →
      deliver_of (read_form s).machine w (event_in (answer_bytes (event_numbers (event_of v)) steps)) ≡ deliver_of (read_form s).machine w v
  pub step_descriptor : (m : Machine) (w : List ℕ) (i a : ℕ) → (step_of m w).answer.event ≡ violation i a → i < 32
  pub run_descriptor : (m : Machine) (w : List ℕ) (budget i a : ℕ) → (run_of m w budget).ran.event ≡ violation i a → i < 32
  -- a step is a run of one
  pub step_is_run : (s w e : List ℕ) → step_form s w e ≡ run_form s w 1 e

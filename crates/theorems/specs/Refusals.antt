-- Demand 1, stated: each public call refuses by document 01's numbers in document 01's order, and a refused call changes nothing.
-- That a call is total needs no statement here: its promise has no premise, and its definition below is a function of all inputs.
use Rattle.std.specs.Prelude as std
use Rattle.std.specs.Prelude.{Some, None, ℕ, ◌+◌, ◌≢◌, ◌↔◌, ◌≡◌, Bool, true, false, cond, not, ◌&&◌, ◌||◌, List, [], ◌∷◌, eqb, leb, ltb, length, get_or}
use Rattle.std.proofs.Math.Option.{Option, none, some}
use Rattle.mmu.specs.Translate.{valid}
use Rattle.pack.specs.Pack.{unpack}
use Rattle.board.specs.Program.{completed}
use Rattle.regs.specs.declared.Machine.{Machine}
use Rattle.plan.specs.declared.kinds.Stop.{Stop}
use Rattle.plan.specs.declared.kinds.Stop.TheVariants.{Privileged, Call, Extended, Halted, Break, Port, Nothing}
use Rattle.legal.specs.Legal.{whole_frames, allowed_bits, reset_record}
use Rattle.bus.specs.declared.kinds.Event.{Event}
use Rattle.bus.specs.declared.kinds.Event.TheVariants.{Completed, Violation, Absent, Stopped}
use Rattle.cpu.specs.Machine.{machine_state}
use Rattle.host.specs.Host.{run_of, step_of}
use Rattle.valid.specs.Valid.{make_valid}
use Rattle.saves.specs.Saves.{pushed, all_passed, vector_at, word_at}
use Rattle.deliver.specs.declared.traps.Trap.{Trap}
use Rattle.deliver.specs.declared.traps.Trap.TheVariants.{Two, Three}
use Rattle.deliver.specs.Deliver.{trap_of, deliver_of}
use Rattle.form.specs.Form.{widths, machine_of, frames_of, write_refusal, written, read_form}

-- ── the order ──

-- a refusal's number, and whether there is cause for it
pub record Test : Type 0 where
  pub number : ℕ
  pub cause : Bool

abbrev pub test : ℕ → Bool → Test
test k b = record { number = k; cause = b }

-- the number of the first test that has cause; 0 where none has
abbrev pub refusal_by : List Test → ℕ
refusal_by [] = 0
refusal_by (t ∷ ts) = cond t.cause t.number (refusal_by ts)

-- the same in words: k is given exactly when its test has cause and none before it
pub data Given : List Test → ℕ → Type 0 where
  no_cause : Given [] 0
  here : (k : ℕ) (ts : List Test) → Given (test k true ∷ ts) k
  later : (j : ℕ) (k : ℕ) (ts : List Test) → Given ts k → Given (test j false ∷ ts) k

-- ── document 01's tests, in its orders ──

abbrev pub run_tests : Machine → (w : List ℕ) → List Test
run_tests m w = test 1 (not (whole_frames (length w))) ∷ test 2 (not (allowed_bits m)) ∷ []

-- events 1, 3, 4 and 7
unfoldable pub deliverable : Event → Bool
deliverable Completed = false
deliverable (Violation i a) = true
deliverable (Absent p) = false
deliverable (Stopped e) = trapping e
  where
    trapping : Stop → Bool
    trapping (Privileged a) = true
    trapping (Call operand next) = true
    trapping (Extended a) = false
    trapping Halted = false
    trapping (Break a) = true
    trapping (Port p out) = false
    trapping (Nothing a) = false

abbrev pub missing : Option ℕ → Bool
missing (some v) = false
missing none = true

-- a push violates or lacks memory, or a word of the vector lacks memory once all is pushed
unfoldable pub lost : Machine → List ℕ → (offset : ℕ) → List ℕ → Bool
lost m w offset vs =
    not (all_passed (pushed m w vs).event) ||
    missing (word_at (pushed m w vs).state.mem (vector_at m.ctl offset)) ||
    missing (word_at (pushed m w vs).state.mem (vector_at m.ctl offset + 2))

unfoldable pub fatal : Machine → List ℕ → std.Option Trap → Bool
fatal m w (Some (Two offset address)) = lost m w offset (address ∷ m.ctl.msr ∷ [])
fatal m w (Some (Three offset address operand)) = lost m w offset (address ∷ m.ctl.msr ∷ operand ∷ [])
fatal m w None = false

abbrev pub deliver_tests : Machine → (w : List ℕ) → Event → List Test
deliver_tests m w e =
    test 1 (not (whole_frames (length w))) ∷ test 2 (not (allowed_bits m)) ∷ test 8 (not (deliverable e)) ∷ test 9 (fatal m w (trap_of e)) ∷ []

abbrev pub valid_tests : Machine → (n : ℕ) → List Test
valid_tests m n = test 2 (not (allowed_bits m)) ∷ test 6 (ltb 31 n) ∷ test 7 (valid (get_or m.ds n 0)) ∷ []

abbrev pub write_tests : Machine → (frames : ℕ) (out : List ℕ) → List Test
write_tests m frames out =
    test 1 (not (leb 1 frames && leb frames 16)) ∷ test 2 (not (allowed_bits m)) ∷ test 3 (ltb (length out) 101) ∷ []

-- fields 0, 1 and 55 of a form are its version, its frames less one and its padding
abbrev pub read_tests : (s : List ℕ) → List Test
read_tests s =
    let v : List ℕ = unpack widths s in
    test 3 (not (eqb (length s) 101)) ∷ test 4 (not (eqb (get_or v 0 0) 1)) ∷ test 10 (not (leb (frames_of v) 16)) ∷
    test 2 (not (allowed_bits (machine_of v))) ∷ test 5 (not (eqb (get_or v 55 0) 0)) ∷ []

-- ── the statement ──

pub record Demand1 : Type 0 where
  -- what `refusal_by` means
  pub exactly : (ts : List Test) (k : ℕ) → (refusal_by ts ≡ k) ↔ Given ts k
  -- refused, step and run give event 0, no steps, the record and every byte as they were
  pub step : (m : Machine) (w : List ℕ) → (step_of m w).refusal ≡ refusal_by (run_tests m w)
  pub step_refused : (m : Machine) (w : List ℕ) → (step_of m w).refusal ≢ 0 →
      (step_of m w).answer ≡ record { state = machine_state m w; event = completed }
  pub run : (m : Machine) (w : List ℕ) (budget : ℕ) → (run_of m w budget).refusal ≡ refusal_by (run_tests m w)
  pub run_refused : (m : Machine) (w : List ℕ) (budget : ℕ) → (run_of m w budget).refusal ≢ 0 →
      (run_of m w budget).ran ≡ record { state = machine_state m w; event = completed; steps = 0 }
  pub deliver : (m : Machine) (w : List ℕ) (e : Event) → (deliver_of m w e).answer.refusal ≡ refusal_by (deliver_tests m w e)
  pub deliver_refused : (m : Machine) (w : List ℕ) (e : Event) → (deliver_of m w e).answer.refusal ≢ 0 →
      ((deliver_of m w e).answer.machine ≡ m) × ((deliver_of m w e).memory ≡ w)
  pub making_valid : (m : Machine) (n : ℕ) → (make_valid m n).refusal ≡ refusal_by (valid_tests m n)
  pub make_valid_refused : (m : Machine) (n : ℕ) → (make_valid m n).refusal ≢ 0 → (make_valid m n).machine ≡ m
  pub writing_form : (m : Machine) (frames : ℕ) (out : List ℕ) → write_refusal m frames (length out) ≡ refusal_by (write_tests m frames out)
  pub write_form_refused : (m : Machine) (frames : ℕ) (out : List ℕ) → write_refusal m frames (length out) ≢ 0 → written m frames out ≡ out
  -- a refused reader gives the reset record and one frame
  pub reading_form : (s : List ℕ) → (read_form s).refusal ≡ refusal_by (read_tests s)
  pub read_form_refused : (s : List ℕ) → (read_form s).refusal ≢ 0 → ((read_form s).machine ≡ reset_record) × ((read_form s).frames ≡ 1)

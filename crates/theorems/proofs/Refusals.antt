-- Demand 1: the tests of each call, one by one.
use Prim.Native.Nat.{ℕ}
use mathlib.Core.Logic.{◌≢◌, ◌↔◌}
use mathlib.Core.Path.{◌≡◌, refl, sym, ◌∙◌, ap}
use mathlib.Core.Bool.{Bool, true, false, cond, not, ◌||◌}
use mathlib.Core.List.{List, [], ◌∷◌}
use mathlib.Core.Option.{Option, none, some}
use native.Mathlib.Omega.{arith}
use lib.Dec.{eqb, leb, ltb}
use lib.ListN.{length, get_or}
use borrow.Author.Tests.{ne_eqb, ltb-true, ltb-false, lt-ltb, le-ltb}
use Rattle.std.specs.Prelude as std
use Rattle.std.specs.Prelude.{Some, None}
use Rattle.mmu.specs.Translate.{valid}
use Rattle.pack.specs.Pack.{unpack}
use Rattle.board.specs.Program.{State, completed}
use Rattle.board.specs.Run.{ended}
use Rattle.regs.specs.declared.Machine.{Machine}
use Rattle.plan.specs.declared.kinds.Stop.TheVariants.{Privileged, Call, Extended, Halted, Break, Port, Nothing}
use Rattle.legal.specs.Legal.{whole_frames, allowed_bits, reset_record}
use Rattle.bus.specs.declared.kinds.Event.{Event}
use Rattle.bus.specs.declared.kinds.Event.TheVariants.{Completed, Violation, Absent, Stopped}
use Rattle.bus.specs.Board.{real}
use Rattle.cpu.specs.Machine.{machine_state}
use Rattle.host.specs.Host as host
use Rattle.host.specs.Host.{refusal_of, run_of, step_of}
use Rattle.valid.specs.Valid.{unmade, made_valid, make_valid}
use Rattle.saves.specs.Saves.{Outcome, refusal, pushed, all_passed, entered, vectored, saved}
use Rattle.deliver.specs.declared.traps.Trap.{Trap}
use Rattle.deliver.specs.declared.traps.Trap.TheVariants.{Two, Three}
use Rattle.deliver.specs.Deliver.{stopped, trap_of, taken, deliver_of}
use Rattle.form.specs.Form.{Reading, widths, machine_of, frames_of, write_refusal, written, refused, restored, read_fields, read_form}
use Rattle.theorems.specs.Refusals.{Test, test, refusal_by, Given, no_cause, here, later, run_tests, deliverable, missing, lost, fatal, deliver_tests, valid_tests, write_tests, read_tests, Demand1}
use Rattle.theorems.proofs.Works.{run_refusal, step_refusal, run_refused, step_refused}

-- ── the order ──

first_given : (ts : List Test) → Given ts (refusal_by ts)
first_given [] = no_cause
first_given (t ∷ ts) = go t.number t.cause (first_given ts)
  where
    go : (k : ℕ) (b : Bool) → Given ts (refusal_by ts) → Given (test k b ∷ ts) (cond b k (refusal_by ts))
    go k true h = here k ts
    go k false h = later k (refusal_by ts) ts h

given_first : (ts : List Test) (k : ℕ) → Given ts k → refusal_by ts ≡ k
given_first ts k no_cause = refl
given_first ts k (here j us) = refl
given_first ts k (later j i us h) = given_first us i h

exact : (ts : List Test) (k : ℕ) → (refusal_by ts ≡ k) ↔ Given ts k
exact ts k = (λ e. rw e at (first_given ts), given_first ts k)

-- ── step and run ──

two_tests : (a b : Bool) → ◌≡◌ {A = ℕ} (cond a (cond b 0 2) 1) (cond (not a) 1 (cond (not b) 2 0))
two_tests true true = refl
two_tests true false = refl
two_tests false b = refl

host_tests : (m : Machine) (w : List ℕ) → refusal_of m (length w) ≡ refusal_by (run_tests m w)
unfolding refusal_of
host_tests m w = two_tests (whole_frames (length w)) (allowed_bits m)

step_kept : (m : Machine) (w : List ℕ) → (step_of m w).refusal ≢ 0 → (step_of m w).answer ≡ record { state = machine_state m w; event = completed }
step_kept m w h =
    ap (λ (o : host.StepOutcome). o.answer) (step_refused m w (ne_eqb _ _ (λ e. h (step_refusal m w ∙ e))))

run_kept : (m : Machine) (w : List ℕ) (n : ℕ) → (run_of m w n).refusal ≢ 0 → (run_of m w n).ran ≡ record { state = machine_state m w; event = completed; steps = 0 }
unfolding ended
run_kept m w n h =
    ap (λ (o : host.Outcome). o.ran) (run_refused m w n (ne_eqb _ _ (λ e. h (run_refusal m w n ∙ e))))

-- ── delivery ──

undelivered : std.Option Trap → Bool
undelivered (Some (Two offset a)) = false
undelivered (Some (Three offset a v)) = false
undelivered None = true

not_delivered : (e : Event) → undelivered (trap_of e) ≡ not (deliverable e)
unfolding undelivered trap_of stopped deliverable
not_delivered Completed = refl
not_delivered (Violation i a) = refl
not_delivered (Absent p) = refl
not_delivered (Stopped (Privileged a)) = refl
not_delivered (Stopped (Call v a)) = refl
not_delivered (Stopped (Extended a)) = refl
not_delivered (Stopped Halted) = refl
not_delivered (Stopped (Break a)) = refl
not_delivered (Stopped (Port p out)) = refl
not_delivered (Stopped (Nothing a)) = refl

-- the record handed back and every byte as it was
Kept : Machine → List ℕ → Outcome → Type 0
Kept m w o = o.answer.refusal ≢ 0 → (o.answer.machine ≡ m) × (o.memory ≡ w)

module _ (m : Machine) (w : List ℕ) where
  entered_tests : (a : Bool) (s : State real) (x y : Option ℕ) →
      (cond a (entered m w s x y) (refusal 9 m w)).answer.refusal ≡ cond (not a || missing x || missing y) 9 0
  unfolding entered
  entered_tests true s (some x) (some y) = refl
  entered_tests true s (some x) none = refl
  entered_tests true s none (some y) = refl
  entered_tests true s none none = refl
  entered_tests false s x y = refl

  entered_kept : (a : Bool) (s : State real) (x y : Option ℕ) → Kept m w (cond a (entered m w s x y) (refusal 9 m w))
  unfolding entered Kept
  entered_kept true s (some x) (some y) = λ h. absurd (h refl)
  entered_kept true s (some x) none = λ h. (refl, refl)
  entered_kept true s none y = λ h. (refl, refl)
  entered_kept false s x y = λ h. (refl, refl)

  saved_tests : (offset : ℕ) (vs : List ℕ) → (saved m w offset vs).answer.refusal ≡ cond (lost m w offset vs) 9 0
  unfolding saved vectored lost
  saved_tests offset vs = entered_tests (all_passed (pushed m w vs).event) (pushed m w vs).state _ _

  saved_kept : (offset : ℕ) (vs : List ℕ) → Kept m w (saved m w offset vs)
  unfolding saved vectored
  saved_kept offset vs = entered_kept (all_passed (pushed m w vs).event) (pushed m w vs).state _ _

  taken_tests : (t : std.Option Trap) → (taken m w t).answer.refusal ≡ cond (undelivered t) 8 (cond (fatal m w t) 9 0)
  unfolding taken fatal undelivered
  taken_tests (Some (Two offset a)) = saved_tests offset (a ∷ m.ctl.msr ∷ [])
  taken_tests (Some (Three offset a v)) = saved_tests offset (a ∷ m.ctl.msr ∷ v ∷ [])
  taken_tests None = refl

  taken_kept : (t : std.Option Trap) → Kept m w (taken m w t)
  unfolding taken Kept
  taken_kept (Some (Two offset a)) = saved_kept offset (a ∷ m.ctl.msr ∷ [])
  taken_kept (Some (Three offset a v)) = saved_kept offset (a ∷ m.ctl.msr ∷ v ∷ [])
  taken_kept None = λ h. (refl, refl)

  choice_tests : (a b : Bool) (o : Outcome) (n : ℕ) → o.answer.refusal ≡ n →
      (cond a (cond b o (refusal 2 m w)) (refusal 1 m w)).answer.refusal ≡ cond (not a) 1 (cond (not b) 2 n)
  choice_tests true true o n h = h
  choice_tests true false o n h = refl
  choice_tests false b o n h = refl

  choice_kept : (a b : Bool) (o : Outcome) → Kept m w o → Kept m w (cond a (cond b o (refusal 2 m w)) (refusal 1 m w))
  unfolding Kept
  choice_kept true true o h = h
  choice_kept true false o h = λ k. (refl, refl)
  choice_kept false b o h = λ k. (refl, refl)

  deliver_tests_lem : (e : Event) → (deliver_of m w e).answer.refusal ≡ refusal_by (deliver_tests m w e)
  unfolding deliver_of
  deliver_tests_lem e =
      choice_tests (whole_frames (length w)) (allowed_bits m) (taken m w (trap_of e)) _
      (taken_tests (trap_of e) ∙ ap (λ (b : Bool). cond b 8 (cond (fatal m w (trap_of e)) 9 0)) (not_delivered e))

  deliver_kept : (e : Event) → Kept m w (deliver_of m w e)
  unfolding deliver_of
  deliver_kept e = choice_kept (whole_frames (length w)) (allowed_bits m) (taken m w (trap_of e)) (taken_kept (trap_of e))

-- ── making valid ──

above_31 : (n : ℕ) → ltb 31 n ≡ not (ltb n 32)
above_31 n = go (ltb n 32) refl
  where
    go : (b : Bool) → ltb n 32 ≡ b → ltb 31 n ≡ not b
    go true e = le-ltb 31 n (omega (arith, ltb-true n 32 e))
    go false e = lt-ltb 31 n (omega (arith, ltb-false n 32 e))

made_tests : (a b c : Bool) (m t : Machine) →
    (cond a (cond b (cond c (unmade 7 m) (record { refusal = 0; machine = t })) (unmade 6 m)) (unmade 2 m)).refusal ≡
    cond (not a) 2 (cond (not b) 6 (cond c 7 0))
made_tests true true true m t = refl
made_tests true true false m t = refl
made_tests true false c m t = refl
made_tests false b c m t = refl

made_kept : (a b c : Bool) (m t : Machine) →
    (cond a (cond b (cond c (unmade 7 m) (record { refusal = 0; machine = t })) (unmade 6 m)) (unmade 2 m)).refusal ≢ 0 →
    (cond a (cond b (cond c (unmade 7 m) (record { refusal = 0; machine = t })) (unmade 6 m)) (unmade 2 m)).machine ≡ m
made_kept true true true m t h = refl
made_kept true true false m t h = absurd (h refl)
made_kept true false c m t h = refl
made_kept false b c m t h = refl

valid_tests_lem : (m : Machine) (n : ℕ) → (make_valid m n).refusal ≡ refusal_by (valid_tests m n)
unfolding make_valid
valid_tests_lem m n =
    made_tests (allowed_bits m) (ltb n 32) (valid (get_or m.ds n 0)) m (made_valid m n) ∙
    ap (λ (b : Bool). cond (not (allowed_bits m)) 2 (cond b 6 (cond (valid (get_or m.ds n 0)) 7 0))) (sym (above_31 n))

valid_kept : (m : Machine) (n : ℕ) → (make_valid m n).refusal ≢ 0 → (make_valid m n).machine ≡ m
unfolding make_valid
valid_kept m n h = made_kept (allowed_bits m) (ltb n 32) (valid (get_or m.ds n 0)) m (made_valid m n) h

-- ── writer and reader ──

write_tests_lem : (m : Machine) (frames : ℕ) (out : List ℕ) → write_refusal m frames (length out) ≡ refusal_by (write_tests m frames out)
unfolding write_refusal
write_tests_lem m frames out = refl

write_kept : (m : Machine) (frames : ℕ) (out : List ℕ) → write_refusal m frames (length out) ≢ 0 → written m frames out ≡ out
unfolding written
write_kept m frames out h = rw (ne_eqb _ _ h)

Fresh : Reading → Type 0
Fresh r = r.refusal ≢ 0 → (r.machine ≡ reset_record) × (r.frames ≡ 1)

abbrev tested : (a b c d e : Bool) → Reading → Reading
tested a b c d e r = cond a (refused 3) (cond b (refused 4) (cond c (refused 10) (cond d (refused 2) (cond e (refused 5) r))))

read_cases : (a b c d e : Bool) (r : Reading) → r.refusal ≡ 0 →
    ((tested a b c d e r).refusal ≡ cond a 3 (cond b 4 (cond c 10 (cond d 2 (cond e 5 0))))) × Fresh (tested a b c d e r)
unfolding refused Fresh
read_cases true b c d e r h = (refl, λ k. (refl, refl))
read_cases false true c d e r h = (refl, λ k. (refl, refl))
read_cases false false true d e r h = (refl, λ k. (refl, refl))
read_cases false false false true e r h = (refl, λ k. (refl, refl))
read_cases false false false false true r h = (refl, λ k. (refl, refl))
read_cases false false false false false r h = (h, λ k. absurd (k h))

read_both : (s : List ℕ) → ((read_form s).refusal ≡ refusal_by (read_tests s)) × Fresh (read_form s)
unfolding read_form read_fields restored
read_both s =
    let v : List ℕ = unpack widths s in
    read_cases (not (eqb (length s) 101)) (not (eqb (get_or v 0 0) 1)) (not (leb (frames_of v) 16)) (not (allowed_bits (machine_of v)))
    (not (eqb (get_or v 55 0) 0)) (restored v) refl

pub demand1 : Demand1
unfolding Kept Fresh
demand1 =
    record {
      exactly = exact;
      step = λ m w. step_refusal m w ∙ host_tests m w;
      step_refused = step_kept;
      run = λ m w n. run_refusal m w n ∙ host_tests m w;
      run_refused = run_kept;
      deliver = deliver_tests_lem;
      deliver_refused = deliver_kept;
      making_valid = valid_tests_lem;
      make_valid_refused = valid_kept;
      writing_form = write_tests_lem;
      write_form_refused = write_kept;
      reading_form = λ s. (read_both s).0;
      read_form_refused = λ s. (read_both s).1;
    }

-- The calls for C: determination by projection; the order of refusals by the tests one by one; an accepted form with exactly its frames
-- is worked, and written back.
use Prim.Native.Nat.{ℕ, ◌*◌}
use mathlib.Core.Logic.{◌≢◌}
use mathlib.Core.Path.{◌≡◌, refl, sym, ◌∙◌, ap}
use mathlib.Core.Bool.{Bool, true, false, cond, not, ◌&&◌}
use mathlib.Core.List.{List, ◌++◌}
use native.Mathlib.Omega.{arith}
use borrow.Author.Tests.{eqb-true, eqb-false, ne_eqb, le-leb}
use lib.Dec.{eqb, leb}
use lib.ListN.{length, get_or}
use Rattle.pack.specs.Pack.{unpack, pack}
use Rattle.regs.specs.declared.Machine.{Machine}
use Rattle.plan.specs.declared.kinds.Stop.{Stop}
use Rattle.plan.specs.declared.kinds.Stop.TheVariants.{Privileged, Call, Extended, Halted, Break, Port, Nothing}
use Rattle.bus.specs.declared.kinds.Event.{Event}
use Rattle.bus.specs.declared.kinds.Event.TheVariants.{Completed, Violation, Absent, Stopped}
use Rattle.board.specs.Program as b
use Rattle.board.specs.Program.{State, Answer, completed, violation, absent, other}
use Rattle.board.specs.Run.{Ran, step, run, ended, later, go_on}
use Rattle.bus.specs.Board.{real}
use Rattle.cpu.specs.Machine.{machine_state}
use Rattle.cpu.specs.Program.{program}
use Rattle.legal.specs.Legal.{whole_frames, allowed_bits, reset_record}
use Rattle.form.specs.Form.{widths, machine_of, frames_of, fields_of, write_refusal, read_form}
use Rattle.form.proofs.Accepted.{accepted, whole}
use Rattle.events.specs.Events.{stop_numbers, event_numbers}
use Rattle.handed.specs.Handed.{event_in}
use Rattle.handed.specs.Codec.{stop_handed, handed}
use Rattle.handed.proofs.Codec.{codec}
use Rattle.host.specs.Host as host
use Rattle.host.specs.Host.{refusal_of, step_of, run_of}
use Rattle.host.proofs.Laws.{run_one}
use Rattle.valid.specs.Valid.{make_valid}
use Rattle.saves.specs.Saves as saves
use Rattle.deliver.specs.Deliver.{stopped, trap_of, deliver_of}
use Rattle.lent.proofs.Laws.{taken}
use Rattle.lent.specs.Lent.{Formed, formed, reset_form, lent_refusal, completed_by, Moved, moved, delivered_back, deliver_read, deliver_form, made_back, make_read, make_form}
use Rattle.z280.specs.Calls.{Answered, answered, went, step_read, step_form, run_read, run_form}
use Rattle.theorems.specs.Refusals.{Test, refusal_by, deliverable, fatal, read_tests}
use Rattle.theorems.specs.ForC.{DeterminedForC, reset_tests, buffer_tests, lent_tests, trap_tests, mark_tests, RefusedForC, WorksForC}
use Rattle.theorems.proofs.Below.{EventBelow, step_below, run_below, named_below}
use Rattle.theorems.proofs.Corollaries.{never_two}
use Rattle.theorems.proofs.Refusals.{demand1}
use Rattle.theorems.proofs.Works.{passes, step_works, run_works}

-- ── determination ──

answered_once : (k j : ℕ) (s t w v e f : List ℕ) → answered k s w e ≡ answered j t v f → (k ≡ j) × (s ≡ t) × (w ≡ v) × (e ≡ f)
answered_once k j s t w v e f z = (
  ap (λ (o : Answered). o.refusal) z,
  ap (λ (o : Answered). o.form) z,
  ap (λ (o : Answered). o.memory) z,
  ap (λ (o : Answered). o.answer) z,
)

formed_once : (k j : ℕ) (s t : List ℕ) → formed k s ≡ formed j t → (k ≡ j) × (s ≡ t)
formed_once k j s t z = (ap (λ (o : Formed). o.refusal) z, ap (λ (o : Formed). o.form) z)

moved_once : (k j : ℕ) (s t w v : List ℕ) → moved k s w ≡ moved j t v → (k ≡ j) × (s ≡ t) × (w ≡ v)
moved_once k j s t w v z =
    (ap (λ (o : Moved). o.refusal) z, ap (λ (o : Moved). o.form) z, ap (λ (o : Moved). o.memory) z)

pub determined_for_c : DeterminedForC
determined_for_c =
    record {
      reset = λ s frames k j s' t' p q. formed_once k j s' t' (p ∙ sym q);
      step = λ s w e k j s' t' w' v' e' f' p q. answered_once k j s' t' w' v' e' f' (p ∙ sym q);
      run = λ s w budget e k j s' t' w' v' e' f' p q. answered_once k j s' t' w' v' e' f' (p ∙ sym q);
      deliver = λ s w e k j s' t' w' v' p q. moved_once k j s' t' w' v' (p ∙ sym q);
      making_valid = λ s i k j s' t' p q. formed_once k j s' t' (p ∙ sym q);
    }

-- ── an order continued: the number that the first tests give, and where they give none what x says ──

abbrev five : (a b c d e : Bool) (x : ℕ) → ℕ
five a b c d e x = cond a 3 (cond b 4 (cond c 10 (cond d 2 (cond e 5 x))))

after_five : (a b c d e : Bool) (x : ℕ) → cond (eqb (five a b c d e 0) 0) x (five a b c d e 0) ≡ five a b c d e x
after_five true b c d e x = refl
after_five false true c d e x = refl
after_five false false true d e x = refl
after_five false false false true e x = refl
after_five false false false false true x = refl
after_five false false false false false x = refl

after_read : (s : List ℕ) (ts : List Test) →
    cond (eqb (read_form s).refusal 0) (refusal_by ts) (read_form s).refusal ≡ refusal_by (read_tests s ++ ts)
after_read s ts =
    let v : List ℕ = unpack widths s in
    rw (demand1.reading_form s)
    (after_five (not (eqb (length s) 101)) (not (eqb (get_or v 0 0) 1)) (not (leb (frames_of v) 16)) (not (allowed_bits (machine_of v)))
    (not (eqb (get_or v 55 0) 0)) (refusal_by ts))

turned : (b : Bool) (x y : ℕ) → cond (not b) x y ≡ cond b y x
turned true x y = refl
turned false x y = refl

lent_tests_lem : (s w e : List ℕ) → lent_refusal (read_form s) (length w) (length e) ≡ refusal_by (lent_tests s w e)
unfolding lent_refusal
lent_tests_lem s w e = turned (eqb (read_form s).refusal 0) _ _ ∙ after_read s (buffer_tests s w e)

two_more : (r a b : ℕ) (f g : Bool) (x : ℕ) → a ≢ 0 → b ≢ 0 →
    cond (eqb (cond (eqb r 0) (cond f a (cond g b 0)) r) 0) x (cond (eqb r 0) (cond f a (cond g b 0)) r) ≡ cond (eqb r 0) (cond f a (cond g b x)) r
two_more r a b f g x h k = go (eqb r 0) refl f g
  where
    go : (z : Bool) → eqb r 0 ≡ z → (f g : Bool) →
        cond (eqb (cond z (cond f a (cond g b 0)) r) 0) x (cond z (cond f a (cond g b 0)) r) ≡ cond z (cond f a (cond g b x)) r
    go true e true g = rw (ne_eqb a 0 h)
    go true e false true = rw (ne_eqb b 0 k)
    go true e false false = refl
    go false e f g = rw e

after_lent : (s w e : List ℕ) (x : ℕ) →
    cond (eqb (refusal_by (lent_tests s w e)) 0) x (refusal_by (lent_tests s w e)) ≡
    cond (eqb (read_form s).refusal 0)
    (cond (not (eqb (length w) ((read_form s).frames * 4096))) 1 (cond (not (eqb (length e) 12)) 3 x)) (read_form s).refusal
after_lent s w e x =
    ap (λ (k : ℕ). cond (eqb k 0) x k) (sym (after_read s (buffer_tests s w e))) ∙
    two_more (read_form s).refusal 1 3 (not (eqb (length w) ((read_form s).frames * 4096))) (not (eqb (length e) 12)) x (λ z. omega (arith, z)) (λ z. omega (arith, z))

-- ── buffers that are taken ──

module _ (s w e : List ℕ) (h : lent_refusal (read_form s) (length w) (length e) ≡ 0) where
  frames_whole : whole_frames (length w) ≡ true
  frames_whole =
      let t = taken (read_form s) (length w) (length e) h in
      let a = accepted s t.0 in
      ap whole_frames t.1 ∙ whole (read_form s).frames a.some a.few

  worked : refusal_of (read_form s).machine (length w) ≡ 0
  worked = passes (read_form s).machine (length w) frames_whole (never_two.read s)

  delivery : (v : Event) → (deliver_of (read_form s).machine w v).answer.refusal ≡
      cond (not (deliverable v)) 8 (cond (fatal (read_form s).machine w (trap_of v)) 9 0)
  delivery v = demand1.deliver (read_form s).machine w v ∙ rw (frames_whole, never_two.read s)

-- ── the orders ──

reset_cases : (a b : Bool) (old new : List ℕ) →
    ((cond (not a) (formed 3 old) (cond (not b) (formed 1 old) (formed 0 new))).refusal ≡ cond (not a) 3 (cond (not b) 1 0)) ×
    ((cond (not a) (formed 3 old) (cond (not b) (formed 1 old) (formed 0 new))).refusal ≢ 0 →
    (cond (not a) (formed 3 old) (cond (not b) (formed 1 old) (formed 0 new))).form ≡ old)
reset_cases true true old new = (refl, λ h. absurd (h refl))
reset_cases true false old new = (refl, λ h. refl)
reset_cases false b old new = (refl, λ h. refl)

reset_both : (s : List ℕ) (frames : ℕ) →
    ((reset_form s frames).refusal ≡ refusal_by (reset_tests s frames)) × ((reset_form s frames).refusal ≢ 0 → (reset_form s frames).form ≡ s)
unfolding reset_form
reset_both s frames =
    reset_cases (eqb (length s) 101) (leb 1 frames && leb frames 16) s (pack widths (fields_of reset_record frames))

-- k is what the buffers are refused by, x what the call gives where they are taken
answer_both : (k : ℕ) (x : Answered) (s w e : List ℕ) → x.refusal ≡ 0 →
    ((cond (eqb k 0) x (answered k s w e)).refusal ≡ k) ×
    ((cond (eqb k 0) x (answered k s w e)).refusal ≢ 0 →
    cond (eqb k 0) x (answered k s w e) ≡ answered (cond (eqb k 0) x (answered k s w e)).refusal s w e)
answer_both k x s w e z = go (eqb k 0) refl
  where
    go : (b : Bool) → eqb k 0 ≡ b →
        ((cond b x (answered k s w e)).refusal ≡ k) ×
        ((cond b x (answered k s w e)).refusal ≢ 0 → cond b x (answered k s w e) ≡ answered (cond b x (answered k s w e)).refusal s w e)
    go true h = (z ∙ sym (eqb-true k 0 h), λ u. absurd (u z))
    go false h = (refl, λ u. refl)

step_both : (s w e : List ℕ) →
    ((step_form s w e).refusal ≡ lent_refusal (read_form s) (length w) (length e)) ×
    ((step_form s w e).refusal ≢ 0 → step_form s w e ≡ answered (step_form s w e).refusal s w e)
unfolding step_form step_read
step_both s w e = answer_both (lent_refusal (read_form s) (length w) (length e)) _ s w e refl

run_both : (s w : List ℕ) (budget : ℕ) (e : List ℕ) →
    ((run_form s w budget e).refusal ≡ lent_refusal (read_form s) (length w) (length e)) ×
    ((run_form s w budget e).refusal ≢ 0 → run_form s w budget e ≡ answered (run_form s w budget e).refusal s w e)
unfolding run_form run_read
run_both s w budget e = answer_both (lent_refusal (read_form s) (length w) (length e)) _ s w e refl

module _ (s w e : List ℕ) where
  abbrev at : ℕ
  at = lent_refusal (read_form s) (length w) (length e)

  abbrev outcome : saves.Outcome
  outcome = deliver_of (read_form s).machine w (event_in e)

  abbrev choice : Bool → Moved
  choice b = cond b (delivered_back (read_form s).frames s outcome) (moved at s w)

  -- its own two tests
  abbrev own : ℕ
  own = cond (not (deliverable (event_in e))) 8 (cond (fatal (read_form s).machine w (trap_of (event_in e))) 9 0)

  delivered_number : (b : Bool) → eqb at 0 ≡ b → (choice b).refusal ≡ cond b own at
  unfolding delivered_back
  delivered_number true h = delivery s w e (eqb-true at 0 h) (event_in e)
  delivered_number false h = refl

  deliver_order : (deliver_form s w e).refusal ≡ refusal_by (read_tests s ++ buffer_tests s w e ++ trap_tests s w e)
  unfolding deliver_form deliver_read
  deliver_order =
      delivered_number (eqb at 0) refl ∙ ap (λ (k : ℕ). cond (eqb k 0) own k) (lent_tests_lem s w e) ∙ after_lent s w e own ∙
      after_read s (buffer_tests s w e ++ trap_tests s w e)

  delivered_kept : (b : Bool) → (choice b).refusal ≢ 0 → choice b ≡ moved (choice b).refusal s w
  unfolding delivered_back
  delivered_kept true u =
      rw (ne_eqb outcome.answer.refusal 0 u, (demand1.deliver_refused (read_form s).machine w (event_in e) u).1)
  delivered_kept false u = refl

  deliver_kept : (deliver_form s w e).refusal ≢ 0 → deliver_form s w e ≡ moved (deliver_form s w e).refusal s w
  unfolding deliver_form deliver_read
  deliver_kept u = delivered_kept (eqb at 0) u

module _ (s : List ℕ) (i : ℕ) where
  abbrev made : Bool → Formed
  made b = cond b (made_back (read_form s).frames s (make_valid (read_form s).machine i)) (formed (read_form s).refusal s)

  made_number : (b : Bool) → (made b).refusal ≡ cond b (refusal_by (mark_tests s i)) (read_form s).refusal
  unfolding made_back
  made_number true = demand1.making_valid (read_form s).machine i ∙ rw (never_two.read s)
  made_number false = refl

  make_order : (make_form s i).refusal ≡ refusal_by (read_tests s ++ mark_tests s i)
  unfolding make_form make_read
  make_order = made_number (eqb (read_form s).refusal 0) ∙ after_read s (mark_tests s i)

  made_kept : (b : Bool) → (made b).refusal ≢ 0 → (made b).form ≡ s
  unfolding made_back
  made_kept true u = rw (ne_eqb (make_valid (read_form s).machine i).refusal 0 u)
  made_kept false u = refl

  make_kept : (make_form s i).refusal ≢ 0 → (make_form s i).form ≡ s
  unfolding make_form make_read
  make_kept u = made_kept (eqb (read_form s).refusal 0) u

pub refused_for_c : RefusedForC
refused_for_c =
    record {
      reset = λ s frames. (reset_both s frames).0;
      reset_refused = λ s frames. (reset_both s frames).1;
      step = λ s w e. (step_both s w e).0 ∙ lent_tests_lem s w e;
      step_refused = λ s w e. (step_both s w e).1;
      run = λ s w budget e. (run_both s w budget e).0 ∙ lent_tests_lem s w e;
      run_refused = λ s w budget e. (run_both s w budget e).1;
      deliver = deliver_order;
      deliver_refused = deliver_kept;
      making_valid = make_order;
      make_valid_refused = make_kept;
    }

-- ── the work ──

stop_handed_lem : (x : Stop) → trap_of (stop_handed x) ≡ stopped x
unfolding stop_handed trap_of stopped
stop_handed_lem (Privileged a) = refl
stop_handed_lem (Call operand next) = refl
stop_handed_lem (Extended a) = refl
stop_handed_lem Halted = refl
stop_handed_lem (Break a) = refl
stop_handed_lem (Port p out) = refl
stop_handed_lem (Nothing a) = refl

handed_trap : (v : Event) → trap_of (handed v) ≡ trap_of v
unfolding handed trap_of
handed_trap Completed = refl
handed_trap (Violation i a) = refl
handed_trap (Absent p) = refl
handed_trap (Stopped x) = stop_handed_lem x

same_trap : (m : Machine) (w : List ℕ) (x y : Event) → trap_of x ≡ trap_of y → deliver_of m w x ≡ deliver_of m w y
unfolding deliver_of
same_trap m w x y h = rw h

takes : (m : Machine) (s : List ℕ) → (read_form s).refusal ≡ 0 → allowed_bits m ≡ true → write_refusal m (read_form s).frames (length s) ≡ 0
unfolding write_refusal
takes m s z h =
    let a = accepted s z in
    let l : length s ≡ 101 = eqb-true (length s) 101 a.long_enough in
    rw (l, le-leb 1 (read_form s).frames a.some, le-leb (read_form s).frames 16 a.few, h)

-- a refused step or run ends with event 0
stepped_below : (m : Machine) (w : List ℕ) → EventBelow (step_of m w).answer.event
unfolding step_of EventBelow
stepped_below m w = go (eqb (refusal_of m (length w)) 0)
  where
    go : (b : Bool) → EventBelow (cond b (step program (machine_state m w)) (record { state = machine_state m w; event = completed })).event
    go true = step_below program (machine_state m w)
    go false = tt

ran_below : (m : Machine) (w : List ℕ) (budget : ℕ) → EventBelow (run_of m w budget).ran.event
unfolding run_of ended EventBelow
ran_below m w budget = go (eqb (refusal_of m (length w)) 0)
  where
    go : (b : Bool) → EventBelow (cond b (run program budget (machine_state m w)) (ended (machine_state m w) completed)).event
    go true = run_below program budget (machine_state m w)
    go false = tt

-- of a run of one step as many complete as its event says
stop_counted : (x : Stop) → 0 ≡ completed_by (other x)
unfolding completed_by event_numbers stop_numbers
stop_counted (Privileged a) = refl
stop_counted (Call operand next) = refl
stop_counted (Extended a) = refl
stop_counted Halted = refl
stop_counted (Break a) = refl
stop_counted (Port p out) = refl
stop_counted (Nothing a) = refl

counted : (t : State real) (v : b.Event real) → (go_on t v (λ u. run program 0 u)).steps ≡ completed_by v
unfolding go_on later run ended completed_by event_numbers
counted t completed = refl
counted t (violation i a) = refl
counted t (absent p) = refl
counted t (other x) = stop_counted x

one_counted : (t : State real) → (run program 1 t).steps ≡ completed_by (step program t).event
unfolding run
one_counted t = counted (step program t).state (step program t).event

module _ (s w e : List ℕ) where
  abbrev k : ℕ
  k = lent_refusal (read_form s) (length w) (length e)

  abbrev m : Machine
  m = (read_form s).machine

  abbrev stepped : Answer real
  stepped = (step_of m w).answer

  abbrev ran : Ran real
  ran = (run_of m w 1).ran

  step_run : (b : Bool) → eqb k 0 ≡ b →
      cond b (went (read_form s).frames s stepped.state stepped.event (completed_by stepped.event)) (answered k s w e) ≡
      cond b (went (read_form s).frames s ran.state ran.event ran.steps) (answered k s w e)
  step_run true h =
      let z = worked s w e (eqb-true k 0 h) in
      let p = run_one program (machine_state m w) in
      rw (
        ap (λ (o : host.StepOutcome). o.answer) (step_works m w z),
        ap (λ (o : host.Outcome). o.ran) (run_works m w z 1),
        one_counted (machine_state m w),
        ap (λ (x : Answer real). x.state) p,
        ap (λ (x : Answer real). x.event) p,
      )
  step_run false h = refl

  one_run : step_form s w e ≡ run_form s w 1 e
  unfolding step_form step_read run_form run_read
  one_run = step_run (eqb k 0) refl

pub works_for_c : WorksForC
works_for_c =
    record {
      step =
          λ s w e z. ap (λ (o : host.StepOutcome). o.answer)
          (step_works (read_form s).machine w (worked s w e (sym (step_both s w e).0 ∙ z)));
      run =
          λ s w budget e z. ap (λ (o : host.Outcome). o.ran)
          (run_works (read_form s).machine w (worked s w e (sym (run_both s w budget e).0 ∙ z)) budget);
      step_back = λ s w z. takes _ s z (never_two.step (read_form s).machine w (never_two.read s));
      run_back = λ s w budget z. takes _ s z (never_two.run (read_form s).machine w budget (never_two.read s));
      deliver_back = λ s w v z. takes _ s z (never_two.deliver (read_form s).machine w v (never_two.read s));
      make_back = λ s i z. takes _ s z (never_two.making_valid (read_form s).machine i (never_two.read s));
      answer_delivered =
          λ s w v steps h. same_trap (read_form s).machine w _ v
          (ap trap_of (codec.delivered v steps h) ∙ handed_trap v);
      step_is_run = one_run;
      step_descriptor = λ m w i a p. named_below _ i a (stepped_below m w) p;
      run_descriptor = λ m w budget i a p. named_below _ i a (ran_below m w budget) p;
    }

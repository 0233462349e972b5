-- Demand 2: one public call after another.
use Prim.Native.Nat.{ℕ, zero, suc, ◌+◌, ◌<◌}
use mathlib.Core.Logic.{◌≢◌}
use mathlib.Core.Path.{◌≡◌, refl, sym, ◌∙◌, ap, fun_ext}
use mathlib.Core.Bool.{Bool, true, false, cond}
use mathlib.Core.List.{List}
use native.Mathlib.Omega.{arith}
use lib.Dec.{eqb}
use lib.ListN.{length}
use borrow.Author.Tests.{eqb-true}
use Rattle.board.specs.Program.{State, Event, completed, violation, absent, other}
use Rattle.board.specs.Run.{Ran, step, run, ended, later, go_on, follow}
use Rattle.board.proofs.Runs.{run_add, run_singly}
use Rattle.decode.proofs.Table.{entered_at}
use Rattle.regs.specs.declared.Machine.{Machine}
use Rattle.bus.specs.Board.{real}
use Rattle.cpu.specs.Program.{program}
use Rattle.cpu.specs.Machine.{machine_state}
use Rattle.host.specs.Host.{machine_in, refusal_of, Outcome, run_of, step_of}
use Rattle.form.proofs.RoundTrip.{written_reads, read_writes}
use Rattle.theorems.specs.Runs.{count_of, as_run, joined, onward, followed, stepping, Demand2}
use Rattle.theorems.proofs.Works.{run_refusal, run_works, step_works, run_allowed, run_refused, step_refused}

none_run : (m : Machine) (w : List ℕ) → run_of m w 0 ≡ record { refusal = refusal_of m (length w); ran = ended (machine_state m w) completed }
unfolding run_of run
none_run m w = go (eqb (refusal_of m (length w)) 0)
  where
    go : (x : Bool) → ◌≡◌ {A = Outcome}
        (record { refusal = refusal_of m (length w); ran = cond x (ended (machine_state m w) completed) (ended (machine_state m w) completed) })
        (record { refusal = refusal_of m (length w); ran = ended (machine_state m w) completed })
    go true = refl
    go false = refl

added_run : (m : Machine) (w : List ℕ) (a b : ℕ) → run_of m w (a + b) ≡ followed (run_of m w a) (λ t v. run_of t v b)
unfolding onward joined follow ended later
added_run m w a b = go (eqb (refusal_of m (length w)) 0) refl
  where
    go : (x : Bool) → eqb (refusal_of m (length w)) 0 ≡ x → run_of m w (a + b) ≡ followed (run_of m w a) (λ t v. run_of t v b)
    go true e =
        let z : refusal_of m (length w) ≡ 0 = eqb-true _ _ e in
        let r : Ran real = run program a (machine_state m w) in
        let next : run_of (machine_in r.state) r.state.mem b ≡ record { refusal = 0; ran = run program b r.state } =
        run_works (machine_in r.state) r.state.mem (run_allowed m w z a) b in
        rw (run_works m w z (a + b), run_works m w z a, run_add program a b (machine_state m w)) (each r r.event next)
      where
        each : (r : Ran real) (x : Event real) → run_of (machine_in r.state) r.state.mem b ≡ record { refusal = 0; ran = run program b r.state } →
            record { refusal = 0; ran = follow r x (run program b) } ≡ onward (record { refusal = 0; ran = r }) x (λ t v. run_of t v b)
        each r completed n = rw n
        each r (violation i y) n = refl
        each r (absent p) n = refl
        each r (other y) n = refl
    go false e = rw (run_refused m w (a + b) e, run_refused m w a e, run_refused m w b e)

one_run : (m : Machine) (w : List ℕ) → run_of m w 1 ≡ as_run (step_of m w)
unfolding as_run run go_on ended later count_of
one_run m w = go (eqb (refusal_of m (length w)) 0) refl
  where
    each : (s : State real) (x : Event real) → ◌≡◌ {A = Outcome} (record { refusal = 0; ran = go_on s x (λ t. run program 0 t) })
        (record { refusal = 0; ran = record { state = s; event = x; steps = count_of x } })
    each s completed = refl
    each s (violation i a) = refl
    each s (absent p) = refl
    each s (other e) = refl

    go : (x : Bool) → eqb (refusal_of m (length w)) 0 ≡ x → run_of m w 1 ≡ as_run (step_of m w)
    go true e =
        let z : refusal_of m (length w) ≡ 0 = eqb-true _ _ e in
        rw (run_works m w z 1, step_works m w z) (each (step program (machine_state m w)).state (step program (machine_state m w)).event)
    go false e = rw (run_refused m w 1 e, step_refused m w e, e)

one_and : (n : ℕ) → suc n ≡ 1 + n
one_and n = omega arith

steps_run : (n : ℕ) (m : Machine) (w : List ℕ) → run_of m w (suc n) ≡ stepping n m w
unfolding stepping
steps_run zero m w = one_run m w
steps_run (suc n) m w =
    ap (run_of m w) (one_and (suc n)) ∙ added_run m w 1 (suc n) ∙
    ap (λ (o : Outcome). followed o (λ t v. run_of t v (suc n))) (one_run m w) ∙
    ap (followed (as_run (step_of m w))) (fun_ext (λ t. fun_ext (λ v. steps_run n t v)))

-- ── the count ──

Counted : ℕ → Ran real → Type 0
Counted n r = (r.event ≡ completed → r.steps ≡ n) × (r.event ≢ completed → r.steps < n)

cut : (n : ℕ) (s : State real) (e : Event real) → e ≢ completed → Counted (suc n) (record { state = s; event = e; steps = 0 })
unfolding Counted
cut n s e h = (λ k. absurd (h k), λ k. omega arith)

more : (n : ℕ) (r : Ran real) → Counted n r → Counted (suc n) (later 1 r)
unfolding Counted later
more n r h = (λ e. omega (arith, h.0 e), λ e. omega (arith, h.1 e))

counted : (n : ℕ) (s : State real) → Counted n (run program n s)
unfolding Counted run ended go_on
counted zero s = (λ e. refl, λ e. absurd (e refl))
counted (suc n) s = go (step program s).event (counted n (step program s).state)
  where
    go : (x : Event real) → Counted n (run program n (step program s).state) → Counted (suc n) (go_on (step program s).state x (λ t. run program n t))
    go completed h = more n (run program n (step program s).state) h
    go (violation i a) h = cut n (step program s).state (violation i a) (λ e. let z : ◌≡◌ {A = ℕ} 0 1 = cc in omega arith)
    go (absent p) h = cut n (step program s).state (absent p) (λ e. let z : ◌≡◌ {A = ℕ} 0 1 = cc in omega arith)
    go (other e) h = cut n (step program s).state (other e) (λ k. let z : ◌≡◌ {A = ℕ} 0 1 = cc in omega arith)

module _ (m : Machine) (w : List ℕ) (n : ℕ) where
  ran_is : (run_of m w n).refusal ≡ 0 → run_of m w n ≡ record { refusal = 0; ran = run program n (machine_state m w) }
  ran_is h = run_works m w (sym (run_refusal m w n) ∙ h) n

  all_count : (run_of m w n).refusal ≡ 0 → (run_of m w n).ran.event ≡ completed → (run_of m w n).ran.steps ≡ n
  unfolding Counted
  all_count h e = let p = ran_is h in rw p ((counted n (machine_state m w)).0 (rw p at e))

  fewer_count : (run_of m w n).ran.event ≢ completed → (run_of m w n).ran.steps < n
  unfolding Counted ended
  fewer_count e = go (eqb (refusal_of m (length w)) 0) refl
    where
      go : (x : Bool) → eqb (refusal_of m (length w)) 0 ≡ x → (run_of m w n).ran.steps < n
      go true k = let p = run_works m w (eqb-true _ _ k) n in rw p ((counted n (machine_state m w)).1 (rw p at e))
      go false k = absurd (e (ap (λ (o : Outcome). o.ran.event) (run_refused m w n k)))

  onward_allowed : (run_of m w n).refusal ≡ 0 →
      refusal_of (machine_in (run_of m w n).ran.state) (length (run_of m w n).ran.state.mem) ≡ 0
  onward_allowed h = rw (ran_is h) (run_allowed m w (sym (run_refusal m w n) ∙ h) n)

pub demand2 : Demand2
demand2 =
    record {
      added = run_add program;
      single = run_singly program;
      none = none_run;
      run_added = added_run;
      run_steps = λ m w n. steps_run n m w;
      all = all_count;
      fewer = fewer_count;
      goes_on = onward_allowed;
      table = entered_at;
      written_reads = λ m frames h ok some few out room. written_reads m frames h ok some few out room;
      read_writes = λ s bytes ok out room. read_writes s bytes ok out room;
    }

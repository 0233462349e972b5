-- Demand 3: the first run and the second, step by step, then resumption by resumption.
use Prim.Native.Nat.{ℕ, zero, suc, ◌+◌, ◌-◌, ◌≤◌}
use mathlib.Core.Path.{◌≡◌, refl, sym, ◌∙◌, ap}
use mathlib.Core.Bool.{true}
use mathlib.Core.List.{List}
use mathlib.Core.Option.{none}
use native.Mathlib.Omega.{arith}
use native.Mathlib.Nat.{sub-zero}
use lib.ListN.{length}
use Rattle.mmu.specs.Translate.{set_valid, change}
use Rattle.board.specs.Program.{Board, State, Event, completed, violation, absent, other, Answer}
use Rattle.board.specs.Run.{Program, Ran, step, ended, later, go_on, run}
use Rattle.board.specs.Withhold.{has, without, clear_all, with_ds, withhold, make_valid, named, Paged, stopped, counting, resume, paged, AllValid, Agree, Unseen, Demand3}
use Rattle.board.proofs.Access.{veil, Veiled}
use Rattle.board.proofs.Step.{Sim, same, missed, exec_sim}
use Rattle.board.proofs.Runs.{later_zero, later_later}
use Rattle.board.proofs.Without.{without_fewer, kept_has, mark_veiled, clear_each, clear_length}

-- ── one run ──

-- r is the first machine's run of n steps from s, q the second's
data RunSim (B : Board) (prog : Program B) (w : List ℕ) (n : ℕ) (s : State B) (r q : Ran B) : Type 0 where
  same_run : (m : ℕ) (es : List ℕ) → q ≡ record { state = veil r.state m es; event = r.event; steps = r.steps } →
      Veiled w r.state.mmu r.state.ds m es → named w r.event ≡ none → RunSim B prog w n s r q
  missed_run : (i : ℕ) → has w i ≡ true → (a : ℕ) (t : State B) (m : ℕ) (es : List ℕ) (j : ℕ) →
      q ≡ record { state = veil t m es; event = violation i a; steps = j } → Veiled w t.mmu t.ds m es →
      r ≡ later j (run prog (n - j) t) → RunSim B prog w n s r q

minus_suc : (n j : ℕ) → n - j ≡ suc n - (1 + j)
minus_suc n j = omega arith

module _ {B : Board} (prog : Program B) (w : List ℕ) where
  one_later : (n : ℕ) (s t : State B) (r q : Ran B) → RunSim B prog w n t r q → RunSim B prog w (suc n) s (later 1 r) (later 1 q)
  unfolding later
  one_later n s t r q (same_run m es e v h) = same_run m es (ap (later 1) e) v h
  one_later n s t r q (missed_run i hi a u m es j e v h) =
      missed_run i hi a u m es (1 + j) (ap (later 1) e) v
      (ap (later 1) h ∙ later_later 1 j (run prog (n - j) u) ∙ ap (λ x. later (1 + j) (run prog x u)) (minus_suc n j))

  on_event : (n : ℕ) (s t : State B) (m : ℕ) (es : List ℕ) (e : Event B) → Veiled w t.mmu t.ds m es → named w e ≡ none →
      RunSim B prog w n t (run prog n t) (run prog n (veil t m es)) →
      RunSim B prog w (suc n) s (go_on t e (λ u. run prog n u)) (go_on (veil t m es) e (λ u. run prog n u))
  unfolding go_on ended
  on_event n s t m es completed v h k = one_later n s t (run prog n t) (run prog n (veil t m es)) k
  on_event n s t m es (violation i a) v h k = same_run m es refl v h
  on_event n s t m es (absent p) v h k = same_run m es refl v h
  on_event n s t m es (other x) v h k = same_run m es refl v h

  first_step : (n : ℕ) (s : State B) (a b : Answer B) → Sim B w s a b → run prog (suc n) s ≡ go_on a.state a.event (λ u. run prog n u) →
      ((t : State B) (m : ℕ) (es : List ℕ) → Veiled w t.mmu t.ds m es → RunSim B prog w n t (run prog n t) (run prog n (veil t m es))) →
      RunSim B prog w (suc n) s (go_on a.state a.event (λ u. run prog n u)) (go_on b.state b.event (λ u. run prog n u))
  unfolding go_on ended
  first_step n s a b (same m es e v h) d k =
      rw e (on_event n s a.state m es a.event v h (k a.state m es v))
  first_step n s a b (missed i hi m es e v) d k =
      missed_run i hi (B.pc s.regs) s m es 0 (rw e refl) v (sym d ∙ sym (later_zero (run prog (suc n) s)) ∙ ap (λ x. later 0 (run prog x s)) (sym (sub-zero (suc n))))

  run_sim : (n : ℕ) (s : State B) (m : ℕ) (es : List ℕ) → Veiled w s.mmu s.ds m es →
      RunSim B prog w n s (run prog n s) (run prog n (veil s m es))
  unfolding run ended step veil named
  run_sim zero s m es v = same_run m es refl v refl
  run_sim (suc n) s m es v =
      first_step n s (step prog s) (step prog (veil s m es)) (exec_sim w s m es v (prog s.regs s.ctl)) refl
      (λ t m' es' v'. run_sim n t m' es' v')

-- ── the whole second run ──

empty_has : (w : List ℕ) (i : ℕ) → length w ≤ 0 → has w i ≡ true → ⊥
empty_has w i l h = omega (arith, without_fewer i w h)

module _ {B : Board} where
  pub agrees : (w : List ℕ) (s : State B) (m : ℕ) (es : List ℕ) → Veiled w s.mmu s.ds m es → Agree B w s (veil s m es)
  unfolding veil
  agrees w s m es v =
      record { regs = refl; ctl = refl; mmu = v.flags; mem = refl; len = v.len; ds = v.each; valid = v.valid }

  ends : (w : List ℕ) (r q : Ran B) (m : ℕ) (es : List ℕ) → q ≡ record { state = veil r.state m es; event = r.event; steps = r.steps } →
      Veiled w r.state.mmu r.state.ds m es → named w r.event ≡ none → Unseen B w r (stopped w q)
  unfolding stopped
  ends w r q m es e v h =
      rw e (record {
        steps = refl;
        event = refl;
        few = omega arith;
        over = h;
        agree = agrees w r.state m es v;
        kept = λ i k. k;
      })

  -- one fault more, j steps on
  resumes : (w : List ℕ) (i j : ℕ) (r : Ran B) (p : Paged B) → has w i ≡ true → Unseen B (without i w) r p → Unseen B w (later j r) (counting j p)
  unfolding later counting
  resumes w i j r p hi u =
      record {
        steps = ap (λ x. j + x) u.steps;
        event = u.event;
        few = omega (arith, without_fewer i w hi, u.few);
        over = u.over;
        agree = u.agree;
        kept = λ x h. kept_has i w x (u.kept x h);
      }

module _ {B : Board} (prog : Program B) where
  turned : (k n : ℕ) (w : List ℕ) (s : State B) (q : Ran B) → RunSim B prog w n s (run prog n s) q → length w ≤ suc k →
      ((n' : ℕ) (w' : List ℕ) (t : State B) (m : ℕ) (es : List ℕ) → Veiled w' t.mmu t.ds m es → length w' ≤ k →
      Unseen B w' (run prog n' t) (paged prog k n' w' (veil t m es))) →
      Unseen B w (run prog n s)
      (resume w q (named w q.event) (λ i. paged prog k (n - q.steps) (without i w) (make_valid i q.state)))
  unfolding resume named make_valid with_ds veil
  turned k n w s q (same_run m es e v h) l ih = rw (ap (λ (x : Ran B). named w x.event) e ∙ h) (ends w (run prog n s) q m es e v h)
  turned k n w s q (missed_run i hi a t m es j e v h) l ih =
      rw (e, hi, h)
      (resumes w i j (run prog (n - j) t) (paged prog k (n - j) (without i w) (veil t m (change set_valid i es))) hi
      (ih (n - j) (without i w) t m (change set_valid i es) (mark_veiled w t.mmu t.ds m es i hi v) (omega (arith, without_fewer i w hi))))

  unseen : (k n : ℕ) (w : List ℕ) (s : State B) (m : ℕ) (es : List ℕ) → Veiled w s.mmu s.ds m es → length w ≤ k →
      Unseen B w (run prog n s) (paged prog k n w (veil s m es))
  unfolding paged
  unseen zero n w s m es v l = go (run prog n (veil s m es)) (run_sim prog w n s m es v)
    where
      go : (q : Ran B) → RunSim B prog w n s (run prog n s) q → Unseen B w (run prog n s) (stopped w q)
      go q (same_run m' es' e v' h) = ends w (run prog n s) q m' es' e v' h
      go q (missed_run i hi a t m' es' j e v' h) = absurd (empty_has w i l hi)
  unseen (suc k) n w s m es v l =
      turned k n w s (run prog n (veil s m es)) (run_sim prog w n s m es v) l
      (λ n' w' t m' es' v' l'. unseen k n' w' t m' es' v' l')

  pub begins : (w : List ℕ) (s : State B) → AllValid w s.ds → Veiled w s.mmu s.ds s.mmu (clear_all w s.ds)
  begins w s h = record { flags = refl; len = clear_length w s.ds; each = clear_each w s.ds; valid = h }

  pub withholding_doesn't_show : Demand3 B prog
  unfolding withhold with_ds veil
  withholding_doesn't_show limit w s h k l = unseen k limit w s s.mmu (clear_all w s.ds) (begins w s h) l

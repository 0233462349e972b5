-- Demand 3 at every equal step count; and the second run ends at one of its moments.
use Prim.Native.Nat.{ℕ, zero, suc, ◌+◌, ◌-◌, ◌<◌}
use mathlib.Core.Path.{◌≡◌, refl, sym, ◌∙◌, ap, subst}
use mathlib.Core.Bool.{Bool, true, false}
use mathlib.Core.List.{List}
use mathlib.Core.Option.{Option, none, some}
use native.Mathlib.Omega.{arith}
use native.Mathlib.Nat.{zero-add, add-zero, add_assoc}
use Rattle.mmu.specs.Translate.{set_valid, change}
use Rattle.board.specs.Program.{Board, State, Event, completed, violation, absent, other, Answer}
use Rattle.board.specs.Run.{Program, Ran, step, ended, later, go_on, run}
use Rattle.board.specs.Withhold.{has, without, clear_all, if_has, with_ds, withhold, make_valid, named, Paged, stopped, counting, resume, paged, AllValid, Agree, Moment, begun, stepped, resumed, Level, AtEachCount, End, full, cut, EndsAtMoment}
use Rattle.board.proofs.Access.{veil, Veiled}
use Rattle.board.proofs.Step.{Sim, same, missed, exec_sim}
use Rattle.board.proofs.Runs.{run_last}
use Rattle.board.proofs.Without.{mark_veiled}
use Rattle.board.proofs.Withhold.{agrees, begins}

one_on : (j x : ℕ) → suc j + x ≡ j + (1 + x)
one_on j x = omega arith

module _ {B : Board} (prog : Program B) where
  is_veil : (w : List ℕ) (s t : State B) → Agree B w s t → t ≡ veil s t.mmu t.ds
  unfolding veil
  is_veil w s t a = λ i. record { regs = a.regs i; ctl = a.ctl i; mmu = t.mmu; ds = t.ds; mem = a.mem i }

  is_veiled : (w : List ℕ) (s t : State B) → Agree B w s t → Veiled w s.mmu s.ds t.mmu t.ds
  is_veiled w s t a = record { flags = a.mmu; len = a.len; each = a.ds; valid = a.valid }

  -- one step, from agreement
  step_sim : (w : List ℕ) (s t : State B) → Agree B w s t → Sim B w s (step prog s) (step prog t)
  unfolding step veil
  step_sim w s t a =
      subst (λ (x : State B). Sim B w s (step prog s) (step prog x)) (sym (is_veil w s t a))
      (exec_sim w s t.mmu t.ds (is_veiled w s t a) (prog s.regs s.ctl))

  level_step : (j : ℕ) (v : List ℕ) (s t : State B) → Level B j v (run prog j s) t → (step prog t).event ≡ completed →
      Sim B v (run prog j s).state (step prog (run prog j s).state) (step prog t) →
      Level B (suc j) v (run prog (suc j) s) (step prog t).state
  level_step j v s t l e (same n es b u q) =
      let c : (step prog (run prog j s).state).event ≡ completed = sym (ap (λ (x : Answer B). x.event) b) ∙ e in
      rw (run_last prog j s l.event c)
      (record {
        event = refl;
        steps = ap suc l.steps;
        agree = rw b (agrees v (step prog (run prog j s).state).state n es u);
      })
  level_step j v s t l e (missed i hi n es b u) =
      let x : completed ≡ violation i (B.pc (run prog j s).state.regs) = sym e ∙ ap (λ (x : Answer B). x.event) b in
      let z : ◌≡◌ {A = ℕ} 0 1 = cc in
      absurd (omega arith)

  level_mark : (j : ℕ) (v : List ℕ) (s t : State B) (i a : ℕ) → Level B j v (run prog j s) t → (step prog t).event ≡ violation i a → has v i ≡ true →
      Sim B v (run prog j s).state (step prog (run prog j s).state) (step prog t) →
      Level B j (without i v) (run prog j s) (make_valid i (step prog t).state)
  unfolding make_valid with_ds veil named
  level_mark j v s t i a l e hi (same n es b u q) =
      let x : (step prog (run prog j s).state).event ≡ violation i a = sym (ap (λ (x : Answer B). x.event) b) ∙ e in
      let y : if_has i true ≡ none = sym (ap (λ (x : Event B). named v x) x ∙ ap (if_has i) hi) ∙ q in
      let z : ◌≡◌ {A = ℕ} 0 1 = cc in
      absurd (omega arith)
  level_mark j v s t i a l e hi (missed k hk n es b u) =
      let x : i ≡ k = violates_same (sym e ∙ ap (λ (x : Answer B). x.event) b) in
      rw (b, x)
      (record {
        event = l.event;
        steps = l.steps;
        agree = agrees (without k v) (run prog j s).state n (change set_valid k es) (mark_veiled v (run prog j s).state.mmu (run prog j s).state.ds n es k hk u);
      })
    where
      violates_same : {c d : ℕ} → ◌≡◌ {A = Event B} (violation i c) (violation k d) → i ≡ k
      violates_same p = cc

  level : (limit : ℕ) (w : List ℕ) (s : State B) → AllValid w s.ds → {j : ℕ} {v : List ℕ} {t : State B} →
      Moment B prog limit w (withhold w s) j v t → Level B j v (run prog j s) t
  unfolding withhold with_ds veil run ended
  level limit w s h begun =
      record { event = refl; steps = refl; agree = agrees w s s.mmu (clear_all w s.ds) (begins prog w s h) }
  level limit w s h (stepped {j = j} {v = v} {t = t} m l e) =
      let k : Level B j v (run prog j s) t = level limit w s h m in
      level_step j v s t k e (step_sim v (run prog j s).state t k.agree)
  level limit w s h (resumed {j = j} {v = v} {t = t} i a m l e hi) =
      let k : Level B j v (run prog j s) t = level limit w s h m in
      level_mark j v s t i a k e hi (step_sim v (run prog j s).state t k.agree)

  pub level_at_every_moment : AtEachCount B prog
  level_at_every_moment limit w s h j v t m = level limit w s h m

  -- ── the second run goes through its moments, and ends at one ──

  named_some : (v : List ℕ) (e : Event B) (i : ℕ) → named v e ≡ some i → (a : ℕ) × (e ≡ violation i a) × (has v i ≡ true)
  unfolding named
  named_some v completed i h = let z : ◌≡◌ {A = ℕ} 0 1 = cc in absurd (omega arith)
  named_some v (absent p) i h = let z : ◌≡◌ {A = ℕ} 0 1 = cc in absurd (omega arith)
  named_some v (other x) i h = let z : ◌≡◌ {A = ℕ} 0 1 = cc in absurd (omega arith)
  named_some v (violation k a) i h = go (has v k) refl h
    where
      go : (b : Bool) → has v k ≡ b → if_has k b ≡ some i → (c : ℕ) × (◌≡◌ {A = Event B} (violation k a) (violation i c)) × (has v i ≡ true)
      go true p q = let x : k ≡ i = cc in (a, ap (λ y. violation y a) x, rw (← x) p)
      go false p q = let z : ◌≡◌ {A = ℕ} 0 1 = cc in absurd (omega arith)

  module _ (limit : ℕ) (w : List ℕ) (s : State B) where
    stops : (j : ℕ) (v : List ℕ) (t : State B) (e : Event B) → (e ≡ completed → ⊥) → (step prog t).event ≡ e → j < limit →
        Moment B prog limit w s j v t → End B prog limit w s (j + 0) v (step prog t).state e
    stops j v t e h p l m = rw (add-zero j) (cut t m l refl (sym p) h)

    run_end : (n j : ℕ) (v : List ℕ) (t : State B) → Moment B prog limit w s j v t → j + n ≡ limit →
        End B prog limit w s (j + (run prog n t).steps) v (run prog n t).state (run prog n t).event
    unfolding run go_on ended later
    run_end zero j v t m h = rw (add-zero j) (full m (omega arith) refl)
    run_end (suc n) j v t m h =
        go (step prog t).event refl
        (λ e. run_end n (suc j) v (step prog t).state (stepped m (omega arith) e) (omega arith))
      where
        go : (e : Event B) → (step prog t).event ≡ e →
            ((step prog t).event ≡ completed → End B prog limit w s (suc j + (run prog n (step prog t).state).steps) v (run prog n (step prog t).state).state (run prog n (step prog t).state).event) →
            End B prog limit w s (j + (go_on (step prog t).state e (λ u. run prog n u)).steps) v (go_on (step prog t).state e (λ u. run prog n u)).state (go_on (step prog t).state e (λ u. run prog n u)).event
        go completed e k = rw (← (one_on j (run prog n (step prog t).state).steps)) (k e)
        go (violation i a) e k = stops j v t (violation i a) (λ q. let z : ◌≡◌ {A = ℕ} 0 1 = cc in omega arith) e (omega arith) m
        go (absent p) e k = stops j v t (absent p) (λ q. let z : ◌≡◌ {A = ℕ} 0 1 = cc in omega arith) e (omega arith) m
        go (other x) e k = stops j v t (other x) (λ q. let z : ◌≡◌ {A = ℕ} 0 1 = cc in omega arith) e (omega arith) m

    paged_end : (k n j : ℕ) (v : List ℕ) (t : State B) → Moment B prog limit w s j v t → j + n ≡ limit →
        End B prog limit w s (j + (paged prog k n v t).steps) (paged prog k n v t).left (paged prog k n v t).state (paged prog k n v t).event
    unfolding paged stopped resume counting
    paged_end zero n j v t m h = run_end n j v t m h
    paged_end (suc k) n j v t m h =
        go (named v (run prog n t).event) refl (run_end n j v t m h)
        (λ i m' h'. paged_end k (n - (run prog n t).steps) (j + (run prog n t).steps) (without i v) (make_valid i (run prog n t).state) m' h')
      where
        q : Ran B
        q = run prog n t

        p : ℕ → Paged B
        p i = paged prog k (n - q.steps) (without i v) (make_valid i q.state)

        go : (o : Option ℕ) → named v q.event ≡ o → End B prog limit w s (j + q.steps) v q.state q.event →
            ((i : ℕ) → Moment B prog limit w s (j + q.steps) (without i v) (make_valid i q.state) → (j + q.steps) + (n - q.steps) ≡ limit →
            End B prog limit w s ((j + q.steps) + (p i).steps) (p i).left (p i).state (p i).event) →
            End B prog limit w s (j + (resume v q o p).steps) (resume v q o p).left (resume v q o p).state (resume v q o p).event
        go none e x ih = x
        go (some i) e (full m' l c) ih =
            let (a, y, hi) = named_some v q.event i e in
            let u : completed ≡ violation i a = sym c ∙ y in
            let z : ◌≡◌ {A = ℕ} 0 1 = cc in
            absurd (omega arith)
        go (some i) e (cut t' m' l st ev ne) ih =
            let (a, y, hi) = named_some v q.event i e in
            rw (← (add_assoc j q.steps (p i).steps))
            (ih i (rw st (resumed i a m' l (sym ev ∙ y) hi)) (omega arith))

  pub paged_ends_at_a_moment : EndsAtMoment B prog
  paged_ends_at_a_moment limit w s k = rw zero-add at (paged_end limit w s k limit 0 w s begun (zero-add limit))

-- Demand 3 over the public calls: no call of the second run is refused unless the first run is, so its loop is the board's.
use Prim.Native.Nat.{ℕ, zero, suc, ◌-◌, ◌<◌}
use mathlib.Core.Path.{◌≡◌, refl, sym, ◌∙◌, ap}
use mathlib.Core.Bool.{Bool, true, false, cond, ◌||◌}
use mathlib.Core.List.{List, [], ◌∷◌}
use mathlib.Core.Option.{Option, none, some}
use native.Mathlib.Omega.{arith}
use lib.Dec.{eqb}
use lib.ListN.{length, get_or}
use borrow.Author.Tests.{eqb-true}
use Rattle.mmu.specs.Translate.{valid, set_valid, change}
use Rattle.mmu.proofs.Marks.{valid_clear, get_or_change}
use Rattle.board.specs.Program.{State, Event, completed, violation, absent, other}
use Rattle.board.specs.Run.{Ran, step, run, ended}
use Rattle.board.specs.Withhold as b
use Rattle.board.specs.Withhold.{has, without, clear_all, if_has, with_ds, withhold, named, Paged, stopped, counting, resume, paged, hidden, AllValid, Agree, Unseen, Level}
use Rattle.board.proofs.Without.{kept_has, clear_each}
use Rattle.board.proofs.Withhold.{withholding_doesn't_show}
use Rattle.board.proofs.Moments.{level_at_every_moment, paged_ends_at_a_moment}
use Rattle.regs.specs.declared.Machine.{Machine}
use Rattle.legal.specs.Legal.{allowed_bits}
use Rattle.bus.specs.Board.{real}
use Rattle.cpu.specs.Program.{program}
use Rattle.cpu.specs.Machine.{machine_state}
use Rattle.host.specs.Host.{machine_in, refusal_of, Outcome, run_of, StepOutcome, step_of}
use Rattle.valid.specs.Valid.{Made, made_valid, make_valid}
use Rattle.theorems.specs.Withhold.{withheld, Withheld, Hosted, over_with, further, once_made, on_fault, hosted, Alike, Doesn'tShow, Moment, begun, stepped, resumed, EachCount, End, full, cut, EndsAtMoment, Demand3}
use Rattle.theorems.proofs.Works.{passed, run_refusal, step_refusal, run_works, step_works, run_marks, step_marks, run_allowed, step_allowed, made, made_machine, run_refused}

-- ── the descriptors still withheld are invalid ──

pub Bare : List ℕ → List ℕ → Type 0
Bare w ds = (i : ℕ) → has w i ≡ true → (i < 32) × (valid (get_or ds i 0) ≡ false)

other_one : (i x j : ℕ) → eqb i x ≡ false → eqb j x ≡ true → eqb j i ≡ false
other_one i x j p q = go (eqb j i) refl
  where
    go : (b : Bool) → eqb j i ≡ b → b ≡ false
    go true e = sym (rw (eqb-true j i e, p) at q)
    go false e = refl

without_other : (i : ℕ) (w : List ℕ) (j : ℕ) → has (without i w) j ≡ true → eqb j i ≡ false
without_other i [] j h = let z : ◌≡◌ {A = Bool} false true = h in cc
without_other i (x ∷ w) j h = go (eqb i x) refl h (without_other i w j)
  where
    go : (b : Bool) → eqb i x ≡ b → has (cond b (without i w) (x ∷ without i w)) j ≡ true →
        (has (without i w) j ≡ true → eqb j i ≡ false) → eqb j i ≡ false
    go true p e k = k e
    go false p e k = pick (eqb j x) refl e
      where
        pick : (c : Bool) → eqb j x ≡ c → (c || has (without i w) j) ≡ true → eqb j i ≡ false
        pick true q e' = other_one i x j p q
        pick false q e' = k e'

bare_on : (w ds es : List ℕ) (i : ℕ) → Bare w ds → ((j : ℕ) → valid (get_or es j 0) ≡ valid (get_or ds j 0)) → Bare (without i w) (change set_valid i es)
unfolding Bare
bare_on w ds es i h k =
    λ j e. ((h j (kept_has i w j e)).0, rw (get_or_change set_valid i es j, without_other i w j e) (k j ∙ (h j (kept_has i w j e)).1))

named_has : (w : List ℕ) (e : Event real) (i : ℕ) → named w e ≡ some i → has w i ≡ true
unfolding named
named_has w completed i h = let z : ◌≡◌ {A = ℕ} 0 1 = cc in absurd (omega arith)
named_has w (absent p) i h = let z : ◌≡◌ {A = ℕ} 0 1 = cc in absurd (omega arith)
named_has w (other x) i h = let z : ◌≡◌ {A = ℕ} 0 1 = cc in absurd (omega arith)
named_has w (violation k a) i h = go (has w k) refl h
  where
    go : (b : Bool) → has w k ≡ b → if_has k b ≡ some i → has w i ≡ true
    go true p q = let x : k ≡ i = cc in rw x at p
    go false p q = let z : ◌≡◌ {A = ℕ} 0 1 = cc in absurd (omega arith)

-- ── the loop of public calls is the board's ──

worked : Paged real → Hosted
worked p = record { refusal = 0; paged = p }

module _ (k n : ℕ) (w : List ℕ) (q : Ran real) (fine : refusal_of (machine_in q.state) (length q.state.mem) ≡ 0) (bare : Bare w q.state.ds)
    (ih : (n' : ℕ) (w' : List ℕ) (t : Machine) (mem : List ℕ) → refusal_of t (length mem) ≡ 0 → Bare w' t.ds →
    hosted k n' w' t mem ≡ worked (paged program k n' w' (machine_state t mem))) where
  abbrev o : Outcome
  o = record { refusal = 0; ran = q }

  turned : (x : Option ℕ) → named w q.event ≡ x →
      on_fault w o x (λ i. once_made w o (make_valid (machine_in q.state) i) (λ t. hosted k (n - q.steps) (without i w) t q.state.mem)) ≡
      worked (resume w q x (λ i. paged program k (n - q.steps) (without i w) (b.make_valid i q.state)))
  unfolding worked over_with on_fault once_made further resume b.make_valid with_ds Bare refusal_of allowed_bits
  turned none e = refl
  turned (some i) e =
      let v = bare i (named_has w q.event i e) in
      let p = passed (machine_in q.state) (length q.state.mem) fine in
      rw (
        made (machine_in q.state) i p.1 v.0 v.1,
        ih (n - q.steps) (without i w) (made_valid (machine_in q.state) i) q.state.mem fine
            (bare_on w q.state.ds q.state.ds i bare (λ j. refl)),
      )

by_board : (k n : ℕ) (w : List ℕ) (m : Machine) (mem : List ℕ) → refusal_of m (length mem) ≡ 0 → Bare w m.ds →
    hosted k n w m mem ≡ worked (paged program k n w (machine_state m mem))
unfolding hosted paged worked over_with Bare
by_board zero n w m mem h v = rw (run_works m mem h n)
by_board (suc k) n w m mem h v =
    let q : Ran real = run program n (machine_state m mem) in
    ap (λ (o : Outcome). on_fault w o (named w o.ran.event) (λ i. once_made w o (make_valid (machine_in o.ran.state) i)
    (λ t. hosted k (n - o.ran.steps) (without i w) t o.ran.state.mem))) (run_works m mem h n) ∙
    turned k n w q (run_allowed m mem h n) (λ i e. ((v i e).0, run_marks m mem h n i ∙ (v i e).1)) (by_board k) (named w q.event) refl

-- ── demand 3 ──

bare_first : (w : List ℕ) (m : Machine) → Withheld w m → Bare w (clear_all w m.ds)
unfolding Bare
bare_first w m h = λ i e. (omega (arith, h.user i e), rw (clear_each w m.ds i, e) (valid_clear (get_or m.ds i 0)))

same_refusal : (w : List ℕ) (m : Machine) (n : ℕ) → refusal_of (withheld w m) n ≡ refusal_of m n
unfolding refusal_of allowed_bits
same_refusal w m n = refl

-- refused, neither run works a step
refused_ends : (k n : ℕ) (w : List ℕ) (m : Machine) (mem : List ℕ) → eqb (refusal_of m (length mem)) 0 ≡ false →
    hosted k n w m mem ≡ record { refusal = refusal_of m (length mem); paged = paged program k 0 w (machine_state m mem) }
unfolding hosted paged over_with on_fault resume named run ended
refused_ends zero n w m mem h = rw (run_refused m mem n h)
refused_ends (suc k) n w m mem h = rw (run_refused m mem n h)

pub doesn't_show : Doesn'tShow
unfolding worked withhold with_ds run
doesn't_show m mem limit w h k l = go (eqb (refusal_of m (length mem)) 0) refl
  where
    shown : (n : ℕ) → Unseen real w (run program n (machine_state m mem)) (paged program k n w (machine_state (withheld w m) mem))
    shown n = withholding_doesn't_show program n w (machine_state m mem) h.had k l

    go : (x : Bool) → eqb (refusal_of m (length mem)) 0 ≡ x → Alike w (run_of m mem limit) (hosted k limit w (withheld w m) mem)
    go true e =
        let z : refusal_of m (length mem) ≡ 0 = eqb-true _ _ e in
        rw (run_works m mem z limit, by_board k limit w (withheld w m) mem (same_refusal w m (length mem) ∙ z) (bare_first w m h))
        (record { refusal = refl; unseen = shown limit })
    go false e =
        rw (run_refused m mem limit e, refused_ends k limit w (withheld w m) mem (ap (λ (x : ℕ). eqb x 0) (same_refusal w m (length mem)) ∙ e))
        (record { refusal = same_refusal w m (length mem); unseen = shown 0 })

-- ── at every equal step count ──

on_board : (limit : ℕ) (w : List ℕ) (m : Machine) (mem : List ℕ) {j : ℕ} {v : List ℕ} {t : Machine} {now : List ℕ} → Moment limit w m mem j v t now →
    b.Moment real program limit w (withhold w (machine_state m mem)) j v (machine_state t now)
unfolding withhold with_ds b.make_valid
on_board limit w m mem begun = b.begun
on_board limit w m mem (stepped {t = t} {now = now} x l r e) =
    let p = step_works t now (sym (step_refusal t now) ∙ r) in
    rw p (b.stepped (on_board limit w m mem x) l (rw p at e))
on_board limit w m mem (resumed {t = t} {now = now} i a x l r e h f) =
    let p = step_works t now (sym (step_refusal t now) ∙ r) in
    rw (made_machine _ i f, p) (b.resumed i a (on_board limit w m mem x) l (rw p at e) h)

pub each_count : EachCount
each_count m mem limit w h r j v t now x =
    rw (run_works m mem (sym (run_refusal m mem limit) ∙ r) j) (level_at_every_moment program limit w (machine_state m mem) h.had j v (machine_state t now) (on_board limit w m mem x))

-- ── the moments are those of the loop ──

record Public (limit : ℕ) (w : List ℕ) (m : Machine) (mem : List ℕ) (j : ℕ) (v : List ℕ) (t : State real) : Type 0 where
  moment : Moment limit w m mem j v (machine_in t) t.mem
  called : refusal_of (machine_in t) (length t.mem) ≡ 0
  bare : Bare v t.ds

module _ (limit : ℕ) (w : List ℕ) (m : Machine) (mem : List ℕ) where
  on_step : (j : ℕ) (v : List ℕ) (t : State real) → Public limit w m mem j v t → j < limit → (step program t).event ≡ completed →
      Public limit w m mem (suc j) v (step program t).state
  unfolding Bare
  on_step j v t x l e =
      let r = x.called in
      let p = step_works (machine_in t) t.mem r in
      record {
        moment = rw p at (stepped x.moment l (step_refusal (machine_in t) t.mem ∙ r) (ap (λ (o : StepOutcome). o.answer.event) p ∙ e));
        called = step_allowed (machine_in t) t.mem r;
        bare = λ i h. ((x.bare i h).0, step_marks (machine_in t) t.mem r i ∙ (x.bare i h).1);
      }

  on_mark : (j : ℕ) (v : List ℕ) (t : State real) (i a : ℕ) → Public limit w m mem j v t → j < limit → (step program t).event ≡ violation i a → has v i ≡ true →
      Public limit w m mem j (without i v) (b.make_valid i (step program t).state)
  unfolding Bare b.make_valid with_ds refusal_of allowed_bits
  on_mark j v t i a x l e h =
      let r = x.called in
      let p = step_works (machine_in t) t.mem r in
      let q : Machine = machine_in (step program t).state in
      let f = step_allowed (machine_in t) t.mem r in
      let g = made q i (passed q (length (step program t).state.mem) f).1 (x.bare i h).0 (step_marks (machine_in t) t.mem r i ∙ (x.bare i h).1) in
      let g' : make_valid (machine_in (step_of (machine_in t) t.mem).answer.state) i ≡ record { refusal = 0; machine = made_valid q i } =
      ap (λ (o : StepOutcome). make_valid (machine_in o.answer.state) i) p ∙ g in
      record {
        moment =
            rw (g', p) at
            (resumed i a x.moment l (step_refusal (machine_in t) t.mem ∙ r) (ap (λ (o : StepOutcome). o.answer.event) p ∙ e) h
            (ap (λ (y : Made). y.refusal) g'));
        called = f;
        bare = bare_on v t.ds (step program t).state.ds i x.bare (step_marks (machine_in t) t.mem r);
      }

  module _ (h : Withheld w m) (r : refusal_of m (length mem) ≡ 0) where
    public : {j : ℕ} {v : List ℕ} {t : State real} → b.Moment real program limit w (withhold w (machine_state m mem)) j v t → Public limit w m mem j v t
    unfolding withhold with_ds
    public b.begun = record { moment = begun; called = same_refusal w m (length mem) ∙ r; bare = bare_first w m h }
    public (b.stepped {j = j} {v = v} {t = t} x l e) = on_step j v t (public x) l e
    public (b.resumed {j = j} {v = v} {t = t} i a x l e k) = on_mark j v t i a (public x) l e k

    ended_at : (j : ℕ) (v : List ℕ) (u : State real) (e : Event real) → b.End real program limit w (withhold w (machine_state m mem)) j v u e → End limit w m mem j v u e
    ended_at j v u e (b.full x l k) = full (public x).moment l k
    ended_at j v u e (b.cut t x l s k n) =
        let y = public x in
        let p = step_works (machine_in t) t.mem y.called in
        cut (machine_in t) t.mem y.moment l (step_refusal (machine_in t) t.mem ∙ y.called)
        (s ∙ sym (ap (λ (o : StepOutcome). o.answer.state) p)) (k ∙ sym (ap (λ (o : StepOutcome). o.answer.event) p)) n

pub ends_at_moment : EndsAtMoment
unfolding worked withhold with_ds
ends_at_moment m mem limit w h r k =
    let z : refusal_of m (length mem) ≡ 0 = sym (run_refusal m mem limit) ∙ r in
    rw (by_board k limit w (withheld w m) mem (same_refusal w m (length mem) ∙ z) (bare_first w m h))
    (ended_at limit w m mem h z _ _ _ _ (paged_ends_at_a_moment program limit w (withhold w (machine_state m mem)) k))

pub demand3 : Demand3
demand3 = record { doesn't_show = doesn't_show; each_count = each_count; ends = ends_at_moment }

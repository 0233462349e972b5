-- Laws of runs: one run after another, single steps, and what a loop that counts completed steps keeps true.
use Prim.Native.Nat.{ℕ, zero, suc, ◌+◌, ◌-◌, ◌≤◌, ◌<◌}
use mathlib.Core.Logic.{◌≢◌}
use mathlib.Core.Path.{◌≡◌, refl, sym, ◌∙◌, ap, fun_ext}
use native.Mathlib.Omega.{arith}
use native.Mathlib.Nat.{zero-add, add-zero, sub-zero, add_assoc, suc-add}
use native.Mathlib.Numerals.{add-one}
use Rattle.board.specs.Program.{Board, State, Event, completed, violation, absent, other, Answer}
use Rattle.board.specs.Run.{Program, Ran, step, ended, later, go_on, run, follow, and_then, singly}

module _ {B : Board} where
  pub later_zero : (r : Ran B) → later 0 r ≡ r
  unfolding later
  later_zero r = ap (λ x. record { state = r.state; event = r.event; steps = x }) (zero-add r.steps)

  pub later_later : (a b : ℕ) (r : Ran B) → later a (later b r) ≡ later (a + b) r
  unfolding later
  later_later a b r =
      ap (λ x. record { state = r.state; event = r.event; steps = x }) (sym (add_assoc a b r.steps))

  follow_later : (r : Ran B) (e : Event B) (f : State B → Ran B) → follow (later 1 r) e f ≡ later 1 (follow r e f)
  unfolding follow
  follow_later r completed f = unfold later in sym (later_later 1 r.steps (f r.state))
  follow_later r (violation i a) f = refl
  follow_later r (absent p) f = refl
  follow_later r (other e) f = refl

module _ {B : Board} (prog : Program B) where
  -- A run of a + b steps is a run of a and then of b.
  pub run_add : (a b : ℕ) (s : State B) → run prog (a + b) s ≡ and_then (run prog a s) (run prog b)
  unfolding run go_on ended follow later
  run_add zero b s = rw (zero-add b) (sym (later_zero (run prog b s)))
  run_add (suc a) b s = rw (suc-add a b) (go (step prog s).event (run_add a b (step prog s).state))
    where
      go : (e : Event B) → run prog (a + b) (step prog s).state ≡ and_then (run prog a (step prog s).state) (run prog b) →
          go_on (step prog s).state e (λ t. run prog (a + b) t) ≡ and_then (go_on (step prog s).state e (λ t. run prog a t)) (run prog b)
      go completed h =
          ap (later 1) h ∙ sym (follow_later (run prog a (step prog s).state) (run prog a (step prog s).state).event (run prog b))
      go (violation i x) h = refl
      go (absent p) h = refl
      go (other x) h = refl

  -- A run of n steps is n runs of one.
  pub run_singly : (n : ℕ) (s : State B) → run prog n s ≡ singly prog n s
  unfolding run singly
  run_singly zero s = refl
  run_singly (suc n) s =
      ap (λ x. run prog x s) (one_and n) ∙ run_add 1 n s ∙
      ap (λ (f : State B → Ran B). and_then (run prog 1 s) f) (fun_ext (λ t. run_singly n t))
    where
      one_and : (n : ℕ) → suc n ≡ 1 + n
      one_and n = omega arith

  -- a run of one step more
  pub run_last : (j : ℕ) (s : State B) → (run prog j s).event ≡ completed → (step prog (run prog j s).state).event ≡ completed →
      run prog (suc j) s ≡ record { state = (step prog (run prog j s).state).state; event = completed; steps = suc (run prog j s).steps }
  unfolding follow run go_on ended later
  run_last j s e h = ap (λ x. run prog x s) (sym (add-one j)) ∙ run_add j 1 s ∙ rw (e, h, add-one)

  -- ── a loop: n steps of the limit are done, and t is the machine ──

  abbrev pub Going : (limit : ℕ) (s : State B) (n : ℕ) (t : State B) → Type 0
  Going limit s n t = run prog limit s ≡ later n (run prog (limit - n) t)

  pub starts : (limit : ℕ) (s : State B) → Going limit s 0 s
  starts limit s = rw (sub-zero limit) (sym (later_zero (run prog limit s)))

  one_more : (limit n : ℕ) → n < limit → limit - n ≡ suc (limit - (n + 1))
  one_more limit n h = omega arith

  none_left : (limit n : ℕ) → limit ≤ n → limit - n ≡ 0
  none_left limit n h = omega arith

  pub opened : (limit : ℕ) (s : State B) (n : ℕ) (t : State B) → Going limit s n t → n < limit →
      run prog limit s ≡ later n (go_on (step prog t).state (step prog t).event (run prog (limit - (n + 1))))
  unfolding run
  opened limit s n t g h = g ∙ ap (λ x. later n (run prog x t)) (one_more limit n h)

  pub again : (limit : ℕ) (s : State B) (n : ℕ) (t u : State B) → Going limit s n t → n < limit →
      record { state = u; event = completed } ≡ step prog t → Going limit s (n + 1) u
  unfolding go_on
  again limit s n t u g h e =
      opened limit s n t g h ∙ rw (← e) (later_later n 1 (run prog (limit - (n + 1)) u))

  pub stops : (limit : ℕ) (s : State B) (n : ℕ) (t u : State B) (e : Event B) → Going limit s n t → n < limit →
      record { state = u; event = e } ≡ step prog t → e ≢ completed → record { state = u; event = e; steps = n } ≡ run prog limit s
  unfolding go_on ended later
  stops limit s n t u e g h q d = go e d ∙ sym (opened limit s n t g h ∙ ap (λ (x : Answer B). later n (go_on x.state x.event (run prog (limit - (n + 1))))) (sym q))
    where
      go : (x : Event B) → x ≢ completed →
          record { state = u; event = x; steps = n } ≡ later n (go_on u x (run prog (limit - (n + 1))))
      go completed k = absurd (k refl)
      go (violation i a) k = ap (λ y. record { state = u; event = violation i a; steps = y }) (sym (add-zero n))
      go (absent p) k = ap (λ y. record { state = u; event = absent p; steps = y }) (sym (add-zero n))
      go (other x) k = ap (λ y. record { state = u; event = other x; steps = y }) (sym (add-zero n))

  pub finishes : (limit : ℕ) (s : State B) (n : ℕ) (t : State B) → Going limit s n t → limit ≤ n →
      record { state = t; event = completed; steps = n } ≡ run prog limit s
  unfolding run ended later
  finishes limit s n t g h =
      sym (g ∙ ap (λ x. later n (run prog x t)) (none_left limit n h) ∙ ap (λ y. record { state = t; event = completed; steps = y }) (add-zero n))

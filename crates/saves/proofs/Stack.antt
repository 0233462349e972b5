-- Words pushed one after another: what is left of a delivery after each, and its ends.
use Prim.Native.Nat.{ℕ, ◌+◌, ◌/◌, ◌%◌, ◌<◌, ◌≤◌}
use mathlib.Core.Path.{◌≡◌, refl, sym, ◌∙◌, ap}
use mathlib.Core.List.{List, [], ◌∷◌, ◌++◌}
use mathlib.Core.Bool.{false}
use native.Mathlib.Omega.{arith}
use borrow.Author.Tests.{lt-ltb, le-ltb}
use lib.ListN.{length, get_or, set, length-set}
use Rattle.std.specs.Prelude.{Option, Some, None, Result, Ok, Err}
use Rattle.std.proofs.lemmas.List.Elements.{All-cons, All-nil}
use Rattle.std.proofs.Math.Option as math
use Rattle.std.proofs.Math.Option.{none, some}
use Rattle.regs.specs.declared.Regs.{Regs}
use Rattle.regs.specs.declared.Machine.{Machine}
use Rattle.regs.specs.Change.{with_ssp}
use Rattle.plan.specs.Kinds.{plus}
use Rattle.board.specs.declared.Fault.{Fault}
use Rattle.board.specs.declared.Fault.TheVariants.{Denied, Lacks}
use Rattle.board.specs.Program as b
use Rattle.bus.specs.Board.{real, load_at}
use Rattle.bus.specs.Access.{next, room_for}
use Rattle.bus.specs.Leave.{two_writes}
use Rattle.bus.proofs.Ends.{within}
use Rattle.saves.specs.declared.pushing.Word.{Word}
use Rattle.saves.specs.Saves.{Outcome, delivered, refusal, pushes, lowered, system, pushed, vector_at, both, word_at, entered, all_passed, vectored, saved}
use Rattle.saves.specs.Words.{word_of, both_places, word_for, onto, words_for, marked_word, stored_word, word_in, marking, storing, all_marking, all_storing, last_at, InMemory, entering, saved_at}

-- ── words with their places ──

record Placed (at v : ℕ) (g h : Result ℕ Fault) (x : Word) : Type 0 where
  low : g ≡ Ok x.low
  high : h ≡ Ok x.high
  address : x.at ≡ at
  value : x.value ≡ v

placed_word : (at v : ℕ) (g h : Result ℕ Fault) (p q : ℕ) (x : Word) → x ≡ word_of at p q v → g ≡ Ok p → h ≡ Ok q → Placed at v g h x
placed_word at v g h p q x e k l = rw (e, k, l) (record { low = refl; high = refl; address = refl; value = refl })

placed : (at v : ℕ) (g h : Result ℕ Fault) (x : Word) → both_places at v g h ≡ Some x → Placed at v g h x
unfolding both_places
placed at v (Ok p) (Ok q) x e = placed_word at v (Ok p) (Ok q) p q x (cc) refl refl
placed at v (Ok p) (Err (Denied i)) x e = absurd (cc)
placed at v (Ok p) (Err (Lacks i)) x e = absurd (cc)
placed at v (Err (Denied i)) h x e = absurd (cc)
placed at v (Err (Lacks i)) h x e = absurd (cc)

record Onto (o : Option Word) (r : Option (List Word)) (ws : List Word) : Type 0 where
  x : Word
  xs : List Word
  one : o ≡ Some x
  rest : r ≡ Some xs
  all : ws ≡ x ∷ xs

onto_some : (o : Option Word) (r : Option (List Word)) (ws : List Word) → onto o r ≡ Some ws → Onto o r ws
onto_some None r ws e = absurd (cc)
onto_some (Some x) None ws e = absurd (cc)
onto_some (Some x) (Some xs) ws e = record { x = x; xs = xs; one = refl; rest = refl; all = cc }

module _ (mmu : ℕ) (ds : List ℕ) (n : ℕ) where
  abbrev Fits : Word → Type 0
  Fits x = (x.low < n) × (x.high < n)

  fits : (a v : ℕ) (x : Word) → word_for mmu ds n a v ≡ Some x → Fits x
  unfolding word_for
  fits a v x e =
      let p = placed a v (room_for false mmu ds n false a) (room_for false mmu ds n false (next a)) x e in (
        within false mmu ds n false a x.low (room_for false mmu ds n false a) refl p.low,
        within false mmu ds n false (next a) x.high (room_for false mmu ds n false (next a)) refl p.high,
      )

  -- each place lies in memory
  pub all_fit : (vs : List ℕ) (sp : ℕ) (ws : List Word) → words_for mmu ds n sp vs ≡ Some ws → InMemory n ws
  unfolding words_for
  all_fit [] sp ws e = let z : ws ≡ [] = cc in rw z (All-nil Fits)
  all_fit (v ∷ vs) sp ws e =
      let o = onto_some (word_for mmu ds n (plus sp 65534) v) (words_for mmu ds n (plus sp 65534) vs) ws e in
      rw o.all (All-cons Fits o.x o.xs (fits (plus sp 65534) v o.x o.one) (all_fit vs (plus sp 65534) o.xs o.rest))

  address : (a v : ℕ) (x : Word) → word_for mmu ds n a v ≡ Some x → x.at ≡ a
  unfolding word_for
  address a v x e = (placed a v (room_for false mmu ds n false a) (room_for false mmu ds n false (next a)) x e).address

  -- SP after them
  last_lowered : (vs : List ℕ) (sp : ℕ) (ws : List Word) → words_for mmu ds n sp vs ≡ Some ws → last_at sp ws ≡ lowered sp vs
  unfolding words_for last_at lowered
  last_lowered [] sp ws e = let z : ws ≡ [] = cc in rw z
  last_lowered (v ∷ vs) sp ws e =
      let a = plus sp 65534 in
      let o = onto_some (word_for mmu ds n a v) (words_for mmu ds n a vs) ws e in
      let h : last_at a o.xs ≡ lowered a vs = last_lowered vs a o.xs o.rest in
      rw o.all (ap (λ (b : ℕ). last_at b o.xs) (address a v o.x o.one) ∙ h)

-- ── a word of the vector ──

load_in : (w : List ℕ) (p : ℕ) → p < length w → load_at w p ≡ some (get_or w p 0)
unfolding load_at
load_in w p h = rw (lt-ltb p (length w) h)

load_out : (w : List ℕ) (p : ℕ) → length w ≤ p → load_at w p ≡ none
unfolding load_at
load_out w p h = rw (le-ltb p (length w) h)

word_in_lem : (w : List ℕ) (p : ℕ) → p + 1 < length w → word_at w p ≡ some (word_in w p)
unfolding word_at both
word_in_lem w p h = rw (load_in w p (omega arith), load_in w (p + 1) h)

both_out : (x : math.Option ℕ) → both x none ≡ none
unfolding both
both_out (some x) = refl
both_out none = refl

word_out : (w : List ℕ) (p : ℕ) → length w ≤ p + 1 → word_at w p ≡ none
unfolding word_at
word_out w p h = rw (load_out w (p + 1) h) (both_out (load_at w p))

pub stored_length : (p q v : ℕ) (w : List ℕ) → length (stored_word p q v w) ≡ length w
unfolding stored_word
stored_length p q v w = length-set (set w p (v % 256)) q (v / 256) ∙ length-set w p (v % 256)

stored_all : (ws : List Word) (w : List ℕ) → length (all_storing ws w) ≡ length w
unfolding all_storing
stored_all [] w = refl
stored_all (x ∷ ws) w = stored_all ws (storing x w) ∙ stored_length x.low x.high x.value w

-- ── one push after another ──

module _ (m : Machine) (w : List ℕ) where
  state : b.State real
  state = system m w

  room : ℕ → Result ℕ Fault
  room a = room_for false m.mmu m.ds (length w) false a

  after_both : (p q : ℕ) (f : ℕ → ℕ → b.Answer real) → b.after state (Ok p) (λ x. b.after state (Ok q) (λ y. f x y)) ≡ f p q
  unfolding b.after
  after_both p q f = refl

  after_lost : (i a v : ℕ) (g h : Result ℕ Fault) (f : ℕ → ℕ → b.Answer real) → both_places a v g h ≡ None →
      vectored m w i (b.after state g (λ x. b.after state h (λ y. f x y))) ≡ refusal 9 m w
  unfolding b.after both_places vectored all_passed
  after_lost i a v (Ok x) (Ok y) f e = absurd (cc)
  after_lost i a v (Ok x) (Err (Denied j)) f e = refl
  after_lost i a v (Ok x) (Err (Lacks j)) f e = refl
  after_lost i a v (Err (Denied j)) h f e = refl
  after_lost i a v (Err (Lacks j)) h f e = refl

  rest : Regs → (a v : ℕ) → List b.Write → (es l : List ℕ) (p q : ℕ) → b.Answer real
  rest r a v xs es l p q = b.writes state r xs (marked_word m.mmu a es) (stored_word p q v l)

  word_is : (r : Regs) (a v : ℕ) (xs : List b.Write) (es l : List ℕ) →
      b.writes state r (two_writes false a v ++ xs) es l ≡ b.after state (room a) (λ p. b.after state (room (next a)) (λ q. rest r a v xs es l p q))
  unfolding b.writes b.write_to b.touch room_for marked_word stored_word state room rest
  word_is r a v xs es l = refl

  module _ (i : ℕ) where
    out_both : (g h : Result ℕ Fault) (f : ℕ → ℕ → b.Answer real) → ((p q : ℕ) → vectored m w i (f p q) ≡ refusal 9 m w) →
        vectored m w i (b.after state g (λ x. b.after state h (λ y. f x y))) ≡ refusal 9 m w
    unfolding b.after vectored all_passed
    out_both (Ok x) (Ok y) f e = e x y
    out_both (Ok x) (Err (Denied j)) f e = refl
    out_both (Ok x) (Err (Lacks j)) f e = refl
    out_both (Err (Denied j)) h f e = refl
    out_both (Err (Lacks j)) h f e = refl

    entered_out : (s : b.State real) (x : math.Option ℕ) → entered m w s x none ≡ refusal 9 m w
    unfolding entered
    entered_out s (some x) = refl
    entered_out s none = refl

    module _ (vs : List ℕ) where
      -- what is left of a delivery that has xs still to push
      left : (sp : ℕ) (xs es l : List ℕ) → Outcome
      left sp xs es l =
          vectored m w i (b.writes state (with_ssp (lowered m.regs.ssp vs) m.regs) (pushes sp xs) es l)

      whole : left m.regs.ssp vs m.ds w ≡ saved_at m w i vs
      unfolding left pushed state
      whole = refl

      on : (sp v : ℕ) (xs es l : List ℕ) (x : Word) → word_for m.mmu m.ds (length w) (plus sp 65534) v ≡ Some x →
          left (plus sp 65534) xs (marking m.mmu x es) (storing x l) ≡ left sp (v ∷ xs) es l
      unfolding left pushes word_for rest room
      on sp v xs es l x e =
          let a = plus sp 65534 in
          let r = with_ssp (lowered m.regs.ssp vs) m.regs in
          let o = placed a v (room a) (room (next a)) x e in
          rw (o.address, o.value)
          (ap (λ (t : b.Answer real). vectored m w i t)
          (sym
          (word_is r a v (pushes a xs) es l ∙
          rw (o.low, o.high) (after_both x.low x.high (λ p q. rest r a v (pushes a xs) es l p q)))))

      lost : (sp v : ℕ) (xs es l : List ℕ) → word_for m.mmu m.ds (length w) (plus sp 65534) v ≡ None →
          left sp (v ∷ xs) es l ≡ refusal 9 m w
      unfolding left pushes word_for rest room
      lost sp v xs es l e =
          let a = plus sp 65534 in
          let r = with_ssp (lowered m.regs.ssp vs) m.regs in
          ap (λ (t : b.Answer real). vectored m w i t) (word_is r a v (pushes a xs) es l) ∙
          after_lost i a v (room a) (room (next a)) (λ p q. rest r a v (pushes a xs) es l p q) e

      -- a word that has no place, and words that all have theirs
      lacking : (xs : List ℕ) (sp : ℕ) (es l : List ℕ) → words_for m.mmu m.ds (length w) sp xs ≡ None → left sp xs es l ≡ refusal 9 m w
      unfolding words_for
      lacking [] sp es l e = absurd (cc)
      lacking (v ∷ xs) sp es l e =
          go (lacking xs (plus sp 65534)) (word_for m.mmu m.ds (length w) (plus sp 65534) v) refl
          (words_for m.mmu m.ds (length w) (plus sp 65534) xs) refl e
        where
          go : ((es l : List ℕ) → words_for m.mmu m.ds (length w) (plus sp 65534) xs ≡ None → left (plus sp 65534) xs es l ≡ refusal 9 m w) →
              (o : Option Word) → word_for m.mmu m.ds (length w) (plus sp 65534) v ≡ o → (r : Option (List Word)) →
              words_for m.mmu m.ds (length w) (plus sp 65534) xs ≡ r → onto o r ≡ None → left sp (v ∷ xs) es l ≡ refusal 9 m w
          go f None h r k u = lost sp v xs es l h
          go f (Some x) h None k u = sym (on sp v xs es l x h) ∙ f (marking m.mmu x es) (storing x l) k
          go f (Some x) h (Some ws) k u = absurd (cc)

      all_on : (xs : List ℕ) (sp : ℕ) (es l : List ℕ) (ws : List Word) → words_for m.mmu m.ds (length w) sp xs ≡ Some ws →
          left (lowered sp xs) [] (all_marking m.mmu ws es) (all_storing ws l) ≡ left sp xs es l
      unfolding words_for all_marking all_storing lowered
      all_on [] sp es l ws e = let z : ws ≡ [] = cc in rw z
      all_on (v ∷ xs) sp es l ws e =
          let a = plus sp 65534 in
          let o = onto_some (word_for m.mmu m.ds (length w) a v) (words_for m.mmu m.ds (length w) a xs) ws e in
          rw o.all (all_on xs a (marking m.mmu o.x es) (storing o.x l) o.xs o.rest ∙ on sp v xs es l o.x o.one)

      -- memory ends before the vector does
      out : length w ≤ i + 3 → (xs : List ℕ) (sp : ℕ) (es l : List ℕ) → length l ≡ length w → left sp xs es l ≡ refusal 9 m w
      unfolding left pushes b.writes b.finish vectored all_passed rest
      out t [] sp es l n =
          rw (word_out l (i + 2) (omega (arith, t))) (entered_out _ _)
      out t (v ∷ xs) sp es l n =
          let a = plus sp 65534 in
          let r = with_ssp (lowered m.regs.ssp vs) m.regs in
          ap (λ (t : b.Answer real). vectored m w i t) (word_is r a v (pushes a xs) es l) ∙
          out_both (room a) (room (next a)) (λ x y. rest r a v (pushes a xs) es l x y)
          (λ p q. out t xs a (marked_word m.mmu a es) (stored_word p q v l) (stored_length p q v l ∙ n))

      ends : (sp : ℕ) (es l : List ℕ) → lowered m.regs.ssp vs ≡ sp → length l ≡ length w → i + 3 < length w →
          delivered (entering m es l sp i) l ≡ left sp [] es l
      unfolding left pushes b.writes b.finish vectored all_passed entered entering
      ends sp es l y n t = rw (y, word_in_lem l i (omega arith), word_in_lem l (i + 2) (omega arith))

module _ (m : Machine) (w : List ℕ) (offset i : ℕ) (vs : List ℕ) (z : i ≡ vector_at m.ctl offset) where
  by_vector : saved_at m w i vs ≡ saved m w offset vs
  unfolding saved
  by_vector = ap (λ (x : ℕ). saved_at m w x vs) z

  pub outside : length w ≤ i + 3 → refusal 9 m w ≡ saved m w offset vs
  outside t = sym (out m w i vs t vs m.regs.ssp m.ds w refl) ∙ whole m w i vs ∙ by_vector

  pub unplaced : words_for m.mmu m.ds (length w) m.regs.ssp vs ≡ None → refusal 9 m w ≡ saved m w offset vs
  unplaced e = sym (lacking m w i vs vs m.regs.ssp m.ds w e) ∙ whole m w i vs ∙ by_vector

  pub done : i + 3 < length w → (ws : List Word) → words_for m.mmu m.ds (length w) m.regs.ssp vs ≡ Some ws →
      delivered (entering m (all_marking m.mmu ws m.ds) (all_storing ws w) (last_at m.regs.ssp ws) i) (all_storing ws w) ≡ saved m w offset vs
  done t ws e =
      rw (last_lowered m.mmu m.ds (length w) vs m.regs.ssp ws e)
      (ends m w i vs (lowered m.regs.ssp vs) (all_marking m.mmu ws m.ds) (all_storing ws w) refl (stored_all ws w) t ∙
      all_on m w i vs vs m.regs.ssp m.ds w ws e ∙ whole m w i vs ∙ by_vector)

-- Words with their places, as the loops go over them.
use Rattle.std.specs.Prelude.{◌≡◌, ℕ, ◌+◌, ◌<◌, ◌≤◌, List, [], ◌∷◌, ◌++◌, length, get_or, take, drop, set, Option, Some, None}
use Rattle.std.proofs.Common.{refl, add-one, drop-cons}
use Rattle.std.proofs.lemmas.List.{take_more_set}
use Rattle.std.proofs.Math.ListN.{drop_of_length-le}
use Rattle.std.proofs.Math.Seq.{take_all}
use Rattle.plan.specs.Kinds.{plus}
use Rattle.saves.specs.declared.pushing.Word.{Word}
use Rattle.saves.specs.Words.{both_places, word_for, onto, words_for, marking, storing, all_marking, all_storing, last_at}

-- ── the loop that finds the places: words that are found stand before those that are left ──

unfoldable pub before : List Word → Option (List Word) → Option (List Word)
before [] r = r
before (x ∷ xs) r = onto (Some x) (before xs r)

before_none : (xs : List Word) → before xs None ≡ None
unfolding before
before_none [] = refl
before_none (x ∷ xs) = rw (before_none xs)

before_one : (xs : List Word) (x : Word) (r : Option (List Word)) → before (xs ++ x ∷ []) r ≡ before xs (onto (Some x) r)
unfolding before
before_one [] x r = refl
before_one (y ∷ xs) x r = rw (before_one xs x r)

before_all : (xs : List Word) → before xs (Some []) ≡ Some xs
unfolding before
before_all [] = refl
before_all (x ∷ xs) = rw (before_all xs)

module _ (mmu : ℕ) (ds : List ℕ) (size : ℕ) (vs : List ℕ) (i at : ℕ) where
  opened : i < length vs → words_for mmu ds size at (drop i vs) ≡
      onto (word_for mmu ds size (plus at 65534) (get_or vs i 0)) (words_for mmu ds size (plus at 65534) (drop (i + 1) vs))
  unfolding words_for
  opened h = rw (add-one, drop-cons vs i 0)

  pub next : (xs : List Word) (x : Word) (a : ℕ) → i < length vs → i < length xs → a ≡ plus at 65534 →
      Some x ≡ word_for mmu ds size a (get_or vs i 0) →
      before (take i xs) (words_for mmu ds size at (drop i vs)) ≡
      before (take (i + 1) (set xs i x)) (words_for mmu ds size a (drop (i + 1) vs))
  next xs x a h k e p = rw (opened h, ← e, ← p, take_more_set xs i x k, before_one (take i xs) x (words_for mmu ds size a (drop (i + 1) vs)))

  pub lost : (xs : List Word) (a : ℕ) → i < length vs → a ≡ plus at 65534 → None ≡ word_for mmu ds size a (get_or vs i 0) →
      before (take i xs) (words_for mmu ds size at (drop i vs)) ≡ None
  lost xs a h e p = rw (opened h, ← e, ← p) (before_none (take i xs))

pub whole : (mmu : ℕ) (ds : List ℕ) (size : ℕ) (vs : List ℕ) (i at : ℕ) (xs : List Word) → length vs ≤ i → length xs ≤ i →
    before (take i xs) (words_for mmu ds size at (drop i vs)) ≡ Some xs
unfolding words_for
whole mmu ds size vs i at xs h k = rw (drop_of_length-le vs h, take_all i xs k) (before_all xs)

-- ── the loop that pushes ──

module _ (xs : List Word) (i : ℕ) where
  abbrev none : Word
  none = record { at = 0; low = 0; high = 0; value = 0 }

  abbrev here : Word
  here = get_or xs i none

  module _ (h : i < length xs) where
    pub next_at : (sp : ℕ) → last_at sp (drop i xs) ≡ last_at here.at (drop (i + 1) xs)
    unfolding last_at
    next_at sp = rw (add-one, drop-cons xs i none)

    pub next_marking : (mmu : ℕ) (ds : List ℕ) → all_marking mmu (drop i xs) ds ≡ all_marking mmu (drop (i + 1) xs) (marking mmu here ds)
    unfolding all_marking
    next_marking mmu ds = rw (add-one, drop-cons xs i none)

    pub next_storing : (w : List ℕ) → all_storing (drop i xs) w ≡ all_storing (drop (i + 1) xs) (storing here w)
    unfolding all_storing
    next_storing w = rw (add-one, drop-cons xs i none)

  module _ (h : length xs ≤ i) where
    pub end_at : (sp : ℕ) → last_at sp (drop i xs) ≡ sp
    unfolding last_at
    end_at sp = rw (drop_of_length-le xs h)

    pub end_marking : (mmu : ℕ) (ds : List ℕ) → all_marking mmu (drop i xs) ds ≡ ds
    unfolding all_marking
    end_marking mmu ds = rw (drop_of_length-le xs h)

    pub end_storing : (w : List ℕ) → all_storing (drop i xs) w ≡ w
    unfolding all_storing
    end_storing w = rw (drop_of_length-le xs h)

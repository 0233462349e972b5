-- The table of kept places as the loop of `run_steps` holds it.
use Prim.Native.Nat.{ℕ, ◌<◌}
use mathlib.Core.Path.{◌≡◌, sym, ap, ◌∙◌}
use mathlib.Core.Bool.{Bool, false}
use mathlib.Core.List.{List}
use lib.Dec.{eqb}
use lib.ListN.{length, get_or, replicate, length-replicate, get_or-replicate}
use Rattle.mmu.specs.Translate.{mode_bits, translate}
use Rattle.kept.specs.Kept.{Right, Inside}
use Rattle.kept.proofs.Kept.{not_both}
use Rattle.steps.specs.Table.{Table}

-- translation looks at no more of MMU control than the mode's bits
right_mode : (kept : List ℕ) (user : Bool) (mmu new : ℕ) (ds : List ℕ) → mode_bits mmu user ≡ mode_bits new user → Right kept user mmu ds → Right kept user new ds
unfolding translate
right_mode kept user mmu new ds e r k h s =
    record {
      at = λ a l p. rw (← e) ((r k h s).at a l p);
      marked = λ f a l p t. rw (← e) ((r k h s).marked f a l p (rw e t));
    }

-- nothing is kept
pub empty : (user : Bool) (bits : ℕ) (ds : List ℕ) (size : ℕ) → Table (replicate 48 1) user bits ds size
empty user bits ds size =
    record { right = λ mmu e k h s. absurd (none k h s); inside = λ k h s. absurd (none k h s); len = length-replicate {A = ℕ} 48 1 }
  where
    none : (k : ℕ) → k < 48 → eqb (get_or (replicate 48 1) k 0) 1 ≡ false → ⊥
    none k h s = not_both (sym (ap (λ x. eqb x 1) (get_or-replicate 48 k 1 0 h)) ∙ s)

-- the table is filled
pub filled : (kept : List ℕ) (user : Bool) (bits control : ℕ) (ds : List ℕ) (size : ℕ) → bits ≡ mode_bits control user → Right kept user control ds → Inside kept size → length kept ≡ 48 →
    Table kept user bits ds size
filled kept user bits control ds size e r i l =
    record { right = λ mmu m. right_mode kept user control mmu ds (sym e ∙ m) r; inside = i; len = l }

-- the table that is held, where it was filled for this mode and these descriptors
module _ (kept : List ℕ) (u : Bool) (b : ℕ) (es : List ℕ) (size : ℕ) (t : Table kept u b es size) where
  pub right_now : (user : Bool) (bits control mmu : ℕ) (ds : List ℕ) → u ≡ user → b ≡ bits → es ≡ ds → bits ≡ mode_bits control user → control ≡ mmu → Right kept user mmu ds
  right_now user bits control mmu ds p q r m e = rw (← p, ← r) (t.right mmu (q ∙ m ∙ rw (e, p)))

  pub inside_now : (n : ℕ) → size ≡ n → Inside kept n
  inside_now n e = rw e at t.inside

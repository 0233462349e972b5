-- How the table comes to be right: each entry, and the loop that fills it. All over plain values.
use Prim.Native.Nat.{ℕ, ◌+◌, ◌%◌, ◌<◌}
use Rattle.std.specs.Prelude.{Option, Some, None, IfSome}
use mathlib.Core.Path.{◌≡◌, refl}
use mathlib.Core.Bool.{Bool, true, false}
use mathlib.Core.List.{List}
use native.Mathlib.Omega.{arith}
use borrow.Author.Tests.{eqb-true, eqb-false}
use lib.Dec.{eqb}
use lib.ListN.{length, get_or, set}
use lib.Seq.{get_or-set_same, get_or-set_other}
use Rattle.std.specs.Option.{unwrap_or}
use Rattle.mmu.specs.Translate.{mode_bits, translate}
use Rattle.kept.specs.Kept.{for_program, for_write, Right, Inside, Entered}
use Rattle.kept.proofs.Kept.{page, number_page, not_both}

module _ (kept : List ℕ) (user : Bool) (mmu : ℕ) (ds : List ℕ) (size : ℕ)
    (all : (k : ℕ) → k < 48 → eqb (get_or kept k 0) 1 ≡ false → Entered user mmu ds size k (get_or kept k 0)) where
  pub filled : Right kept user mmu ds
  unfolding translate
  filled k h t =
      record {
        at = λ a l p. page (mode_bits mmu user) user ds (for_program k) (for_write k) (k % 16) a (get_or kept k 0) p (all k h t).at;
        marked = λ f a l p o. rw (← (number_page (mode_bits mmu user) user false (k % 16) a p)) ((all k h t).marked f o);
      }

  pub fits : Inside kept size
  fits k h t = (all k h t).fits

-- what an entry is, as the table holds it
pub entered : (user : Bool) (mmu : ℕ) (ds : List ℕ) (size k : ℕ) (o : Option ℕ) → IfSome o (λ e. Entered user mmu ds size k e) →
    eqb (unwrap_or o 1) 1 ≡ false → Entered user mmu ds size k (unwrap_or o 1)
entered user mmu ds size k (Some e) h t = h
entered user mmu ds size k None h t = absurd (not_both t)

-- what a turn of the loop that fills a list adds
pub fill_more : (P : ℕ → ℕ → Type 0) (l : List ℕ) (k v : ℕ) → k < length l → ((j : ℕ) → j < k → P j (get_or l j 0)) → P k v →
    (j : ℕ) → j < k + 1 → P j (get_or (set l k v) j 0)
fill_more P l k v h all here j g = go (eqb j k) refl
  where
    go : (t : Bool) → eqb j k ≡ t → P j (get_or (set l k v) j 0)
    go false p = rw (get_or-set_other l k j v 0 (eqb-false j k p)) (all j (omega (arith, eqb-false j k p)))
    go true p = rw (eqb-true j k p, get_or-set_same l k v 0 h) here

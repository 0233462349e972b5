-- The set of descriptors still withheld, and the descriptors as one is made valid.
use Prim.Native.Nat.{ℕ, suc, ◌+◌, ◌≤◌}
use mathlib.Core.Path.{◌≡◌, refl, sym, ◌∙◌}
use mathlib.Core.Bool.{Bool, true, false, cond, ◌||◌}
use mathlib.Core.List.{List, [], ◌∷◌}
use native.Mathlib.Omega.{arith}
use borrow.Author.Tests.{eqb-true, ltb-false}
use lib.Dec.{ltb, eqb}
use lib.ListN.{length, get_or, length-set, get_or-eq_default}
use Rattle.mmu.specs.Translate.{valid, clear_valid, set_valid, change}
use Rattle.mmu.proofs.Marks.{set_clear, clear_twice, get_or_change}
use Rattle.board.specs.Withhold.{has, without, clear_all, hidden}
use Rattle.board.proofs.Access.{Veiled}

without_has : (i : ℕ) (w : List ℕ) (j : ℕ) → has (without i w) j ≡ cond (eqb j i) false (has w j)
without_has i [] j = go (eqb j i)
  where
    go : (b : Bool) → false ≡ cond b false false
    go true = refl
    go false = refl
without_has i (x ∷ w) j = go (eqb i x) refl (eqb j i) refl (without_has i w j)
  where
    go : (b : Bool) → eqb i x ≡ b → (c : Bool) → eqb j i ≡ c → has (without i w) j ≡ cond (eqb j i) false (has w j) →
        has (cond b (without i w) (x ∷ without i w)) j ≡ cond c false (eqb j x || has w j)
    go true p true q h = h ∙ rw q
    go true p false q h = h ∙ rw (q, ← (eqb-true i x p), q)
    go false p true q h = let e : eqb j x ≡ false = rw (eqb-true j i q) p in rw e (h ∙ rw q)
    go false p false q h = rw (h, q)

without_length : (i : ℕ) (w : List ℕ) → length (without i w) ≤ length w
without_length i [] = omega arith
without_length i (x ∷ w) = go (eqb i x) (without_length i w)
  where
    go : (b : Bool) → length (without i w) ≤ length w → length (cond b (without i w) (x ∷ without i w)) ≤ suc (length w)
    go true h = omega arith
    go false h = omega arith

pub without_fewer : (i : ℕ) (w : List ℕ) → has w i ≡ true → 1 + length (without i w) ≤ length w
without_fewer i [] h = let z : ◌≡◌ {A = ℕ} 0 1 = cc in omega arith
without_fewer i (x ∷ w) h = go (eqb i x) h (λ h'. without_fewer i w h') (without_length i w)
  where
    go : (b : Bool) → (b || has w i) ≡ true → (has w i ≡ true → 1 + length (without i w) ≤ length w) → length (without i w) ≤ length w →
        1 + length (cond b (without i w) (x ∷ without i w)) ≤ suc (length w)
    go true h k l = omega arith
    go false h k l = omega (arith, k h)

pub kept_has : (i : ℕ) (w : List ℕ) (j : ℕ) → has (without i w) j ≡ true → has w j ≡ true
kept_has i w j h = go (eqb j i) (sym (without_has i w j) ∙ h)
  where
    go : (b : Bool) → cond b false (has w j) ≡ true → has w j ≡ true
    go true e = cc
    go false e = e

-- a valid descriptor is one of the list
inside : (ds : List ℕ) (i : ℕ) → valid (get_or ds i 0) ≡ true → ltb i (length ds) ≡ true
inside ds i h = go (ltb i (length ds)) refl
  where
    go : (b : Bool) → ltb i (length ds) ≡ b → b ≡ true
    go true p = refl
    go false p = rw (get_or-eq_default ds 0 (ltb-false i (length ds) p)) at h

-- setting the mark of a withheld descriptor leaves one fewer
pub mark_veiled : (w : List ℕ) (m : ℕ) (ds : List ℕ) (n : ℕ) (es : List ℕ) (i : ℕ) → has w i ≡ true → Veiled w m ds n es → Veiled (without i w) m ds n (change set_valid i es)
mark_veiled w m ds n es i hi v =
    record {
      flags = v.flags;
      len = length-set es i (set_valid (get_or es i 0)) ∙ v.len;
      each = λ j. rw (get_or_change set_valid i es j, without_has i w j, v.each j, v.len, inside ds i (v.valid i hi)) (go j (eqb j i) refl);
      valid = λ j h. v.valid j (kept_has i w j h);
    }
  where
    go : (j : ℕ) (b : Bool) → eqb j i ≡ b →
        cond b (set_valid (hidden (has w j) (get_or ds j 0))) (hidden (has w j) (get_or ds j 0)) ≡ hidden (cond b false (has w j)) (get_or ds j 0)
    go j true p = rw (eqb-true j i p, hi) (set_clear (get_or ds i 0) (v.valid i hi))
    go j false p = refl

pub clear_each : (w : List ℕ) (ds : List ℕ) (j : ℕ) → get_or (clear_all w ds) j 0 ≡ hidden (has w j) (get_or ds j 0)
clear_each [] ds j = refl
clear_each (i ∷ w) ds j = clear_each w (change clear_valid i ds) j ∙ rw (get_or_change clear_valid i ds j) (go (eqb j i) refl (ltb i (length ds)) refl (has w j))
  where
    go : (b : Bool) → eqb j i ≡ b → (c : Bool) → ltb i (length ds) ≡ c → (h : Bool) →
        hidden h (cond b (cond c (clear_valid (get_or ds j 0)) (get_or ds j 0)) (get_or ds j 0)) ≡ hidden (b || h) (get_or ds j 0)
    go true p true q true = clear_twice (get_or ds j 0)
    go true p true q false = refl
    go true p false q true = refl
    go true p false q false = rw (eqb-true j i p, get_or-eq_default ds 0 (ltb-false i (length ds) q))
    go false p c q h = refl

pub clear_length : (w : List ℕ) (ds : List ℕ) → length (clear_all w ds) ≡ length ds
clear_length [] ds = refl
clear_length (i ∷ w) ds = clear_length w (change clear_valid i ds) ∙ length-set ds i (clear_valid (get_or ds i 0))

-- Differences of naturals as integers: they add, negate and compare as the naturals do, so that a statement on ℤ becomes a linear one on ℕ.
use Rattle.std.proofs.Common.{◌≡◌, ℕ, zero, suc, ◌+◌, ◌-◌, ◌<◌, ◌≤◌, Bool, true, false, eqb, ltb, pos, negsuc, ◌+ℤ◌, neg_ℤ, sym, refl, ap, ◌∙◌, arith, ltb-false, ltb-true, le-ltb, lt-ltb, eq-eqb, ne_eqb, eqb-true}
use lib.IntN.{sub_ℕ}
use borrow.Author.Tests.{eqb-false}
use Rattle.sums.specs.Width.{eq_z}

-- a test has one of two values
pub data Two (t : Bool) : Type 0 where
  yes! : t ≡ true → Two t
  no! : t ≡ false → Two t

pub two : (t : Bool) → Two t
two true = yes! refl
two false = no! refl

-- two tests of equality that hold together are equal
pub eqb_cong : (a b c d : ℕ) → (a ≡ b → c ≡ d) → (c ≡ d → a ≡ b) → eqb a b ≡ eqb c d
eqb_cong a b c d f g = go (two (eqb a b))
  where
    go : Two (eqb a b) → eqb a b ≡ eqb c d
    go (yes! p) = p ∙ sym (eq-eqb c d (f (eqb-true a b p)))
    go (no! p) = p ∙ sym (ne_eqb c d (λ e. eqb-false a b p (g e)))

pub ltb_cong : (a b c d : ℕ) → (a < b → c < d) → (c < d → a < b) → ltb a b ≡ ltb c d
ltb_cong a b c d f g = go (two (ltb c d))
  where
    go : Two (ltb c d) → ltb a b ≡ ltb c d
    go (yes! p) = lt-ltb a b (g (ltb-true c d p)) ∙ sym p
    go (no! p) = go' (two (ltb a b))
      where
        go' : Two (ltb a b) → ltb a b ≡ ltb c d
        go' (yes! q) = q ∙ sym (lt-ltb c d (f (ltb-true a b q)))
        go' (no! q) = q ∙ sym p

pub sub_neg : (a b : ℕ) → a < b → sub_ℕ a b ≡ negsuc (b - suc a)
sub_neg a b h = simp (lt-ltb a b h)

pub sub_pos : (a b : ℕ) → b ≤ a → sub_ℕ a b ≡ pos (a - b)
sub_pos a b h = simp (le-ltb a b h)

pub eq_z_sub : (a b c d : ℕ) → eq_z (sub_ℕ a b) (sub_ℕ c d) ≡ eqb (a + d) (c + b)
eq_z_sub a b c d = go (two (ltb a b)) (two (ltb c d))
  where
    go : Two (ltb a b) → Two (ltb c d) → eq_z (sub_ℕ a b) (sub_ℕ c d) ≡ eqb (a + d) (c + b)
    go (yes! p) (yes! q) =
        simp (p, q) (eqb_cong (b - suc a) (d - suc c) (a + d) (c + b) (λ e. omega (arith, ltb-true)) (λ e. omega (arith, ltb-true)))
    go (yes! p) (no! q) = simp (p, q) (sym (ne_eqb (a + d) (c + b) (λ e. omega (arith, ltb-true, ltb-false))))
    go (no! p) (yes! q) = simp (p, q) (sym (ne_eqb (a + d) (c + b) (λ e. omega (arith, ltb-true, ltb-false))))
    go (no! p) (no! q) =
        simp (p, q) (eqb_cong (a - b) (c - d) (a + d) (c + b) (λ e. omega (arith, ltb-false)) (λ e. omega (arith, ltb-false)))

pub sub_cong : (a b c d : ℕ) → a + d ≡ c + b → sub_ℕ a b ≡ sub_ℕ c d
sub_cong a b c d e = go (two (ltb a b))
  where
    go : Two (ltb a b) → sub_ℕ a b ≡ sub_ℕ c d
    go (yes! p) = simp (p, lt-ltb c d (omega (arith, ltb-true))) (ap negsuc (omega (arith, ltb-true)))
    go (no! p) = simp (p, le-ltb c d (omega (arith, ltb-false))) (ap pos (omega (arith, ltb-false)))

pub add_sub : (a b c d : ℕ) → sub_ℕ a b +ℤ sub_ℕ c d ≡ sub_ℕ (a + c) (b + d)
add_sub a b c d = go (two (ltb a b)) (two (ltb c d))
  where
    go : Two (ltb a b) → Two (ltb c d) → sub_ℕ a b +ℤ sub_ℕ c d ≡ sub_ℕ (a + c) (b + d)
    go (yes! p) (yes! q) =
        simp (p, q, lt-ltb (a + c) (b + d) (omega (arith, ltb-true))) (ap negsuc (omega (arith, ltb-true)))
    go (yes! p) (no! q) = simp (p, q) (sub_cong (c - d) (suc (b - suc a)) (a + c) (b + d) (omega (arith, ltb-true, ltb-false)))
    go (no! p) (yes! q) = simp (p, q) (sub_cong (a - b) (suc (d - suc c)) (a + c) (b + d) (omega (arith, ltb-true, ltb-false)))
    go (no! p) (no! q) =
        simp (p, q, le-ltb (a + c) (b + d) (omega (arith, ltb-false))) (ap pos (omega (arith, ltb-false)))

pub pos_sub : (a : ℕ) → pos a ≡ sub_ℕ a 0
pos_sub a = sym (sub_pos a 0 (omega arith) ∙ ap pos (omega arith))

neg_pos : (n : ℕ) → neg_ℤ (pos n) ≡ sub_ℕ 0 n
neg_pos zero = refl
neg_pos (suc n) = sym (sub_neg 0 (suc n) (omega arith) ∙ ap negsuc (omega arith))

pub neg_sub : (a b : ℕ) → neg_ℤ (sub_ℕ a b) ≡ sub_ℕ b a
neg_sub a b = go (two (ltb a b))
  where
    go : Two (ltb a b) → neg_ℤ (sub_ℕ a b) ≡ sub_ℕ b a
    go (yes! p) = simp (p, le-ltb b a (omega (arith, ltb-true))) (ap pos (omega (arith, ltb-true)))
    go (no! p) = simp p (neg_pos (a - b) ∙ sub_cong 0 (a - b) b a (omega (arith, ltb-false)))

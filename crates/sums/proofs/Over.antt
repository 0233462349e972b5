-- Signed overflow by the signs of the operands and of the result, proved once over the width.
use Rattle.std.proofs.Common.{◌≡◌, ℕ, suc, ◌+◌, ◌-◌, ◌%◌, ◌^◌, ◌<◌, ◌≤◌, Bool, true, false, cond, not, ◌&&◌, eqb, ltb, leb, ℤ, ◌+ℤ◌, neg_ℤ, refl, ap, ◌∙◌, ap₂, mod-lt, mod-eq_of_lt, pow-suc, arith, ltb-false, ltb-true, eq-eqb, ne_eqb, leb-false, leb-true}
use mathlib.Core.Bool.{beq}
use native.Mathlib.Nat.{mod-eq-sub-mod}
use Rattle.sums.specs.declared.Flags.{Flags}
use Rattle.sums.specs.Width.{eq_z, sign, signed, add_value, add_carry, add_half, add_over, sub_value, sub_half, sub_over}
use Rattle.sums.specs.Flag.{add_flags, sub_flags}
use Rattle.sums.proofs.Ints.{Two, yes!, no!, two, eqb_cong, ltb_cong, eq_z_sub, add_sub, neg_sub, pos_sub}

-- both of one sign, and the third of the other
abbrev pub turned : Bool → Bool → Bool → Bool
turned p q r = beq p q && not (beq p r)

-- 2 ^ k is twice 2 ^ (k - 1)
pub twice : (k : ℕ) → 0 < k → 2 ^ k ≡ 2 ^ (k - 1) + 2 ^ (k - 1)
twice k h = ap (λ (n : ℕ). 2 ^ n) e ∙ pow-suc 2 (k - 1) ∙ omega arith
  where
    e : k ≡ suc (k - 1)
    e = omega arith

-- S = x + y + c is z, or z and 2 ^ k: the signed values add up exactly where the signs are not turned
module _ (h N x y c z : ℕ) (n-is : N ≡ h + h) (x_lt : x < N) (y-lt : y < N) (z-lt : z < N) (c-le : c ≤ 1) where
  -- the signed sum is the signed value of z; it is not
  same : (p q r : Bool) → x + y + c + cond r N 0 ≡ z + (cond p N 0 + cond q N 0)
      → not (eqb (x + y + c + cond r N 0) (z + (cond p N 0 + cond q N 0))) ≡ false
  same p q r e = ap not (eq-eqb _ _ e)

  other : (p q r : Bool) → (x + y + c + cond r N 0 ≡ z + (cond p N 0 + cond q N 0) → ⊥)
      → not (eqb (x + y + c + cond r N 0) (z + (cond p N 0 + cond q N 0))) ≡ true
  other p q r e = ap not (ne_eqb _ _ e)

  by_signs : (s p q r : Bool) → leb h x ≡ p → leb h y ≡ q → leb h z ≡ r → x + y + c ≡ z + cond s N 0
      → not (eqb (x + y + c + cond r N 0) (z + (cond p N 0 + cond q N 0))) ≡ turned p q r
  by_signs true true true true hp hq hr e = same true true true (omega (arith, leb-true, leb-false))
  by_signs true true true false hp hq hr e = other true true false (λ w. omega (arith, leb-true, leb-false))
  by_signs true true false true hp hq hr e = same true false true (omega (arith, leb-true, leb-false))
  by_signs true true false false hp hq hr e = same true false false (omega (arith, leb-true, leb-false))
  by_signs true false true true hp hq hr e = same false true true (omega (arith, leb-true, leb-false))
  by_signs true false true false hp hq hr e = same false true false (omega (arith, leb-true, leb-false))
  by_signs true false false true hp hq hr e = other false false true (λ w. omega (arith, leb-true, leb-false))
  by_signs true false false false hp hq hr e = same false false false (omega (arith, leb-true, leb-false))
  by_signs false true true true hp hq hr e = same true true true (omega (arith, leb-true, leb-false))
  by_signs false true true false hp hq hr e = other true true false (λ w. omega (arith, leb-true, leb-false))
  by_signs false true false true hp hq hr e = same true false true (omega (arith, leb-true, leb-false))
  by_signs false true false false hp hq hr e = same true false false (omega (arith, leb-true, leb-false))
  by_signs false false true true hp hq hr e = same false true true (omega (arith, leb-true, leb-false))
  by_signs false false true false hp hq hr e = same false true false (omega (arith, leb-true, leb-false))
  by_signs false false false true hp hq hr e = other false false true (λ w. omega (arith, leb-true, leb-false))
  by_signs false false false false hp hq hr e = same false false false (omega (arith, leb-true, leb-false))

-- a sum below 2 N, modulo N
mod_lt! : (s N : ℕ) → s < N + N → (t : Bool) → leb N s ≡ t → s ≡ s % N + cond t N 0
mod_lt! s N h true e =
    omega (arith, mod-eq-sub-mod (leb-true N s e), mod-eq_of_lt {n = s - N} {m = N} (omega (arith, leb-true N s e)), leb-true)
mod_lt! s N h false e = omega (arith, mod-eq_of_lt {n = s} {m = N} (leb-false N s e))

mod_below : (s N : ℕ) → s < N + N → s % N < N
mod_below s N h = go (two (leb N s))
  where
    go : Two (leb N s) → s % N < N
    go (yes! e) = omega (arith, mod_lt! s N h true e)
    go (no! e) = omega (arith, mod_lt! s N h false e, leb-false)

pub over_add : (k : ℕ) → 0 < k → (a b c : ℕ) → a < 2 ^ k → b < 2 ^ k → c ≤ 1
    → add_over k a b c ≡ turned (sign k a) (sign k b) (sign k (add_value k a b c))
unfolding add_over
over_add k k-pos a b c ha hb hc =
    ap not
    (ap (eq_z (signed k r)) (ap₂ ◌+ℤ◌ (add_sub a (top a) b (top b)) (pos_sub c) ∙ add_sub (a + b) (top a + top b) c 0)
    ∙ eq_z_sub r (top r) (a + b + c) (top a + top b + 0)
    ∙ eqb_cong (r + (top a + top b + 0)) (a + b + c + top r) (a + b + c + top r) (r + (top a + top b)) (λ e. omega arith) (λ e. omega arith))
    ∙ by_signs (2 ^ (k - 1)) (2 ^ k) a b c r (twice k k-pos) ha hb (mod_below (a + b + c) (2 ^ k) (omega arith)) hc
    (leb (2 ^ k) (a + b + c)) (sign k a) (sign k b) (sign k r) refl refl refl
    (mod_lt! (a + b + c) (2 ^ k) (omega arith) (leb (2 ^ k) (a + b + c)) refl)
  where
    r : ℕ
    r = add_value k a b c

    top : ℕ → ℕ
    top n = cond (sign k n) (2 ^ k) 0

-- r + b + c is a, or a and 2 ^ k, for r the difference a - b - c
sub_adds : (N a b c : ℕ) → a < N → b < N → c ≤ 1 → (t : Bool) → ltb a (b + c) ≡ t → (a + N - b - c) % N + b + c ≡ a + cond t N 0
sub_adds N a b c ha hb hc true e =
    omega (arith, mod-eq_of_lt {n = a + N - b - c} {m = N} (omega (arith, ltb-true a (b + c) e)), ltb-true)
sub_adds N a b c ha hb hc false e =
    omega (
      arith,
      mod-eq-sub-mod {n = a + N - b - c} {m = N} (omega (arith, ltb-false a (b + c) e)),
      mod-eq_of_lt {n = a + N - b - c - N} {m = N} (omega (arith, ltb-false a (b + c) e)),
      ltb-false,
    )

sub_below : (N a b c : ℕ) → a < N → b < N → c ≤ 1 → (a + N - b - c) % N < N
sub_below N a b c ha hb hc = mod-lt (a + N - b - c) (omega arith)

pub over_sub : (k : ℕ) → 0 < k → (a b c : ℕ) → a < 2 ^ k → b < 2 ^ k → c ≤ 1
    → sub_over k a b c ≡ turned (sign k (sub_value k a b c)) (sign k b) (sign k a)
unfolding sub_over
over_sub k k-pos a b c ha hb hc =
    ap not
    (ap (eq_z (signed k r))
    (ap₂ ◌+ℤ◌ (ap (λ (z : ℤ). signed k a +ℤ z) (neg_sub b (top b)) ∙ add_sub a (top a) (top b) b) (ap neg_ℤ (pos_sub c) ∙ neg_sub c 0)
    ∙ add_sub (a + top b) (top a + b) 0 c)
    ∙ eq_z_sub r (top r) (a + top b + 0) (top a + b + c)
    ∙ eqb_cong (r + (top a + b + c)) (a + top b + 0 + top r) (r + b + c + top a) (a + (top r + top b)) (λ e. omega arith) (λ e. omega arith))
    ∙ by_signs (2 ^ (k - 1)) (2 ^ k) r b c a (twice k k-pos) (sub_below (2 ^ k) a b c ha hb hc) hb ha hc
    (ltb a (b + c)) (sign k r) (sign k b) (sign k a) refl refl refl
    (sub_adds (2 ^ k) a b c ha hb hc (ltb a (b + c)) refl)
  where
    r : ℕ
    r = sub_value k a b c

    top : ℕ → ℕ
    top n = cond (sign k n) (2 ^ k) 0

-- the flags as the code computes them
abbrev pub add_code : ℕ → ℕ → ℕ → ℕ → Flags
add_code k a b c =
    record {
      s = sign k (add_value k a b c);
      z = eqb (add_value k a b c) 0;
      h = add_half k a b c;
      v = turned (sign k a) (sign k b) (sign k (add_value k a b c));
      n = false;
      c = add_carry k a b c;
    }

abbrev pub sub_code : ℕ → ℕ → ℕ → ℕ → Flags
sub_code k a b c =
    record {
      s = sign k (sub_value k a b c);
      z = eqb (sub_value k a b c) 0;
      h = sub_half k a b c;
      v = turned (sign k (sub_value k a b c)) (sign k b) (sign k a);
      n = true;
      c = ltb (a + 2 ^ k - b - c) (2 ^ k);
    }

-- they are the flags of the definition, at every width
pub add_flags_lem : (k : ℕ) → 0 < k → (a b c : ℕ) → a < 2 ^ k → b < 2 ^ k → c ≤ 1 → add_code k a b c ≡ add_flags k a b c
add_flags_lem k k-pos a b c ha hb hc = cc (over_add k k-pos a b c ha hb hc)

pub sub_flags_lem : (k : ℕ) → 0 < k → (a b c : ℕ) → a < 2 ^ k → b < 2 ^ k → c ≤ 1 → sub_code k a b c ≡ sub_flags k a b c
sub_flags_lem k k-pos a b c ha hb hc =
    cc (
      over_sub k k-pos a b c ha hb hc,
      ltb_cong (a + 2 ^ k - b - c) (2 ^ k) a (b + c) (λ w. omega arith) (λ w. omega arith),
    )

-- The products of two numbers of at most 16 bits, as 64 bits hold them.
use Rattle.std.proofs.Common.{◌≡◌, ℕ, zero, suc, ◌+◌, ◌-◌, ◌^◌, ◌*◌, ◌<◌, ◌≤◌, ◌||◌, eqb, pos, negsuc, neg_ℤ, ◌*ℤ◌, ◌-ℤ◌, ℤ, refl, arith, lit<, ne_eqb, pow_pos, pow-add, mod-eq_of_lt, lt_of_le_of_lt, le_of_lt, mul-le-mul_left, mul-lt-mul_of_pos_right}
use Rattle.std.proofs.lemmas.Int.{ints, to_z-of_z, fits_signed_mul}
use Rattle.std.specs.Int.RustNames.{unsigned_abs}
use lib.Signed.{lt_z, le_z}
use mir.Syntax.{w64}
use mir.Val.{SFits, of_z, to_z}
use Rattle.sums.specs.Width.{eq_z, signed, wrap}
use Rattle.sums.specs.Flag.{packed, unpacked}
use Rattle.products.specs.Products.{product_flags, mult_of}

-- it is zero where its bits are
zero_bits : (z : ℤ) → SFits w64 z → eqb (of_z w64 z) 0 ≡ eq_z z (pos 0)
zero_bits (pos n) f = refl
zero_bits (negsuc n) f = ne_eqb _ 0 (λ e. omega (arith, f.sfits))

-- a signed number, from 64 bits
abbrev held : ℤ → ℤ
held z = to_z w64 (of_z w64 z)

below_zero : (n : ℕ) (z : ℤ) → n ≤ 32768 → z ≡ pos n → held (pos 0 -ℤ held z) ≡ neg_ℤ (pos n)
below_zero zero z l e = omega (arith, ints)
below_zero (suc n) z l e = omega (arith, ints)

module _ (s t : ℤ) (hs : SFits w64 s) (ht : SFits w64 t) (ls : unsigned_abs s ≤ 32768) (lt : unsigned_abs t ≤ 32768) where
  fits : SFits w64 (s *ℤ t)
  fits = fits_signed_mul w64 s t 32768 32768 ls lt (lit< tt)

  abbrev made : ℤ
  made = held s *ℤ held t

  -- what the code makes of the two, with the flags, is what the definition says
  pub mult_is : (k a b f n : ℕ) (z : ℤ) (v x : ℕ) → SFits w64 z → n ≤ 32768 → n ≡ 2 ^ (k - 1) → z ≡ pos n → s ≡ signed k a → t ≡ signed k b
      → v ≡ wrap (k + k) (held made)
      → x ≡ packed f (product_flags (lt_z (held made) (pos 0)) (eqb (of_z w64 made) 0)
      (lt_z (held made) (held (pos 0 -ℤ held z)) || le_z (held z) (held made)) (unpacked f))
      → record { value = v; f = x } ≡ mult_of k a b f
  unfolding mult_of
  mult_is k a b f n z v x hz ln en ez es et ev ex =
      let p = to_z-of_z w64 s hs in
      let q = to_z-of_z w64 t ht in
      let r = to_z-of_z w64 (s *ℤ t) fits in
      let o = zero_bits (s *ℤ t) fits in
      let m = below_zero n z ln ez in
      let y = to_z-of_z w64 z hz in
      cc

-- the unsigned product of two numbers of k bits has at most k + k
pub whole_product : (k a b : ℕ) (z : ℤ) → a < 2 ^ k → b < 2 ^ k → SFits w64 z → z ≡ pos (a * b) → wrap (k + k) (held z) ≡ a * b
whole_product k a b z ha hb hz e =
    rw (to_z-of_z w64 z hz, e) (mod-eq_of_lt (rw pow-add (lt_of_le_of_lt (mul-le-mul_left a (le_of_lt hb)) (mul-lt-mul_of_pos_right ha (pow_pos k)))))

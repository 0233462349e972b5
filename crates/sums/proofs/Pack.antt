-- The flag register and its six flags, each from the other.
use Rattle.std.proofs.Common.{◌≡◌, ℕ, zero, suc, ◌+◌, ◌*◌, ◌/◌, ◌%◌, ◌<◌, ◌≤◌, Bool, true, false, eqb, refl, ap, ◌∙◌, le_of_suc-le-suc, arith, lit≤}
use Rattle.sums.specs.declared.Flags.{Flags}
use Rattle.sums.specs.Flag.{bit, packed, unpacked}

pub bit_le : (b : Bool) → bit b ≤ 1
bit_le true = lit≤ tt
bit_le false = lit≤ tt

bit_is : (b : Bool) → eqb (bit b) 1 ≡ b
bit_is true = refl
bit_is false = refl

-- a digit read back as a flag
read : (b : Bool) (n : ℕ) → n ≡ bit b → eqb n 1 ≡ b
read b n e = ap (λ (m : ℕ). eqb m 1) e ∙ bit_is b

-- eight binary digits, each taken out again
module _ (a b c d e f g h : ℕ) (ha : a ≤ 1) (hb : b ≤ 1) (hc : c ≤ 1) (hd : d ≤ 1) (he : e ≤ 1) (hf : f ≤ 1) (hg : g ≤ 1) (hh : h ≤ 1) where
  abbrev byte : ℕ
  byte = a * 128 + b * 64 + c * 32 + d * 16 + e * 8 + f * 4 + g * 2 + h

  digits : (byte / 128 % 2 ≡ a) × (byte / 64 % 2 ≡ b) × (byte / 32 % 2 ≡ c) × (byte / 16 % 2 ≡ d) × (byte / 8 % 2 ≡ e) × (byte / 4 % 2 ≡ f)
      × (byte / 2 % 2 ≡ g) × (byte % 2 ≡ h) × (byte < 256)
  digits = omega arith

module _ (f : ℕ) (x : Flags) where
  all : (packed f x / 128 % 2 ≡ bit x.s) × (packed f x / 64 % 2 ≡ bit x.z) × (packed f x / 32 % 2 ≡ f / 32 % 2) × (packed f x / 16 % 2 ≡ bit x.h)
      × (packed f x / 8 % 2 ≡ f / 8 % 2) × (packed f x / 4 % 2 ≡ bit x.v) × (packed f x / 2 % 2 ≡ bit x.n) × (packed f x % 2 ≡ bit x.c) × (packed f x < 256)
  all =
      digits (bit x.s) (bit x.z) (f / 32 % 2) (bit x.h) (f / 8 % 2) (bit x.v) (bit x.n) (bit x.c)
      (bit_le x.s) (bit_le x.z) (omega arith) (bit_le x.h) (omega arith) (bit_le x.v) (bit_le x.n) (bit_le x.c)

  -- the flags that were packed come back
  pub unpack_pack : unpacked (packed f x) ≡ x
  unpack_pack =
      rw (
        read x.s (packed f x / 128 % 2) all.0,
        read x.z (packed f x / 64 % 2) all.1,
        read x.h (packed f x / 16 % 2) all.3,
        read x.v (packed f x / 4 % 2) all.5,
        read x.n (packed f x / 2 % 2) all.6,
        read x.c (packed f x % 2) all.7,
      )

  pub pack_lt : packed f x < 256
  pack_lt = all.8

  -- bits 5 and 3 are the old ones, so only the last packing counts
  pub pack_pack : (y : Flags) → packed (packed f x) y ≡ packed f y
  pack_pack y = cc (all.2, all.4)

bit_eqb : (n : ℕ) → n ≤ 1 → bit (eqb n 1) ≡ n
bit_eqb zero h = refl
bit_eqb (suc zero) h = refl
bit_eqb (suc (suc n)) h = omega (arith, le_of_suc-le-suc h)

-- Horner, with every quotient and digit an atom of its own: all eight at once are past `omega`'s bound
horner : (f q1 q2 q3 q4 q5 q6 q7 d0 d1 d2 d3 d4 d5 d6 : ℕ)
    → f ≡ q1 * 2 + d0 → q1 ≡ q2 * 2 + d1 → q2 ≡ q3 * 2 + d2 → q3 ≡ q4 * 2 + d3 → q4 ≡ q5 * 2 + d4 → q5 ≡ q6 * 2 + d5 → q6 ≡ q7 * 2 + d6
    → q7 * 128 + d6 * 64 + d5 * 32 + d4 * 16 + d3 * 8 + d2 * 4 + d1 * 2 + d0 ≡ f
horner f q1 q2 q3 q4 q5 q6 q7 d0 d1 d2 d3 d4 d5 d6 e0 e1 e2 e3 e4 e5 e6 = omega arith

whole : (f : ℕ) → f < 256
    → f / 128 % 2 * 128 + f / 64 % 2 * 64 + f / 32 % 2 * 32 + f / 16 % 2 * 16 + f / 8 % 2 * 8 + f / 4 % 2 * 4 + f / 2 % 2 * 2 + f % 2 ≡ f
whole f h =
    horner f (f / 2) (f / 4) (f / 8) (f / 16) (f / 32) (f / 64) (f / 128 % 2) (f % 2) (f / 2 % 2) (f / 4 % 2) (f / 8 % 2) (f / 16 % 2) (f / 32 % 2)
    (f / 64 % 2) (omega arith) (omega arith) (omega arith) (omega arith) (omega arith) (omega arith) (omega arith)

-- F itself, from its flags
pub pack_unpack : (f : ℕ) → f < 256 → packed f (unpacked f) ≡ f
pack_unpack f h =
    rw (
      bit_eqb (f / 128 % 2) (omega arith),
      bit_eqb (f / 64 % 2) (omega arith),
      bit_eqb (f / 16 % 2) (omega arith),
      bit_eqb (f / 4 % 2) (omega arith),
      bit_eqb (f / 2 % 2) (omega arith),
      bit_eqb (f % 2) (omega arith),
    ) (whole f h)

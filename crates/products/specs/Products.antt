-- The four multiplies, their flags at any width, and the address that a signed displacement reaches. Lines are those of section 5.6's pages.
use Rattle.std.specs.Prelude.{ℕ, ◌+◌, ◌-◌, ◌*◌, ◌^◌, Bool, false, ◌||◌, ℤ, pos, ◌+ℤ◌, ◌*ℤ◌, neg_ℤ, ◌==◌, int_le, int_lt, nat_le}
use Rattle.sums.specs.declared.Flags.{Flags}
use Rattle.sums.specs.declared.WithF.{WithF}
use Rattle.sums.specs.Width.{eq_z, signed, wrap}
use Rattle.sums.specs.Flag.{packed, unpacked}

-- a 16 bit address and a signed displacement of 8 bits; addresses wrap at 65,536
unfoldable pub displaced : ℕ → ℕ → ℕ
displaced x d = wrap 16 (pos x +ℤ signed 8 d)

-- the product of two signed numbers of k bits
abbrev pub product : ℕ → ℕ → ℕ → ℤ
product k a b = signed k a *ℤ signed k b

-- less than -(2 ^ (k - 1)), or greater than or equal to 2 ^ (k - 1)
abbrev pub outside : ℕ → ℤ → Bool
outside k z = int_lt z (neg_ℤ (pos (2 ^ (k - 1)))) || int_le (pos (2 ^ (k - 1))) z

-- V clear, H and N stay
abbrev pub product_flags : Bool → Bool → Bool → Flags → Flags
product_flags s z c old = record { s = s; z = z; h = old.h; v = false; n = old.n; c = c }

-- signed: C where the product does not fit in k bits
abbrev pub mult_flags : ℕ → ℕ → ℕ → Flags → Flags
mult_flags k a b = product_flags (int_lt (product k a b) (pos 0)) (eq_z (product k a b) (pos 0)) (outside k (product k a b))

-- unsigned: S clear, C where the product is 2 ^ k or more
abbrev pub multu_flags : ℕ → ℕ → ℕ → Flags → Flags
multu_flags k a b = product_flags false (a * b == 0) (nat_le (2 ^ k) (a * b))

-- MULT, line 5052, and MULTW, line 5235; MULTU, line 5114, and MULTUW, line 5176
unfoldable pub mult_of : ℕ → ℕ → ℕ → ℕ → WithF ℕ
mult_of k a b f = record { value = wrap (k + k) (product k a b); f = packed f (mult_flags k a b (unpacked f)) }

unfoldable pub multu_of : ℕ → ℕ → ℕ → ℕ → WithF ℕ
multu_of k a b f = record { value = a * b; f = packed f (multu_flags k a b (unpacked f)) }

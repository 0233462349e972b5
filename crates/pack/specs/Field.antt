-- What the inner functions promise, of one bit and of one field: how the first bits of a run of bytes grow.
use Rattle.std.specs.Prelude.{ℕ, ◌+◌, ◌-◌, ◌*◌, ◌/◌, ◌%◌, ◌^◌, ◌<◌, ◌≤◌, ◌≡◌, List, length, take, drop, get_or}
use Rattle.pack.specs.Pack.{number}

-- bit r of the byte x, the most significant being bit 0
abbrev pub bit_of : ℕ → ℕ → ℕ
bit_of x r = x / 2 ^ (7 - r) % 2

-- the byte x with b as its bit r and zeros after it
abbrev pub with_bit : ℕ → ℕ → ℕ → ℕ
with_bit x r b = (x / 2 ^ (8 - r) * 2 + b) * 2 ^ (7 - r)

-- the number that the first p bits of the bytes s spell
unfoldable pub prefix : List ℕ → ℕ → ℕ
prefix s p = number (take (p / 8) s) * 2 ^ (p % 8) + get_or s (p / 8) 0 / 2 ^ (8 - p % 8)

-- s has a place for a field of w bits at bit p
pub record Place (s : List ℕ) (p w : ℕ) : Type 0 where
  pub there : p + w ≤ length s * 8
  pub near : p + w < 65536
  pub narrow : w ≤ 16

-- t is s with v in the w bits from p on; the bytes past the field's last stay
pub record Put (s : List ℕ) (p w v : ℕ) (t : List ℕ) : Type 0 where
  pub spelt : prefix t (p + w) ≡ prefix s p * 2 ^ w + v
  pub past : (k : ℕ) → p + w ≤ k * 8 → drop k t ≡ drop k s

-- v is what the w bits from p on spell
pub record Got (s : List ℕ) (p w v : ℕ) : Type 0 where
  pub spelt : prefix s (p + w) ≡ prefix s p * 2 ^ w + v
  pub fits : v < 2 ^ w

-- Sums, differences and signed values of numbers of k bits, one definition for every width k.
-- A number of k bits is a ℕ below 2 ^ k; c is the carry, or borrow, that comes in: 0 or 1.
use Rattle.std.specs.Prelude.{ℕ, ◌+◌, ◌-◌, ◌%◌, ◌^◌, Bool, false, cond, not, ℤ, pos, negsuc, ◌+ℤ◌, ◌-ℤ◌, ◌==◌, nat_le, nat_lt}
use Rattle.std.proofs.Math.IntN.{sub_ℕ}

-- are two integers equal
abbrev pub eq_z : ℤ → ℤ → Bool
eq_z (pos a) (pos b) = a == b
eq_z (pos a) (negsuc b) = false
eq_z (negsuc a) (pos b) = false
eq_z (negsuc a) (negsuc b) = a == b

-- is the top bit of n set
abbrev pub sign : ℕ → ℕ → Bool
sign k n = nat_le (2 ^ (k - 1)) n

-- the signed value of n, in twos complement: n where the top bit is clear, n - 2 ^ k where it is set
abbrev pub signed : ℕ → ℕ → ℤ
signed k n = sub_ℕ n (cond (sign k n) (2 ^ k) 0)

-- the number of k bits that stands for an integer: the integer modulo 2 ^ k (negsuc n is -(n + 1))
abbrev pub wrap : ℕ → ℤ → ℕ
wrap k (pos n) = n % 2 ^ k
wrap k (negsuc n) = 2 ^ k - 1 - n % 2 ^ k

-- EXTS, lines 3275 and 3314: the signed value in twice the bits
abbrev pub extended : ℕ → ℕ → ℕ
extended k a = wrap (k + k) (signed k a)

-- a + b + c: the result; the carry out of the top bit; the carry into bit k - 4 (bit 4 of a byte, bit 12 of a word);
-- overflow, where the result's signed value is not the signed sum
abbrev pub add_value : ℕ → ℕ → ℕ → ℕ → ℕ
add_value k a b c = (a + b + c) % 2 ^ k

abbrev pub add_carry : ℕ → ℕ → ℕ → ℕ → Bool
add_carry k a b c = nat_le (2 ^ k) (a + b + c)

abbrev pub add_half : ℕ → ℕ → ℕ → ℕ → Bool
add_half k a b c = nat_le (2 ^ (k - 4)) (a % 2 ^ (k - 4) + b % 2 ^ (k - 4) + c)

unfoldable pub add_over : ℕ → ℕ → ℕ → ℕ → Bool
add_over k a b c = not (eq_z (signed k (add_value k a b c)) (signed k a +ℤ signed k b +ℤ pos c))

-- a - b - c: the same, with borrows for carries
abbrev pub sub_value : ℕ → ℕ → ℕ → ℕ → ℕ
sub_value k a b c = (a + 2 ^ k - b - c) % 2 ^ k

abbrev pub sub_carry : ℕ → ℕ → ℕ → ℕ → Bool
sub_carry k a b c = nat_lt a (b + c)

abbrev pub sub_half : ℕ → ℕ → ℕ → ℕ → Bool
sub_half k a b c = nat_lt (a % 2 ^ (k - 4)) (b % 2 ^ (k - 4) + c)

unfoldable pub sub_over : ℕ → ℕ → ℕ → ℕ → Bool
sub_over k a b c = not (eq_z (signed k (sub_value k a b c)) (signed k a -ℤ signed k b -ℤ pos c))

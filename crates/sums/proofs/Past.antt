-- What the default of a `match` on a number is told, where the arms before it are 0, 1, .., n - 1 in this order: the number is n or more.
use Rattle.std.proofs.Common.{◌≡◌, ℕ, zero, suc, ◌+◌, ◌≤◌, zero-le, arith}

abbrev pub Rest : ℕ → ℕ → Type 0
Rest x zero = Unit {0}
Rest x (suc n) = Rest x n × (x ≡ n → ⊥)

pub past : (n x : ℕ) → Rest x n → n ≤ x
past zero x r = zero-le
past (suc n) x r = omega (arith, past n x r.0, r.1)

-- The same where the number is b or more and the arms are b, b + 1, .., b + n - 1.
abbrev pub Rest_from : ℕ → ℕ → ℕ → Type 0
Rest_from b x zero = Unit {0}
Rest_from b x (suc n) = Rest_from b x n × (x ≡ b + n → ⊥)

pub past_from : (b n x : ℕ) → Rest_from b x n → b ≤ x → b + n ≤ x
past_from b zero x r h = omega (arith, h)
past_from b (suc n) x r h = omega (arith, past_from b n x r.0 h, r.1)

-- The memory unit takes a descriptor's number by its lowest five bits: below 32 that is the number.
use Rattle.std.proofs.Common.{◌≡◌, ℕ, ◌%◌, ◌<◌, arith}

pub itself : (n : ℕ) → n < 32 → n % 32 ≡ n
itself n h = omega arith

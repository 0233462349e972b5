use Rattle.std.proofs.Common.{◌≡◌, ◌∙◌, ℕ, ◌+◌, ◌*◌, [], ◌∷◌, arith}
use Rattle.std.specs.Int.{w16, w32, from_le_bytes}
use Rattle.handed.specs.Handed.{spelt, event_in}
use Rattle.handed.proofs.event_in.Goals as goal

two : (a b : ℕ) → from_le_bytes w16 (a ∷ b ∷ []) ≡ a + (b + 0) * 256
two a b = omega arith

four : (a b c d : ℕ) → from_le_bytes w32 (a ∷ b ∷ c ∷ d ∷ []) ≡ a + (b + (c + (d + 0) * 256) * 256) * 256
four a b c d = omega arith

pub returns : goal.returns
unfolding event_in spelt
returns c =
    let n = c.from_le_bytes-number.ensures ∙ two _ _ in
    let a = c.from_le_bytes-first.ensures ∙ four _ _ _ _ in
    let b = c.from_le_bytes-second.ensures ∙ four _ _ _ _ in
    c.event_of.ensures ∙ rw (n, a, b)

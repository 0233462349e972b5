-- The 12 bytes of an answer: number and completed steps of 2 bytes, the values of 4 each, low byte first.
use Rattle.std.specs.Prelude.{ℕ, zero, suc, ◌/◌, ◌%◌, List, [], ◌∷◌, ◌++◌}
use Rattle.events.specs.declared.Numbered.{Numbered}

abbrev pub answer_length : ℕ
answer_length = 12

-- the lowest n bytes of v
unfoldable pub little : (n v : ℕ) → List ℕ
little zero v = []
little (suc n) v = v % 256 ∷ little n (v / 256)

unfoldable pub answer_bytes : Numbered → (steps : ℕ) → List ℕ
answer_bytes e steps = little 2 e.number ++ little 2 steps ++ little 4 e.first ++ little 4 e.second

-- The line that is printed: words and numbers as bytes of ASCII.
use Rattle.std.specs.Prelude.{ℕ, ◌+◌, ◌/◌, ◌%◌, ◌≡◌, cond, List, [], ◌∷◌, ◌++◌, ltb, length, drop, replicate, decimal, Result, Ok, Err}
use Rattle.legal.specs.declared.refusal.Refusal.{Refusal}
use Rattle.legal.specs.Refusal.{number_of}
use Rattle.line.specs.declared.buffer.Line.{Line}
use Rattle.line.specs.declared.End.{End}
use Rattle.line.specs.declared.Shown.{Shown}
use Rattle.line.specs.declared.Shown.TheVariants.{Refused, Ended}

abbrev pub shows : Result End Refusal → Shown
shows (Ok e) = Ended e.event e.steps e.pc
shows (Err k) = Refused (number_of k)

-- 0 to 9, then A to F
abbrev pub glyph : ℕ → ℕ
glyph d = cond (ltb d 10) (48 + d) (55 + d)

abbrev pub four_hex : ℕ → List ℕ
four_hex v = glyph (v / 4096 % 16) ∷ glyph (v / 256 % 16) ∷ glyph (v / 16 % 16) ∷ glyph (v % 16) ∷ []

-- "refused ", "stop ", " steps ", " pc ", and a newline
abbrev pub refused_word : List ℕ
refused_word = 114 ∷ 101 ∷ 102 ∷ 117 ∷ 115 ∷ 101 ∷ 100 ∷ 32 ∷ []

abbrev pub stop_word : List ℕ
stop_word = 115 ∷ 116 ∷ 111 ∷ 112 ∷ 32 ∷ []

abbrev pub steps_word : List ℕ
steps_word = 32 ∷ 115 ∷ 116 ∷ 101 ∷ 112 ∷ 115 ∷ 32 ∷ []

abbrev pub pc_word : List ℕ
pc_word = 32 ∷ 112 ∷ 99 ∷ 32 ∷ []

abbrev pub newline : List ℕ
newline = 10 ∷ []

unfoldable pub refused_line : ℕ → List ℕ
refused_line k = refused_word ++ decimal k ++ newline

unfoldable pub ended_line : ℕ → ℕ → ℕ → List ℕ
ended_line e n pc = stop_word ++ decimal e ++ steps_word ++ decimal n ++ pc_word ++ four_hex pc ++ newline

abbrev pub line_of : Shown → List ℕ
line_of (Refused k) = refused_line k
line_of (Ended e n pc) = ended_line e n pc

-- the text t, of r bytes, stands over the first bytes of old, and the rest of old stays
pub record Over (t old : List ℕ) (r : ℕ) (new : List ℕ) : Type 0 where
  pub long : r ≡ length t
  pub spelt : new ≡ t ++ drop (length t) old

-- .. of zeros
abbrev pub Spells : Line → (t : List ℕ) → Type 0
Spells l t = Over t (replicate 32 0) l.n l.text

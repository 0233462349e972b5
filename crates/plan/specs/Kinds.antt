-- What passes between the stages of a step: what an instruction ends with, the fields of its operation code and its immediate.
use Rattle.std.specs.Prelude.{ℕ, ◌+◌, ◌/◌, ◌%◌, List, [], ◌∷◌, slice_index_or}
use Rattle.regs.specs.declared.Regs.{Regs}
use Rattle.plan.specs.declared.kinds.Ins.{Ins}
use Rattle.plan.specs.declared.kinds.Spot.{Spot}
use Rattle.plan.specs.declared.kinds.Done.{Done}
use Rattle.plan.specs.declared.kinds.Write.TheVariants as write

-- registers alone; a byte, a word to be written at a place
abbrev pub quiet : Regs → Done
quiet r = record { regs = r; write = write.Nothing }

abbrev pub stores : Regs → Spot → ℕ → Done
stores r s b = record { regs = r; write = write.One s.program s.a b }

abbrev pub stores_word : Regs → Spot → ℕ → Done
stores_word r s v = record { regs = r; write = write.Two s.program s.a v }

-- addresses and 16 bit index sums wrap at 65,536
abbrev pub plus : ℕ → ℕ → ℕ
plus a b = (a + b) % 65536

-- the low byte and the low word of what was read or fetched
abbrev pub byte : ℕ → ℕ
byte v = v % 256

abbrev pub word : ℕ → ℕ
word v = v % 65536

-- the fields of the operation code: bits 5 to 3, bits 2 to 0, bits 5 and 4
abbrev pub bits53 : Ins → ℕ
bits53 i = i.code / 8 % 8

abbrev pub bits20 : Ins → ℕ
bits20 i = i.code % 8

abbrev pub bits54 : Ins → ℕ
bits54 i = i.code / 16 % 4

-- the immediate that stands after the address in the instruction: the address takes two bytes in the modes DA, X, RA and SR, one in SX
abbrev pub immediates : ℕ → List ℕ
immediates n =
    n ∷ n ∷ n / 65536 ∷ n / 256 ∷ n / 65536 ∷ n / 65536 ∷ n / 65536 ∷ n / 65536 ∷ n / 65536 ∷ []

unfoldable pub immediate_of : Ins → ℕ
immediate_of i = slice_index_or (immediates i.arg) i.mode i.arg

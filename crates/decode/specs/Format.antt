-- A format is the manual's bit pattern of an operation code with what it means; the entry of a code in a table is that of the first format it fits.
use Rattle.std.specs.Prelude.{ℕ, zero, suc, ◌+◌, ◌*◌, ◌/◌, ◌%◌, Bool, true, false, cond, List, [], ◌∷◌, eqb}
use Prim.Native.String.{String, slice}
use lib.Text.{eqt}

abbrev pub both : Bool → Bool → Bool
both true b = b
both false b = false

-- pattern, operation, mode, bytes read there (0, 1, 2 or 4), bytes that follow the operation code
pub data Format : Type 0 where
  format : String → ℕ → ℕ → ℕ → ℕ → Format

-- a 0 or a 1 is the bit itself; a letter stands for either
abbrev pub bit_fits : String → ℕ → Bool
bit_fits p n = cond (eqt p "0") (eqb n 0) (cond (eqt p "1") (eqb n 1) true)

-- the pattern's bit that is i from the left, against the byte's, whose place value is d
abbrev pub bit_at : String → ℕ → ℕ → ℕ → Bool
bit_at p i d b = bit_fits (slice p i (i + 1)) (b / d % 2)

abbrev pub fits : String → ℕ → Bool
fits p b =
    both (bit_at p 0 128 b) (both (bit_at p 1 64 b) (both (bit_at p 2 32 b) (both (bit_at p 3 16 b)
    (both (bit_at p 4 8 b) (both (bit_at p 5 4 b) (both (bit_at p 6 2 b) (bit_at p 7 1 b)))))))

-- two bits for the bytes read: 3 stands for 4
abbrev pub reads_field : ℕ → ℕ
reads_field n = cond (eqb n 4) 3 n

-- operation 7 bits, bytes read 2, mode 4, bytes that follow 3
abbrev pub entry : ℕ → ℕ → ℕ → ℕ → ℕ
entry op mode reads bytes = op * 512 + reads_field reads * 128 + mode * 8 + bytes

-- the entry of the first format that the byte fits; 0 where none does
abbrev pub entry_of : List Format → ℕ → ℕ
entry_of [] b = 0
entry_of (format p op mode reads bytes ∷ fs) b = cond (fits p b) (entry op mode reads bytes) (entry_of fs b)

-- the values of f from i on, n of them
abbrev pub values : (ℕ → ℕ) → ℕ → ℕ → List ℕ
values f i zero = []
values f i (suc n) = f i ∷ values f (suc i) n

-- The four fields of an entry.
use Rattle.std.specs.Prelude.{ℕ, ◌/◌, ◌%◌, cond, eqb}

abbrev pub op_in : ℕ → ℕ
op_in e = e / 512

-- how many bytes are read at the operand's place: 0, 1, 2 or 4
abbrev pub reads_in : ℕ → ℕ
reads_in e = cond (eqb (e / 128 % 4) 3) 4 (e / 128 % 4)

abbrev pub mode_in : ℕ → ℕ
mode_in e = e / 8 % 16

-- how many bytes follow the operation code
abbrev pub bytes_in : ℕ → ℕ
bytes_in e = e % 8

-- Where the memory operand is: the addressing modes of chapter 4 (lines 900 to 1250), numbered.
use Rattle.std.specs.Prelude.{ℕ}

-- no memory operand
abbrev pub no : ℕ
no = 0

-- (HL)
abbrev pub ir : ℕ
ir = 1

-- (nn)
abbrev pub da : ℕ
da = 2

-- (IX+d) or (IY+d), 8 bit d, by the opening
abbrev pub sx : ℕ
sx = 3

-- (IX+dd)
abbrev pub x_ix : ℕ
x_ix = 4

-- (IY+dd)
abbrev pub x_iy : ℕ
x_iy = 5

-- (HL+dd)
abbrev pub x_hl : ℕ
x_hl = 6

-- <addr>, relative to PC
abbrev pub ra : ℕ
ra = 7

-- (SP+dd)
abbrev pub sr : ℕ
sr = 8

-- (HL+IX)
abbrev pub bx_hl_ix : ℕ
bx_hl_ix = 9

-- (HL+IY)
abbrev pub bx_hl_iy : ℕ
bx_hl_iy = 10

-- (IX+IY)
abbrev pub bx_ix_iy : ℕ
bx_ix_iy = 11

-- (BC)
abbrev pub at_bc : ℕ
at_bc = 12

-- (DE)
abbrev pub at_de : ℕ
at_de = 13

-- (SP), the top of the stack
abbrev pub at_sp : ℕ
at_sp = 14

-- (SP) where the condition of the operation code holds; else nothing is read
abbrev pub at_sp_cc : ℕ
at_sp_cc = 15

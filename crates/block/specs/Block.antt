-- Block moves and searches: what one repetition, which is one step, makes of the registers, whose PC is past the instruction already,
-- and of the byte v read at HL. k is what the pointers move by: up or down.
use Rattle.std.specs.Prelude.{ℕ, Bool, true, false, cond, not, ◌&&◌, eqb}
use Rattle.sums.specs.declared.Flags.{Flags}
use Rattle.sums.specs.Flag.{packed, unpacked, sub_flags}
use Rattle.regs.specs.declared.Regs.{Regs}
use Rattle.regs.specs.Change.{with_pc, with_block}
use Rattle.regs.specs.Select.{a_of, f_of, with_f}
use Rattle.plan.specs.declared.kinds.Ins.{Ins}
use Rattle.plan.specs.declared.kinds.Done.{Done}
use Rattle.plan.specs.Kinds.{quiet, stores, plus, byte}
use Rattle.plan.specs.Places.{data_at}

-- by one; the second modulo 65,536
abbrev pub up : ℕ
up = 1

abbrev pub down : ℕ
down = 65535

-- BC - 1, and whether it is not zero
abbrev pub left : Regs → ℕ
left r = plus r.bc down

abbrev pub more : Regs → Bool
more r = not (eqb (left r) 0)

-- the flags of A - (HL); Z says that they match
abbrev pub compared : Regs → ℕ → Flags
compared r v = sub_flags 8 (a_of r) (byte v) 0

-- lines 4410, 4543: H and N cleared, V where BC - 1 is not zero, the rest unaffected
abbrev pub move_flags : Bool → Flags → Flags
move_flags v old = record { s = old.s; z = old.z; h = false; v = v; n = false; c = old.c }

-- lines 2358, 2480: S, Z and H by the comparison, V where BC - 1 is not zero, N set, C unaffected
abbrev pub search_flags : Bool → Flags → Flags → Flags
search_flags v old x = record { s = x.s; z = x.z; h = x.h; v = v; n = true; c = old.c }

-- the registers after a repetition: flags x, BC - 1, the pointers as given
unfoldable pub counted : Regs → Flags → ℕ → ℕ → Regs
counted r x de hl = with_block (left r) de hl (with_f (packed (f_of r) x) r)

-- (DE) takes (HL)
unfoldable pub moved : ℕ → Regs → ℕ → Done
moved k r v =
    stores (counted r (move_flags (more r) (unpacked (f_of r))) (plus r.de k) (plus r.hl k)) (data_at 0 r.de) (byte v)

-- A - (HL)
unfoldable pub searched : ℕ → Regs → ℕ → Done
searched k r v = quiet (counted r (search_flags (more r) (unpacked (f_of r)) (compared r v)) r.de (plus r.hl k))

-- while there is more to do, PC stays on the instruction
unfoldable pub staying : Bool → Regs → Ins → Regs
staying again r i = cond again (with_pc i.start r) r

-- a search goes on until BC = 0 or match
abbrev pub seeking : Regs → ℕ → Bool
seeking r v = more r && not (compared r v).z

-- CPD, line 2350; CPDR, line 2408
unfoldable pub cpd : Regs → ℕ → Done
cpd r v = searched down r v

unfoldable pub cpdr : Regs → Ins → ℕ → Done
cpdr r i v = searched down (staying (seeking r v) r i) v

-- CPI, line 2470; CPIR, line 2525
unfoldable pub cpi : Regs → ℕ → Done
cpi r v = searched up r v

unfoldable pub cpir : Regs → Ins → ℕ → Done
cpir r i v = searched up (staying (seeking r v) r i) v

-- LDD, line 4398; LDDR, line 4459
unfoldable pub ldd : Regs → ℕ → Done
ldd r v = moved down r v

unfoldable pub lddr : Regs → Ins → ℕ → Done
lddr r i v = moved down (staying (more r) r i) v

-- LDI, line 4535; LDIR, line 4588
unfoldable pub ldi : Regs → ℕ → Done
ldi r v = moved up r v

unfoldable pub ldir : Regs → Ins → ℕ → Done
ldir r i v = moved up (staying (more r) r i) v

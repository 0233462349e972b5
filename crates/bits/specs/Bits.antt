-- BIT, RES, SET, TSET, rotates and shifts of a register or of a byte in memory: what each makes of the registers, whose PC is past it
-- already, of its place s and of the byte v read there. Bits 5 to 3 of the operation code are the bit's number, or say which rotate;
-- bits 2 to 0 are the register.
use Rattle.std.specs.Prelude.{ℕ}
use Rattle.regs.specs.declared.Regs.{Regs}
use Rattle.regs.specs.Change.{with_af}
use Rattle.regs.specs.Select.{byte_of, put_byte, a_of, f_of, with_f}
use Rattle.plan.specs.declared.kinds.Ins.{Ins}
use Rattle.plan.specs.declared.kinds.Spot.{Spot}
use Rattle.plan.specs.declared.kinds.Done.{Done}
use Rattle.plan.specs.Kinds.{quiet, stores, byte, bits53, bits20}
use Rattle.plan.specs.Results.{into_r, into_m}
use Rattle.logic.specs.Shift.{bit_test_of, res_of, set_of, rotate_of, rotate_a_of}

-- the register's byte. H and L are H and L, since no opening gives these formats the halves of IX and IY
abbrev pub held : Regs → Ins → ℕ
held r i = byte_of 0 (bits20 i) r

-- BIT b,dst, line 2165
unfoldable pub bit_r : Regs → Ins → Done
bit_r r i = quiet (with_f (bit_test_of (bits53 i) (held r i) (f_of r)) r)

unfoldable pub bit_m : Regs → Ins → ℕ → Done
bit_m r i v = quiet (with_f (bit_test_of (bits53 i) (byte v) (f_of r)) r)

-- RES b,dst, line 5867
unfoldable pub res_r : Regs → Ins → Done
res_r r i = quiet (put_byte 0 (bits20 i) (res_of (bits53 i) (held r i)) r)

unfoldable pub res_m : Regs → Ins → Spot → ℕ → Done
res_m r i s v = stores r s (res_of (bits53 i) (byte v))

-- RLC, line 6200; RRC, line 6451; RL, line 6096; RR, line 6341; SLA, line 6855; SRA, line 6906; SRL, line 6982
unfoldable pub rot_r : Regs → Ins → Done
rot_r r i = into_r r 0 (bits20 i) (rotate_of (bits53 i) (held r i) (f_of r))

unfoldable pub rot_m : Regs → Ins → Spot → ℕ → Done
rot_m r i s v = into_m r s (rotate_of (bits53 i) (byte v) (f_of r))

-- RLCA, line 6249; RRCA, line 6508; RLA, line 6153; RRA, line 6396
unfoldable pub rot_a : Regs → Ins → Done
rot_a r i = quiet (with_af (rotate_a_of (bits53 i) (a_of r) (f_of r)) r)

-- SET b,dst, line 6849
unfoldable pub set_r : Regs → Ins → Done
set_r r i = quiet (put_byte 0 (bits20 i) (set_of (bits53 i) (held r i)) r)

unfoldable pub set_m : Regs → Ins → Spot → ℕ → Done
set_m r i s v = stores r s (set_of (bits53 i) (byte v))

-- TSET dst, line 7159: among the rotates by its field, 110
unfoldable pub tset_r : Regs → Ins → Done
tset_r r i = into_r r 0 (bits20 i) (rotate_of 6 (held r i) (f_of r))

unfoldable pub tset_m : Regs → Spot → ℕ → Done
tset_m r s v = into_m r s (rotate_of 6 (byte v) (f_of r))

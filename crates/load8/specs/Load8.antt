-- The 8 bit load group (Table 5-2, line 1301). No flag changes. `r` the registers, PC past the instruction; `s` the
-- operand's place, `v` what was read there.
use Rattle.std.specs.Prelude.{ℕ, ◌+◌, ◌*◌}
use Rattle.regs.specs.declared.Regs.{Regs}
use Rattle.regs.specs.Change.{with_hl}
use Rattle.regs.specs.Select.{high, low, byte_of, put_byte, a_of, put_a}
use Rattle.plan.specs.declared.kinds.Ins.{Ins}
use Rattle.plan.specs.declared.kinds.Spot.{Spot}
use Rattle.plan.specs.declared.kinds.Done.{Done}
use Rattle.plan.specs.Kinds.{quiet, stores, byte, bits53, bits20, immediate_of}

-- EX A,R and A,RX, line 3220: the register is bits 5 to 3
unfoldable pub ex_a_r : Regs → Ins → Done
ex_a_r r i =
    quiet (put_a (byte_of i.opening (bits53 i) r) (put_byte i.opening (bits53 i) (a_of r) r))

-- EX A,src with a memory source, line 3220
unfoldable pub ex_a_m : Regs → Spot → ℕ → Done
ex_a_m r s v = stores (put_a (byte v) r) s (a_of r)

-- EX H,L, line 3170
unfoldable pub ex_h_l : Regs → Done
ex_h_l r = quiet (with_hl (low r.hl * 256 + high r.hl) r)

-- LD A,src, line 4054
unfoldable pub ld_a_m : Regs → ℕ → Done
ld_a_m r v = quiet (put_a (byte v) r)

-- LD dst,A, line 4054
unfoldable pub ld_m_a : Regs → Spot → Done
ld_m_a r s = stores r s (a_of r)

-- LD R,n and RX,n, line 4191: the register is bits 5 to 3
unfoldable pub ld_r_n : Regs → Ins → Done
ld_r_n r i = quiet (put_byte i.opening (bits53 i) (byte i.arg) r)

-- LD dst,n, line 4191
unfoldable pub ld_m_n : Regs → Ins → Spot → Done
ld_m_n r i s = stores r s (byte (immediate_of i))

-- LD R,R with RX, line 4226: bits 5 to 3 from bits 2 to 0
unfoldable pub ld_r_r : Regs → Ins → Done
ld_r_r r i = quiet (put_byte i.opening (bits53 i) (byte_of i.opening (bits20 i) r) r)

-- LD R,(HL) and R,(XY+d), line 4232: H and L are H and L under every opening, so they are selected as under none
unfoldable pub ld_r_m : Regs → Ins → ℕ → Done
ld_r_m r i v = quiet (put_byte 0 (bits53 i) (byte v) r)

-- LD (HL),R and (XY+d),R, line 4239: the same
unfoldable pub ld_m_r : Regs → Ins → Spot → Done
ld_m_r r i s = stores r s (byte_of 0 (bits20 i) r)

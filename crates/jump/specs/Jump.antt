-- Program control (Table 5-8) and NOP: what the registers become and what is pushed. Lines are those of section 5.6's pages.
-- PC is past the instruction already, so going on to the next one changes nothing.
use Rattle.std.specs.Prelude.{ℕ, ◌+◌, ◌*◌, ◌/◌, ◌%◌, Bool, not, cond, eqb}
use Rattle.regs.specs.declared.Regs.{Regs}
use Rattle.regs.specs.Change.{with_bc, with_pc}
use Rattle.regs.specs.Select.{high, put_high, f_of, with_f, index_of, condition_of}
use Rattle.logic.specs.Logic as logic
use Rattle.products.specs.Products.{displaced}
use Rattle.plan.specs.declared.kinds.Ins.{Ins}
use Rattle.plan.specs.declared.kinds.Spot.{Spot}
use Rattle.plan.specs.declared.kinds.Done.{Done}
use Rattle.plan.specs.Kinds.{quiet, byte, word, bits53}
use Rattle.plan.specs.Places.{met}
use Rattle.plan.specs.Stack.{pushed, popped}

-- relative: a signed byte, from the address of the instruction that follows (line 3060)
abbrev pub relative : Ins → ℕ
relative i = displaced i.next (byte i.arg)

-- If the condition is satisfied then PC ← dst
unfoldable pub jumping : Regs → Bool → ℕ → Done
jumping r t a = cond t (quiet (with_pc a r)) (quiet r)

-- SP ← SP - 2, (SP) ← PC, PC ← dst; the PC pushed is the address of the instruction that follows
unfoldable pub calling : Regs → Bool → Ins → ℕ → Done
calling r u i a = pushed (with_pc a r) u i.next

-- PC ← (SP), SP ← SP + 2
unfoldable pub popping : Regs → Bool → ℕ → Done
popping r u v = quiet (popped (with_pc (word v) r) u)

-- CALL dst, line 2212; the place is the new PC, with (HL) HL itself (line 1472)
unfoldable pub call_of : Regs → Bool → Ins → Spot → Done
call_of r u i s = calling r u i s.a

-- CALL cc,dst, line 2212
unfoldable pub call_cc : Regs → Bool → Ins → Spot → Done
call_cc r u i s = cond (met r i) (calling r u i s.a) (quiet r)

-- CCF, line 2275
unfoldable pub ccf_of : Regs → Done
ccf_of r = quiet (with_f (logic.ccf_of (f_of r)) r)

-- B - 1
abbrev pub counted : Regs → ℕ
counted r = (high r.bc + 255) % 256

-- DJNZ dst, line 3048: B ← B - 1; if B ≠ 0 then PC ← dst
unfoldable pub djnz_of : Regs → Ins → Done
djnz_of r i = jumping (with_bc (put_high (counted r) r.bc) r) (not (eqb (counted r) 0)) (relative i)

-- JAF dst, line 3934: if the auxiliary AF is in use
unfoldable pub jaf_of : Regs → Ins → Done
jaf_of r i = jumping r r.bankaf (relative i)

-- JAR dst, line 3940: if the auxiliary register file is in use
unfoldable pub jar_of : Regs → Ins → Done
jar_of r i = jumping r r.bankx (relative i)

-- JP dst, line 3944
unfoldable pub jp_of : Regs → Spot → Done
jp_of r s = quiet (with_pc s.a r)

-- JP cc,dst, line 3944
unfoldable pub jp_cc : Regs → Ins → Spot → Done
jp_cc r i s = jumping r (met r i) s.a

-- JP (HL), JP (XY), line 3968: the register itself is the address
unfoldable pub jp_xx : Regs → Ins → Done
jp_xx r i = quiet (with_pc (index_of i.opening r) r)

-- JR dst, line 3997
unfoldable pub jr_of : Regs → Ins → Done
jr_of r i = quiet (with_pc (relative i) r)

-- JR cc,dst, line 3997: bits 5 to 3 are 100 for NZ, 101 for Z, 110 for NC, 111 for C
unfoldable pub jr_cc : Regs → Ins → Done
jr_cc r i = jumping r (condition_of (i.code / 8 % 4) r) (relative i)

-- RET, line 5881
unfoldable pub ret_of : Regs → Bool → ℕ → Done
ret_of r u v = popping r u v

-- RET cc, line 5881
unfoldable pub ret_cc : Regs → Bool → Ins → ℕ → Done
ret_cc r u i v = cond (met r i) (popping r u v) (quiet r)

-- RST address, line 6617: eight times bits 5 to 3
unfoldable pub rst_of : Regs → Bool → Ins → Done
rst_of r u i = calling r u i (bits53 i * 8)

-- SCF, line 6839
unfoldable pub scf_of : Regs → Done
scf_of r = quiet (with_f (logic.scf_of (f_of r)) r)

-- NOP, line 5312
unfoldable pub nop_of : Regs → Done
nop_of r = quiet r

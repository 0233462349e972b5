-- The 8 bit arithmetic and logic instructions, from the registers, whose PC is past the instruction already, to what each ends with.
-- Lines are those of section 5.6's pages. The accumulator is the destination, unless the page names another.
use Rattle.std.specs.Prelude.{ℕ, ◌%◌, cond, eqb}
use Rattle.regs.specs.declared.Regs.{Regs}
use Rattle.regs.specs.Change.{with_af, with_hl}
use Rattle.regs.specs.Select.{byte_of, a_of, f_of}
use Rattle.plan.specs.declared.kinds.Ins.{Ins}
use Rattle.plan.specs.declared.kinds.Spot.{Spot}
use Rattle.plan.specs.declared.kinds.Done.{Done}
use Rattle.plan.specs.Kinds.{quiet, byte, bits53, bits20}
use Rattle.plan.specs.Results.{into_r, into_m, into_hl}
use Rattle.sums.specs.Width.{extended}
use Rattle.sums.specs.Sums.{inc_of, dec_of, neg_of}
use Rattle.logic.specs.Logic.{alu_of, cpl_of}
use Rattle.products.specs.Products.{mult_of, multu_of}

-- ADD, line 1891; ADC, line 1691; SUB, line 7031; SBC, line 6641; AND, line 2096; XOR, line 7219; OR, line 5324; CP, line 2286:
-- bits 5 to 3 of the operation code in that order; b is the source
unfoldable pub alu_on : Regs → Ins → ℕ → Done
alu_on r i b = quiet (with_af (alu_of (bits53 i) (a_of r) b (f_of r)) r)

-- with a register, bits 2 to 0; an immediate; a byte of memory
unfoldable pub alu_r : Regs → Ins → Done
alu_r r i = alu_on r i (byte_of i.opening (bits20 i) r)

unfoldable pub alu_n : Regs → Ins → Done
alu_n r i = alu_on r i (byte i.arg)

unfoldable pub alu_m : Regs → Ins → ℕ → Done
alu_m r i v = alu_on r i (byte v)

-- CPL, line 2585
unfoldable pub cpl_a : Regs → Done
cpl_a r = quiet (with_af (cpl_of (a_of r) (f_of r)) r)

-- the register of bits 5 to 3
unfoldable pub field_of : Regs → Ins → ℕ
field_of r i = byte_of i.opening (bits53 i) r

-- DEC, line 2729
unfoldable pub dec_r : Regs → Ins → Done
dec_r r i = into_r r i.opening (bits53 i) (dec_of (field_of r i) (f_of r))

unfoldable pub dec_m : Regs → Spot → ℕ → Done
dec_m r s v = into_m r s (dec_of (byte v) (f_of r))

-- EXTS A, line 3275: into HL, no flags
unfoldable pub exts_a : Regs → Done
exts_a r = quiet (with_hl (extended 8 (a_of r)) r)

-- INC, line 3521
unfoldable pub inc_r : Regs → Ins → Done
inc_r r i = into_r r i.opening (bits53 i) (inc_of (field_of r i) (f_of r))

unfoldable pub inc_m : Regs → Spot → ℕ → Done
inc_m r s v = into_m r s (inc_of (byte v) (f_of r))

-- MULT, line 5052; MULTU, line 5114, where bit 0 is set: into HL; b is the source
unfoldable pub mult_on : Regs → Ins → ℕ → Done
mult_on r i b = into_hl r (cond (eqb (i.code % 2) 1) (multu_of 8 (a_of r) b (f_of r)) (mult_of 8 (a_of r) b (f_of r)))

-- with the register of bits 5 to 3; an immediate; a byte of memory
unfoldable pub mult_r : Regs → Ins → Done
mult_r r i = mult_on r i (field_of r i)

unfoldable pub mult_n : Regs → Ins → Done
mult_n r i = mult_on r i (byte i.arg)

unfoldable pub mult_m : Regs → Ins → ℕ → Done
mult_m r i v = mult_on r i (byte v)

-- NEG A, line 5294
unfoldable pub neg_a : Regs → Done
neg_a r = quiet (with_af (neg_of (a_of r) (f_of r)) r)

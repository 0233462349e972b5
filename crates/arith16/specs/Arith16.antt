-- The 16 bit arithmetic instructions, from the registers, whose PC is past the instruction already, to what each ends with.
-- Lines are those of section 5.6's pages. XX is HL, IX or IY by the opening.
use Rattle.std.specs.Prelude.{ℕ, ◌/◌, ◌%◌, Bool, cond, eqb}
use Rattle.regs.specs.declared.Regs.{Regs}
use Rattle.regs.specs.Change.{with_de, with_hl}
use Rattle.regs.specs.Select.{index_of, put_index, pair_of, put_pair, a_of, f_of, with_f}
use Rattle.plan.specs.declared.kinds.Ins.{Ins}
use Rattle.plan.specs.declared.kinds.Spot.{Spot}
use Rattle.plan.specs.declared.kinds.Done.{Done}
use Rattle.plan.specs.Kinds.{quiet, stores_word, word, bits54}
use Rattle.plan.specs.Results.{into_hl}
use Rattle.sums.specs.declared.WithF.{WithF}
use Rattle.sums.specs.Width.{add_value, sub_value, extended}
use Rattle.sums.specs.Sums.{adcw_of, add_hl_of, add_a_of, addw_of, subw_of, cpw_of, negw_of, sbcw_of}
use Rattle.products.specs.Products.{mult_of, multu_of}

-- the register pair of bits 5 and 4: BC, DE, XX, SP
unfoldable pub field_of : Regs → Bool → Ins → ℕ
field_of r u i = pair_of u i.opening (bits54 i) r

-- the register XX, and a result and its F put there
abbrev pub xx_of : Regs → Ins → ℕ
xx_of r i = index_of i.opening r

unfoldable pub put_xx : Regs → Ins → WithF ℕ → Done
put_xx r i x = quiet (put_index i.opening x.value (with_f x.f r))

-- ADC of words, line 1759
unfoldable pub adc_xx_rr : Regs → Bool → Ins → Done
adc_xx_rr r u i = put_xx r i (adcw_of (xx_of r i) (field_of r u i) (f_of r))

-- ADD XX,RR, line 1962
unfoldable pub add_xx_rr : Regs → Bool → Ins → Done
add_xx_rr r u i = put_xx r i (add_hl_of (xx_of r i) (field_of r u i) (f_of r))

-- ADD XX,A, line 1830
unfoldable pub add_xx_a : Regs → Ins → Done
add_xx_a r i = put_xx r i (add_a_of (xx_of r i) (a_of r) (f_of r))

-- CPW, line 2596, where bit 0 of the operation code is set: a stays; SUBW, line 7097, where bit 3 is set; else ADDW, line 2037
unfoldable pub aluw_by : (code a b f : ℕ) → WithF ℕ
aluw_by code a b f =
    cond (eqb (code % 2) 1) (record { value = a; f = cpw_of a b f })
    (cond (eqb (code / 8 % 2) 1) (subw_of a b f) (addw_of a b f))

-- into HL; b is the source
unfoldable pub aluw_on : Regs → Ins → ℕ → Done
aluw_on r i b = into_hl r (aluw_by i.code r.hl b (f_of r))

-- with a register pair; an immediate; a word of memory
unfoldable pub aluw_rr : Regs → Bool → Ins → Done
aluw_rr r u i = aluw_on r i (field_of r u i)

unfoldable pub aluw_nn : Regs → Ins → Done
aluw_nn r i = aluw_on r i (word i.arg)

unfoldable pub aluw_m : Regs → Ins → ℕ → Done
aluw_m r i v = aluw_on r i (word v)

-- DECW, line 2752: no flags
unfoldable pub decw_rr : Regs → Bool → Ins → Done
decw_rr r u i = quiet (put_pair u i.opening (bits54 i) (sub_value 16 (field_of r u i) 1 0) r)

unfoldable pub decw_m : Regs → Spot → ℕ → Done
decw_m r s v = stores_word r s (sub_value 16 (word v) 1 0)

-- 32 bits: DE the high half, HL the low
abbrev pub with_long : ℕ → Regs → Regs
with_long x r = with_hl (x % 65536) (with_de (x / 65536) r)

-- EXTS HL, line 3314: into DE and HL, no flags
unfoldable pub exts_hl : Regs → Done
exts_hl r = quiet (with_long (extended 16 r.hl) r)

-- INCW, line 3588: no flags
unfoldable pub incw_rr : Regs → Bool → Ins → Done
incw_rr r u i = quiet (put_pair u i.opening (bits54 i) (add_value 16 (field_of r u i) 1 0) r)

unfoldable pub incw_m : Regs → Spot → ℕ → Done
incw_m r s v = stores_word r s (add_value 16 (word v) 1 0)

-- MULTW, line 5235; MULTUW, line 5176, where bit 0 is set: into DE and HL; b is the source
unfoldable pub put_product : Regs → WithF ℕ → Done
put_product r x = quiet (with_long x.value (with_f x.f r))

unfoldable pub multw_on : Regs → Ins → ℕ → Done
multw_on r i b = put_product r (cond (eqb (i.code % 2) 1) (multu_of 16 r.hl b (f_of r)) (mult_of 16 r.hl b (f_of r)))

-- with a register pair; an immediate; a word of memory
unfoldable pub multw_rr : Regs → Bool → Ins → Done
multw_rr r u i = multw_on r i (field_of r u i)

unfoldable pub multw_nn : Regs → Ins → Done
multw_nn r i = multw_on r i (word i.arg)

unfoldable pub multw_m : Regs → Ins → ℕ → Done
multw_m r i v = multw_on r i (word v)

-- NEG HL, line 5307
unfoldable pub neg_hl : Regs → Done
neg_hl r = into_hl r (negw_of r.hl (f_of r))

-- SBC of words, line 6711
unfoldable pub sbc_xx_rr : Regs → Bool → Ins → Done
sbc_xx_rr r u i = put_xx r i (sbcw_of (xx_of r i) (field_of r u i) (f_of r))

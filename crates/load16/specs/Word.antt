-- Loads of words. No flag changes. `r` the registers, PC past the instruction; `u` user mode, whose stack pointer SP is; `s` the
-- operand's place, `v` the word read there.
use Rattle.std.specs.Prelude.{ℕ, Bool}
use Rattle.regs.specs.declared.Regs.{Regs}
use Rattle.regs.specs.Select.{index_of, put_index, put_sp, pair_of, put_pair}
use Rattle.plan.specs.declared.kinds.Ins.{Ins}
use Rattle.plan.specs.declared.kinds.Spot.{Spot}
use Rattle.plan.specs.declared.kinds.Done.{Done}
use Rattle.plan.specs.Kinds.{quiet, stores_word, word, bits54, immediate_of}

-- LD HL,src and XY,src, line 4840
unfoldable pub ld_xx_m : Regs → Ins → ℕ → Done
ld_xx_m r i v = quiet (put_index i.opening (word v) r)

-- LD dst,HL and dst,XY, line 4840
unfoldable pub ld_m_xx : Regs → Ins → Spot → Done
ld_m_xx r i s = stores_word r s (index_of i.opening r)

-- LD RR,nn and XY,nn, lines 4775, 4928, 4990, and LDA of a direct address, line 4289: the pair is bits 5 and 4
unfoldable pub ld_rr_nn : Regs → Bool → Ins → Done
ld_rr_nn r u i = quiet (put_pair u i.opening (bits54 i) (word i.arg) r)

-- LD RR,src, lines 4928, 4990: BC DE HL SP; HL is HL under every opening, so it is selected as under none
unfoldable pub ld_rr_m : Regs → Bool → Ins → ℕ → Done
ld_rr_m r u i v = quiet (put_pair u 0 (bits54 i) (word v) r)

-- LD dst,RR, lines 4928, 4990: the same
unfoldable pub ld_m_rr : Regs → Bool → Ins → Spot → Done
ld_m_rr r u i s = stores_word r s (pair_of u 0 (bits54 i) r)

-- LDW dst,nn, line 4775
unfoldable pub ldw_m_nn : Regs → Ins → Spot → Done
ldw_m_nn r i s = stores_word r s (word (immediate_of i))

-- LD SP,HL and SP,XY, line 4990
unfoldable pub ld_sp_xx : Regs → Bool → Ins → Done
ld_sp_xx r u i = quiet (put_sp u (index_of i.opening r) r)

-- LDA HL,src and XY,src, line 4289: the logical address itself; memory is not touched
unfoldable pub lda_of : Regs → Ins → Spot → Done
lda_of r i s = quiet (put_index i.opening s.a r)

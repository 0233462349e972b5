-- What each operation does, by its number from 24 on (decode: Op), in the manual's group order. Those below 24 end in an event or govern.
use Rattle.std.specs.Prelude.{ℕ, ◌-◌, Bool, cond, List, [], ◌∷◌, ltb, get_or}
use Rattle.regs.specs.declared.Regs.{Regs}
use Rattle.plan.specs.declared.kinds.Ins.{Ins}
use Rattle.plan.specs.declared.kinds.Spot.{Spot}
use Rattle.plan.specs.declared.kinds.Done.{Done}
use Rattle.plan.specs.Kinds.{quiet}
use Rattle.load8.specs.Load8.{ex_a_r, ex_a_m, ex_h_l, ld_a_m, ld_m_a, ld_r_n, ld_m_n, ld_r_r, ld_r_m, ld_m_r}
use Rattle.load16.specs.Exchange.{ex_de_hl, ex_xy_hl, ex_sp, ex_af, exx_of}
use Rattle.load16.specs.Word.{ld_xx_m, ld_m_xx, ld_rr_nn, ld_rr_m, ld_m_rr, ldw_m_nn, ld_sp_xx, lda_of}
use Rattle.load16.specs.Stack.{pop_rr, pop_m, push_rr, push_nn, push_m}
use Rattle.block.specs.Block.{cpd, cpdr, cpi, cpir, ldd, lddr, ldi, ldir}
use Rattle.arith8.specs.Arith8.{alu_r, alu_n, alu_m, cpl_a, dec_r, dec_m, exts_a, inc_r, inc_m, mult_r, mult_n, mult_m, neg_a}
use Rattle.arith16.specs.Arith16.{adc_xx_rr, add_xx_rr, add_xx_a, aluw_rr, aluw_nn, aluw_m, decw_rr, decw_m, exts_hl, incw_rr, incw_m, multw_rr, multw_nn, multw_m, neg_hl, sbc_xx_rr}
use Rattle.bits.specs.Bits.{bit_r, bit_m, res_r, res_m, rot_r, rot_m, rot_a, set_r, set_m, tset_r, tset_m}
use Rattle.jump.specs.Jump.{call_of, call_cc, ccf_of, djnz_of, jaf_of, jar_of, jp_of, jp_cc, jp_xx, jr_of, jr_cc, ret_of, ret_cc, rst_of, scf_of, nop_of}

abbrev pub members : Regs → (user : Bool) → Ins → Spot → ℕ → List Done
members r u i s v =
    ex_a_r r i ∷
    ex_a_m r s v ∷
    ex_h_l r ∷
    ld_a_m r v ∷
    ld_m_a r s ∷
    ld_r_n r i ∷
    ld_m_n r i s ∷
    ld_r_r r i ∷
    ld_r_m r i v ∷
    ld_m_r r i s ∷
    ex_de_hl r ∷
    ex_xy_hl r i ∷
    ex_sp r i s v ∷
    ex_af r ∷
    exx_of r ∷
    ld_xx_m r i v ∷
    ld_m_xx r i s ∷
    ld_rr_nn r u i ∷
    ld_rr_m r u i v ∷
    ld_m_rr r u i s ∷
    ldw_m_nn r i s ∷
    ld_sp_xx r u i ∷
    lda_of r i s ∷
    pop_rr r u i v ∷
    pop_m r u i v ∷
    push_rr r u i ∷
    push_nn r u i ∷
    push_m r u v ∷
    cpd r v ∷
    cpdr r i v ∷
    cpi r v ∷
    cpir r i v ∷
    ldd r v ∷
    lddr r i v ∷
    ldi r v ∷
    ldir r i v ∷
    alu_r r i ∷
    alu_n r i ∷
    alu_m r i v ∷
    cpl_a r ∷
    dec_r r i ∷
    dec_m r s v ∷
    exts_a r ∷
    inc_r r i ∷
    inc_m r s v ∷
    mult_r r i ∷
    mult_n r i ∷
    mult_m r i v ∷
    neg_a r ∷
    adc_xx_rr r u i ∷
    add_xx_rr r u i ∷
    add_xx_a r i ∷
    aluw_rr r u i ∷
    aluw_nn r i ∷
    aluw_m r i v ∷
    decw_rr r u i ∷
    decw_m r s v ∷
    exts_hl r ∷
    incw_rr r u i ∷
    incw_m r s v ∷
    multw_rr r u i ∷
    multw_nn r i ∷
    multw_m r i v ∷
    neg_hl r ∷
    sbc_xx_rr r u i ∷
    bit_r r i ∷
    bit_m r i v ∷
    res_r r i ∷
    res_m r i s v ∷
    rot_r r i ∷
    rot_m r i s v ∷
    rot_a r i ∷
    set_r r i ∷
    set_m r i s v ∷
    tset_r r i ∷
    tset_m r s v ∷
    call_of r u i s ∷
    call_cc r u i s ∷
    ccf_of r ∷
    djnz_of r i ∷
    jaf_of r i ∷
    jar_of r i ∷
    jp_of r s ∷
    jp_cc r i s ∷
    jp_xx r i ∷
    jr_of r i ∷
    jr_cc r i ∷
    ret_of r u v ∷
    ret_cc r u i v ∷
    rst_of r u i ∷
    scf_of r ∷
    nop_of r ∷
    []

unfoldable pub execute_by : ℕ → Regs → (user : Bool) → Ins → Spot → ℕ → Done
execute_by k r u i s v = get_or (members r u i s v) k (quiet r)

unfoldable pub execute_of : Regs → (user : Bool) → Ins → Spot → ℕ → Done
execute_of r u i s v = cond (ltb i.op 24) (quiet r) (execute_by (i.op - 24) r u i s v)

-- The operation codes after ED: pattern, operation, mode, bytes read there, bytes that follow. The first that fits counts.
use Rattle.std.specs.Prelude.{List, [], ◌∷◌}
use Rattle.decode.specs.Format.{Format, format}
use Rattle.decode.specs.Op.{left_out, extended, sc, in_c, out_c, in_block, out_block, di_n, ei_n, ldctl_xx_c, ldctl_c_xx, ldctl_usp, retil, ex_a_r, ex_a_m, ex_h_l, ld_m_a, ld_xx_m, ld_m_xx, ld_rr_m, ld_m_rr, lda, cpd, cpdr, cpi, cpir, ldd, lddr, ldi, ldir, exts_a, mult_r, mult_m, neg_a, adc_xx_rr, add_xx_a, aluw_rr, exts_hl, multw_rr, neg_hl, sbc_xx_rr}
use Rattle.decode.specs.Mode.{no, ir, da, x_ix, x_iy, x_hl, ra, sr, bx_hl_ix, bx_hl_iy, bx_ix_iy, at_sp}

unfoldable pub formats_ed : List Format
formats_ed =
    -- 8 bit load
    format "00110111" ex_a_m ir 1 0 ∷  -- EX A,(HL), 3241
    format "00rrr111" ex_a_r no 0 0 ∷  -- EX A,R, 3239
    format "11101111" ex_h_l no 0 0 ∷  -- EX H,L, 3170
    format "00000011" ld_m_a sr 0 2 ∷  -- LD (SP+dd),A, 4104
    format "00001011" ld_m_a bx_hl_ix 0 0 ∷  -- LD (HL+IX),A, 4105
    format "00010011" ld_m_a bx_hl_iy 0 0 ∷  -- LD (HL+IY),A, 4105
    format "00011011" ld_m_a bx_ix_iy 0 0 ∷  -- LD (IX+IY),A, 4105
    format "00100011" ld_m_a ra 0 2 ∷  -- LD <addr>,A, 4103
    format "00101011" ld_m_a x_ix 0 2 ∷  -- LD (IX+dd),A, 4101
    format "00110011" ld_m_a x_iy 0 2 ∷  -- LD (IY+dd),A, 4101
    format "00111011" ld_m_a x_hl 0 2 ∷  -- LD (HL+dd),A, 4101
    -- 16 bit load and exchange
    format "00000100" ld_xx_m sr 2 2 ∷  -- LD HL,(SP+dd), 4877
    format "00001100" ld_xx_m bx_hl_ix 2 0 ∷  -- LD HL,(HL+IX), 4879
    format "00010100" ld_xx_m bx_hl_iy 2 0 ∷  -- LD HL,(HL+IY), 4879
    format "00011100" ld_xx_m bx_ix_iy 2 0 ∷  -- LD HL,(IX+IY), 4879
    format "00100100" ld_xx_m ra 2 2 ∷  -- LD HL,<addr>, 4875
    format "00101100" ld_xx_m x_ix 2 2 ∷  -- LD HL,(IX+dd), 4873
    format "00110100" ld_xx_m x_iy 2 2 ∷  -- LD HL,(IY+dd), 4873
    format "00111100" ld_xx_m x_hl 2 2 ∷  -- LD HL,(HL+dd), 4873
    format "00000101" ld_m_xx sr 0 2 ∷  -- LD (SP+dd),HL, 4891
    format "00001101" ld_m_xx bx_hl_ix 0 0 ∷  -- LD (HL+IX),HL, 4893
    format "00010101" ld_m_xx bx_hl_iy 0 0 ∷  -- LD (HL+IY),HL, 4893
    format "00011101" ld_m_xx bx_ix_iy 0 0 ∷  -- LD (IX+IY),HL, 4893
    format "00100101" ld_m_xx ra 0 2 ∷  -- LD <addr>,HL, 4889
    format "00101101" ld_m_xx x_ix 0 2 ∷  -- LD (IX+dd),HL, 4887
    format "00110101" ld_m_xx x_iy 0 2 ∷  -- LD (IY+dd),HL, 4887
    format "00111101" ld_m_xx x_hl 0 2 ∷  -- LD (HL+dd),HL, 4887
    format "00rr0110" ld_rr_m ir 2 0 ∷  -- LD RR,(HL), 4956 and 5026
    format "010r1011" ld_rr_m da 2 2 ∷  -- LD BC,(addr) and LD DE,(addr); except HL, 4957
    format "01111011" ld_rr_m da 2 2 ∷  -- LD SP,(addr), 4957 and 5027
    format "00rr1110" ld_m_rr ir 0 0 ∷  -- LD (HL),RR, 4962 and 5032
    format "010r0011" ld_m_rr da 0 2 ∷  -- LD (addr),BC and LD (addr),DE; except HL, 4963
    format "01110011" ld_m_rr da 0 2 ∷  -- LD (addr),SP, 4963 and 5033
    format "00000010" lda sr 0 2 ∷  -- LDA HL,(SP+dd), 4316
    format "00001010" lda bx_hl_ix 0 0 ∷  -- LDA HL,(HL+IX), 4318
    format "00010010" lda bx_hl_iy 0 0 ∷  -- LDA HL,(HL+IY), 4318
    format "00011010" lda bx_ix_iy 0 0 ∷  -- LDA HL,(IX+IY), 4318
    format "00100010" lda ra 0 2 ∷  -- LDA HL,<addr>, 4314
    format "00101010" lda x_ix 0 2 ∷  -- LDA HL,(IX+dd), 4312
    format "00110010" lda x_iy 0 2 ∷  -- LDA HL,(IY+dd), 4312
    format "00111010" lda x_hl 0 2 ∷  -- LDA HL,(HL+dd), 4312
    -- Block
    format "10101001" cpd ir 1 0 ∷  -- CPD, 2380
    format "10111001" cpdr ir 1 0 ∷  -- CPDR, 2436
    format "10100001" cpi ir 1 0 ∷  -- CPI, 2499
    format "10110001" cpir ir 1 0 ∷  -- CPIR, 2551
    format "10101000" ldd ir 1 0 ∷  -- LDD, 4429
    format "10111000" lddr ir 1 0 ∷  -- LDDR, 4493
    format "10100000" ldi ir 1 0 ∷  -- LDI, 4558
    format "10110000" ldir ir 1 0 ∷  -- LDIR, 4614
    -- 8 bit arithmetic and logic; u: 0 MULT, 1 MULTU
    format "01100100" exts_a no 0 0 ∷  -- EXTS A, 3301
    format "1111000u" mult_m ir 1 0 ∷  -- MULT A,(HL), 5082; MULTU, 5144
    format "11rrr00u" mult_r no 0 0 ∷  -- MULT A,R, 5079; MULTU, 5141
    format "01000100" neg_a no 0 0 ∷  -- NEG A, 5300
    -- 16 bit arithmetic; u: 0 MULTW, 1 MULTUW
    format "01rr1010" adc_xx_rr no 0 0 ∷  -- ADC HL,RR, 1806
    format "01101101" add_xx_a no 0 0 ∷  -- ADD HL,A, 1860
    format "11rr0110" aluw_rr no 0 0 ∷  -- ADDW HL,RR, 2065
    format "11rr0111" aluw_rr no 0 0 ∷  -- CPW HL,RR, 2625
    format "01101100" exts_hl no 0 0 ∷  -- EXTS HL, 3341
    format "11rr001u" multw_rr no 0 0 ∷  -- MULTW HL,RR, 5264; MULTUW, 5203
    format "01001100" neg_hl no 0 0 ∷  -- NEG HL, 5307
    format "01rr0010" sbc_xx_rr no 0 0 ∷  -- SBC HL,RR, 6754
    format "11rr1110" aluw_rr no 0 0 ∷  -- SUBW HL,RR, 7126
    -- Program control
    format "01110001" sc no 0 2 ∷  -- SC nn, 6797
    -- Control
    format "01110111" di_n no 0 1 ∷  -- DI mask, 2775
    format "01111111" ei_n no 0 1 ∷  -- EI mask, 3098
    format "01100110" ldctl_xx_c no 0 0 ∷  -- LDCTL HL,(C), 4380
    format "01101110" ldctl_c_xx no 0 0 ∷  -- LDCTL (C),HL, 4382
    format "10000111" ldctl_usp no 0 0 ∷  -- LDCTL HL,USP, 4384
    format "10001111" ldctl_usp no 0 0 ∷  -- LDCTL USP,HL, 4386
    format "01010101" retil at_sp 4 0 ∷  -- RETIL, 6003
    -- Ports; r repeats, d goes down
    format "01110000" in_c no 0 0 ∷  -- TSTI (C), 7215
    format "01rrr000" in_c no 0 0 ∷  -- IN R,(C), 3466
    format "10110111" in_c no 0 0 ∷  -- INW HL,(C), 3908
    format "101rd010" in_block ir 0 0 ∷  -- INI, IND, INIR, INDR, 3792, 3669, 3856, 3731
    format "100rd010" in_block ir 0 0 ∷  -- INIW, INDW, INIRW, INDRW, 3793, 3670, 3857, 3732
    format "01rrr001" out_c no 0 0 ∷  -- OUT (C),R, 5539
    format "10111111" out_c no 0 0 ∷  -- OUTW (C),HL, 5731
    format "101rd011" out_block ir 1 0 ∷  -- OUTI, OUTD, OTIR, OTDR, 5681, 5621, 5484, 5424
    format "100rd011" out_block ir 2 0 ∷  -- OUTIW, OUTDW, OTIRW, OTDRW, 5682, 5622, 5485, 5425
    -- Left out
    format "11rrr10u" left_out no 0 0 ∷  -- DIV HL,R and HL,(HL), 2815, 2824; DIVU, 2883, 2892
    format "11rr101u" left_out no 0 0 ∷  -- DIVW DEHL,RR, 3018; DIVUW, 2951
    format "010pp110" left_out no 0 0 ∷  -- IM p, 3412
    format "0101w111" left_out no 0 0 ∷  -- LD A,I and LD A,R, 4172
    format "0100w111" left_out no 0 0 ∷  -- LD I,A and LD R,A, 4281
    format "1000w110" left_out no 0 0 ∷  -- LDUD A,(HL) and (HL),A, 4682, 4687
    format "1001w110" left_out no 0 0 ∷  -- LDUP A,(HL) and (HL),A, 4755, 4761
    format "01100101" left_out no 0 0 ∷  -- PCACHE, 5758
    format "01001101" left_out no 0 0 ∷  -- RETI, 5946
    format "01000101" left_out no 0 0 ∷  -- RETN, 6070
    format "01101111" left_out no 0 0 ∷  -- RLD, 6318
    format "01100111" left_out no 0 0 ∷  -- RRD, 6593
    -- Extended; mmm: (SP+dd), the three BX, <addr>, the three X
    format "10011111" extended no 0 0 ∷  -- EPUI, 7309
    format "10010111" extended no 0 0 ∷  -- EPUF, 7358
    format "10100110" extended no 0 0 ∷  -- EPUM (HL), 7393
    format "10100111" extended no 0 0 ∷  -- EPUM (addr), 7395
    format "10mmm100" extended no 0 0 ∷  -- EPUM, 7397, 7399, 7401, 7403
    format "10101110" extended no 0 0 ∷  -- MEPU (HL), 7442
    format "10101111" extended no 0 0 ∷  -- MEPU (addr), 7443
    format "10mmm101" extended no 0 0 ∷  -- MEPU, 7444, 7445, 7446, 7447
    []

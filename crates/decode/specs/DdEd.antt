-- The operation codes after DD ED: pattern, operation, mode, bytes read there, bytes that follow. The first that fits counts.
use Rattle.std.specs.Prelude.{List, [], ◌∷◌}
use Rattle.decode.specs.Format.{Format, format}
use Rattle.decode.specs.Op.{left_out, in_c, out_c, ldctl_xx_c, ldctl_c_xx, ldctl_usp, ex_a_r, ex_a_m, ld_xx_m, ld_m_xx, ld_rr_m, ld_m_rr, lda, mult_r, mult_m, adc_xx_rr, add_xx_a, aluw_rr, aluw_m, multw_rr, multw_m, sbc_xx_rr}
use Rattle.decode.specs.Mode.{no, ir, da, sx, x_ix, x_iy, x_hl, ra, sr, bx_hl_ix, bx_hl_iy, bx_ix_iy}

unfoldable pub formats_dd_ed : List Format
formats_dd_ed =
    -- 8 bit load
    format "00000111" ex_a_m sr 1 2 ∷  -- EX A,(SP+dd), 3246
    format "00001111" ex_a_m bx_hl_ix 1 0 ∷  -- EX A,(HL+IX), 3247
    format "00010111" ex_a_m bx_hl_iy 1 0 ∷  -- EX A,(HL+IY), 3247
    format "00011111" ex_a_m bx_ix_iy 1 0 ∷  -- EX A,(IX+IY), 3247
    format "00111111" ex_a_m da 1 2 ∷  -- EX A,(addr), 3242
    format "0010w111" ex_a_r no 0 0 ∷  -- EX A,RX, 3240
    format "00110111" ex_a_m sx 1 1 ∷  -- EX A,(IX+d), 3244
    -- 16 bit load and exchange
    format "00000100" ld_xx_m sr 2 2 ∷  -- LD IX,(SP+dd), 4878
    format "00001100" ld_xx_m bx_hl_ix 2 0 ∷  -- LD IX,(HL+IX), 4880
    format "00010100" ld_xx_m bx_hl_iy 2 0 ∷  -- LD IX,(HL+IY), 4880
    format "00011100" ld_xx_m bx_ix_iy 2 0 ∷  -- LD IX,(IX+IY), 4880
    format "00100100" ld_xx_m ra 2 2 ∷  -- LD IX,<addr>, 4876
    format "00101100" ld_xx_m x_ix 2 2 ∷  -- LD IX,(IX+dd), 4874
    format "00110100" ld_xx_m x_iy 2 2 ∷  -- LD IX,(IY+dd), 4874
    format "00111100" ld_xx_m x_hl 2 2 ∷  -- LD IX,(HL+dd), 4874
    format "00000101" ld_m_xx sr 0 2 ∷  -- LD (SP+dd),IX, 4892
    format "00001101" ld_m_xx bx_hl_ix 0 0 ∷  -- LD (HL+IX),IX, 4894
    format "00010101" ld_m_xx bx_hl_iy 0 0 ∷  -- LD (HL+IY),IX, 4894
    format "00011101" ld_m_xx bx_ix_iy 0 0 ∷  -- LD (IX+IY),IX, 4894
    format "00100101" ld_m_xx ra 0 2 ∷  -- LD <addr>,IX, 4890
    format "00101101" ld_m_xx x_ix 0 2 ∷  -- LD (IX+dd),IX, 4888
    format "00110101" ld_m_xx x_iy 0 2 ∷  -- LD (IY+dd),IX, 4888
    format "00111101" ld_m_xx x_hl 0 2 ∷  -- LD (HL+dd),IX, 4888
    format "00rr0110" ld_rr_m sx 2 1 ∷  -- LD RR,(IX+d), 4958 and 5028
    format "00rr1110" ld_m_rr sx 0 1 ∷  -- LD (IX+d),RR, 4964 and 5034
    format "00000010" lda sr 0 2 ∷  -- LDA IX,(SP+dd), 4317
    format "00001010" lda bx_hl_ix 0 0 ∷  -- LDA IX,(HL+IX), 4319
    format "00010010" lda bx_hl_iy 0 0 ∷  -- LDA IX,(HL+IY), 4319
    format "00011010" lda bx_ix_iy 0 0 ∷  -- LDA IX,(IX+IY), 4319
    format "00100010" lda ra 0 2 ∷  -- LDA IX,<addr>, 4315
    format "00101010" lda x_ix 0 2 ∷  -- LDA IX,(IX+dd), 4313
    format "00110010" lda x_iy 0 2 ∷  -- LDA IX,(IY+dd), 4313
    format "00111010" lda x_hl 0 2 ∷  -- LDA IX,(HL+dd), 4313
    -- 8 bit arithmetic and logic; u: 0 MULT, 1 MULTU
    format "1100000u" mult_m sr 1 2 ∷  -- MULT A,(SP+dd), 5087; MULTU, 5149
    format "1100100u" mult_m bx_hl_ix 1 0 ∷  -- MULT A,(HL+IX), 5088; MULTU, 5150
    format "1101000u" mult_m bx_hl_iy 1 0 ∷  -- MULT A,(HL+IY), 5088; MULTU, 5150
    format "1101100u" mult_m bx_ix_iy 1 0 ∷  -- MULT A,(IX+IY), 5088; MULTU, 5150
    format "1111100u" mult_m da 1 2 ∷  -- MULT A,(addr), 5083; MULTU, 5145
    format "1110w00u" mult_r no 0 0 ∷  -- MULT A,RX, 5080; MULTU, 5142
    format "1111000u" mult_m sx 1 1 ∷  -- MULT A,(IX+d), 5085; MULTU, 5147
    -- 16 bit arithmetic; u: 0 MULTW, 1 MULTUW
    format "01rr1010" adc_xx_rr no 0 0 ∷  -- ADC IX,RR, 1806
    format "01101101" add_xx_a no 0 0 ∷  -- ADD IX,A, 1864
    format "11100110" aluw_rr no 0 0 ∷  -- ADDW HL,IX, 2066
    format "11100111" aluw_rr no 0 0 ∷  -- CPW HL,IX, 2626
    format "11101110" aluw_rr no 0 0 ∷  -- SUBW HL,IX, 7127
    format "11000110" aluw_m ir 2 0 ∷  -- ADDW HL,(HL), 2071
    format "11010110" aluw_m da 2 2 ∷  -- ADDW HL,(addr), 2068
    format "11110110" aluw_m ra 2 2 ∷  -- ADDW HL,<addr>, 2070
    format "11000111" aluw_m ir 2 0 ∷  -- CPW HL,(HL), 2631
    format "11010111" aluw_m da 2 2 ∷  -- CPW HL,(addr), 2628
    format "11110111" aluw_m ra 2 2 ∷  -- CPW HL,<addr>, 2630
    format "11001110" aluw_m ir 2 0 ∷  -- SUBW HL,(HL), 7132
    format "11011110" aluw_m da 2 2 ∷  -- SUBW HL,(addr), 7129
    format "11111110" aluw_m ra 2 2 ∷  -- SUBW HL,<addr>, 7131
    format "1110001u" multw_rr no 0 0 ∷  -- MULTW HL,IX, 5265; MULTUW, 5204
    format "1100001u" multw_m ir 2 0 ∷  -- MULTW HL,(HL), 5270; MULTUW, 5209
    format "1101001u" multw_m da 2 2 ∷  -- MULTW HL,(addr), 5267; MULTUW, 5206
    format "1111001u" multw_m ra 2 2 ∷  -- MULTW HL,<addr>, 5269; MULTUW, 5208
    format "01rr0010" sbc_xx_rr no 0 0 ∷  -- SBC IX,RR, 6755
    -- Control
    format "01100110" ldctl_xx_c no 0 0 ∷  -- LDCTL IX,(C), 4381
    format "01101110" ldctl_c_xx no 0 0 ∷  -- LDCTL (C),IX, 4383
    format "10000111" ldctl_usp no 0 0 ∷  -- LDCTL IX,USP, 4385
    format "10001111" ldctl_usp no 0 0 ∷  -- LDCTL USP,IX, 4387
    -- Ports
    format "01000000" in_c sr 0 2 ∷  -- IN (SP+dd),(C), 3471
    format "01001000" in_c bx_hl_ix 0 0 ∷  -- IN (HL+IX),(C), 3472
    format "01010000" in_c bx_hl_iy 0 0 ∷  -- IN (HL+IY),(C), 3472
    format "01011000" in_c bx_ix_iy 0 0 ∷  -- IN (IX+IY),(C), 3472
    format "01111000" in_c da 0 2 ∷  -- IN (addr),(C), 3468
    format "0110w000" in_c no 0 0 ∷  -- IN RX,(C), 3467
    format "01000001" out_c sr 1 2 ∷  -- OUT (C),(SP+dd), 5544
    format "01001001" out_c bx_hl_ix 1 0 ∷  -- OUT (C),(HL+IX), 5545
    format "01010001" out_c bx_hl_iy 1 0 ∷  -- OUT (C),(HL+IY), 5545
    format "01011001" out_c bx_ix_iy 1 0 ∷  -- OUT (C),(IX+IY), 5545
    format "01111001" out_c da 1 2 ∷  -- OUT (C),(addr), 5541
    format "0110w001" out_c no 0 0 ∷  -- OUT (C),RX, 5540
    -- Left out
    format "11mmm10u" left_out no 0 0 ∷  -- DIV HL,RX and memory, 2816, 2818 and 2820 to 2823; DIVU, 2884 to 2891
    format "11mm101u" left_out no 0 0 ∷  -- DIVW DEHL,IX and memory, 3019 to 3024; DIVUW, 2952 to 2957
    format "1000w110" left_out no 0 0 ∷  -- LDUD A,(IX+d) and (IX+d),A, 4683, 4688
    format "1001w110" left_out no 0 0 ∷  -- LDUP A,(IX+d) and (IX+d),A, 4756, 4762
    []

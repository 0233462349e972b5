-- The operation codes after FD ED: pattern, operation, mode, bytes read there, bytes that follow. The first that fits counts.
use Rattle.std.specs.Prelude.{List, [], ◌∷◌}
use Rattle.decode.specs.Format.{Format, format}
use Rattle.decode.specs.Op.{left_out, in_c, out_c, ldctl_xx_c, ldctl_c_xx, ldctl_usp, ex_a_r, ex_a_m, ld_xx_m, ld_m_xx, ld_rr_m, ld_m_rr, lda, mult_r, mult_n, mult_m, adc_xx_rr, add_xx_a, aluw_rr, aluw_nn, aluw_m, multw_rr, multw_nn, multw_m, sbc_xx_rr}
use Rattle.decode.specs.Mode.{no, sx, x_ix, x_iy, x_hl, ra, sr, bx_hl_ix, bx_hl_iy, bx_ix_iy}

unfoldable pub formats_fd_ed : List Format
formats_fd_ed =
    -- 8 bit load
    format "00000111" ex_a_m ra 1 2 ∷  -- EX A,<addr>, 3245
    format "00001111" ex_a_m x_ix 1 2 ∷  -- EX A,(IX+dd), 3243
    format "00010111" ex_a_m x_iy 1 2 ∷  -- EX A,(IY+dd), 3243
    format "00011111" ex_a_m x_hl 1 2 ∷  -- EX A,(HL+dd), 3243
    format "0010w111" ex_a_r no 0 0 ∷  -- EX A,RX, 3240
    format "00110111" ex_a_m sx 1 1 ∷  -- EX A,(IY+d), 3244
    -- 16 bit load and exchange
    format "00000100" ld_xx_m sr 2 2 ∷  -- LD IY,(SP+dd), 4878
    format "00001100" ld_xx_m bx_hl_ix 2 0 ∷  -- LD IY,(HL+IX), 4880
    format "00010100" ld_xx_m bx_hl_iy 2 0 ∷  -- LD IY,(HL+IY), 4880
    format "00011100" ld_xx_m bx_ix_iy 2 0 ∷  -- LD IY,(IX+IY), 4880
    format "00100100" ld_xx_m ra 2 2 ∷  -- LD IY,<addr>, 4876
    format "00101100" ld_xx_m x_ix 2 2 ∷  -- LD IY,(IX+dd), 4874
    format "00110100" ld_xx_m x_iy 2 2 ∷  -- LD IY,(IY+dd), 4874
    format "00111100" ld_xx_m x_hl 2 2 ∷  -- LD IY,(HL+dd), 4874
    format "00000101" ld_m_xx sr 0 2 ∷  -- LD (SP+dd),IY, 4892
    format "00001101" ld_m_xx bx_hl_ix 0 0 ∷  -- LD (HL+IX),IY, 4894
    format "00010101" ld_m_xx bx_hl_iy 0 0 ∷  -- LD (HL+IY),IY, 4894
    format "00011101" ld_m_xx bx_ix_iy 0 0 ∷  -- LD (IX+IY),IY, 4894
    format "00100101" ld_m_xx ra 0 2 ∷  -- LD <addr>,IY, 4890
    format "00101101" ld_m_xx x_ix 0 2 ∷  -- LD (IX+dd),IY, 4888
    format "00110101" ld_m_xx x_iy 0 2 ∷  -- LD (IY+dd),IY, 4888
    format "00111101" ld_m_xx x_hl 0 2 ∷  -- LD (HL+dd),IY, 4888
    format "00rr0110" ld_rr_m sx 2 1 ∷  -- LD RR,(IY+d), 4958 and 5028
    format "00rr1110" ld_m_rr sx 0 1 ∷  -- LD (IY+d),RR, 4964 and 5034
    format "00000010" lda sr 0 2 ∷  -- LDA IY,(SP+dd), 4317
    format "00001010" lda bx_hl_ix 0 0 ∷  -- LDA IY,(HL+IX), 4319
    format "00010010" lda bx_hl_iy 0 0 ∷  -- LDA IY,(HL+IY), 4319
    format "00011010" lda bx_ix_iy 0 0 ∷  -- LDA IY,(IX+IY), 4319
    format "00100010" lda ra 0 2 ∷  -- LDA IY,<addr>, 4315
    format "00101010" lda x_ix 0 2 ∷  -- LDA IY,(IX+dd), 4313
    format "00110010" lda x_iy 0 2 ∷  -- LDA IY,(IY+dd), 4313
    format "00111010" lda x_hl 0 2 ∷  -- LDA IY,(HL+dd), 4313
    -- 8 bit arithmetic and logic; u: 0 MULT, 1 MULTU
    format "1100000u" mult_m ra 1 2 ∷  -- MULT A,<addr>, 5086; MULTU, 5148
    format "1100100u" mult_m x_ix 1 2 ∷  -- MULT A,(IX+dd), 5084; MULTU, 5146
    format "1101000u" mult_m x_iy 1 2 ∷  -- MULT A,(IY+dd), 5084; MULTU, 5146
    format "1101100u" mult_m x_hl 1 2 ∷  -- MULT A,(HL+dd), 5084; MULTU, 5146
    format "1111100u" mult_n no 0 1 ∷  -- MULT A,n, 5081; MULTU, 5143
    format "1110w00u" mult_r no 0 0 ∷  -- MULT A,RX, 5080; MULTU, 5142
    format "1111000u" mult_m sx 1 1 ∷  -- MULT A,(IY+d), 5085; MULTU, 5147
    -- 16 bit arithmetic; u: 0 MULTW, 1 MULTUW
    format "01rr1010" adc_xx_rr no 0 0 ∷  -- ADC IY,RR, 1806
    format "01101101" add_xx_a no 0 0 ∷  -- ADD IY,A, 1864
    format "11100110" aluw_rr no 0 0 ∷  -- ADDW HL,IY, 2066
    format "11100111" aluw_rr no 0 0 ∷  -- CPW HL,IY, 2626
    format "11101110" aluw_rr no 0 0 ∷  -- SUBW HL,IY, 7127
    format "11000110" aluw_m x_ix 2 2 ∷  -- ADDW HL,(IX+dd), 2069
    format "11010110" aluw_m x_iy 2 2 ∷  -- ADDW HL,(IY+dd), 2069
    format "11110110" aluw_nn no 0 2 ∷  -- ADDW HL,nn, 2067
    format "11000111" aluw_m x_ix 2 2 ∷  -- CPW HL,(IX+dd), 2629
    format "11010111" aluw_m x_iy 2 2 ∷  -- CPW HL,(IY+dd), 2629
    format "11110111" aluw_nn no 0 2 ∷  -- CPW HL,nn, 2627
    format "11001110" aluw_m x_ix 2 2 ∷  -- SUBW HL,(IX+dd), 7130
    format "11011110" aluw_m x_iy 2 2 ∷  -- SUBW HL,(IY+dd), 7130
    format "11111110" aluw_nn no 0 2 ∷  -- SUBW HL,nn, 7128
    format "1110001u" multw_rr no 0 0 ∷  -- MULTW HL,IY, 5265; MULTUW, 5204
    format "1100001u" multw_m x_ix 2 2 ∷  -- MULTW HL,(IX+dd), 5268; MULTUW, 5207
    format "1101001u" multw_m x_iy 2 2 ∷  -- MULTW HL,(IY+dd), 5268; MULTUW, 5207
    format "1111001u" multw_nn no 0 2 ∷  -- MULTW HL,nn, 5266; MULTUW, 5205
    format "01rr0010" sbc_xx_rr no 0 0 ∷  -- SBC IY,RR, 6755
    -- Control
    format "01100110" ldctl_xx_c no 0 0 ∷  -- LDCTL IY,(C), 4381
    format "01101110" ldctl_c_xx no 0 0 ∷  -- LDCTL (C),IY, 4383
    format "10000111" ldctl_usp no 0 0 ∷  -- LDCTL IY,USP, 4385
    format "10001111" ldctl_usp no 0 0 ∷  -- LDCTL USP,IY, 4387
    -- Ports
    format "01000000" in_c ra 0 2 ∷  -- IN <addr>,(C), 3470
    format "01001000" in_c x_ix 0 2 ∷  -- IN (IX+dd),(C), 3469
    format "01010000" in_c x_iy 0 2 ∷  -- IN (IY+dd),(C), 3469
    format "01011000" in_c x_hl 0 2 ∷  -- IN (HL+dd),(C), 3469
    format "0110w000" in_c no 0 0 ∷  -- IN RX,(C), 3467
    format "01000001" out_c ra 1 2 ∷  -- OUT (C),<addr>, 5543
    format "01001001" out_c x_ix 1 2 ∷  -- OUT (C),(IX+dd), 5542
    format "01010001" out_c x_iy 1 2 ∷  -- OUT (C),(IY+dd), 5542
    format "01011001" out_c x_hl 1 2 ∷  -- OUT (C),(HL+dd), 5542
    format "0110w001" out_c no 0 0 ∷  -- OUT (C),RX, 5540
    -- Left out
    format "11mmm10u" left_out no 0 0 ∷  -- DIV HL,RX, n and memory, 2816, 2817 and 2819 to 2821; DIVU, 2884 to 2889
    format "11mm101u" left_out no 0 0 ∷  -- DIVW DEHL,IY, nn and memory, 3019 to 3022; DIVUW, 2952 to 2955
    format "1000w110" left_out no 0 0 ∷  -- LDUD A,(IY+d) and (IY+d),A, 4683, 4688
    format "1001w110" left_out no 0 0 ∷  -- LDUP A,(IY+d) and (IY+d),A, 4756, 4762
    []

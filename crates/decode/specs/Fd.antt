-- The operation codes after FD: pattern, operation, mode, bytes read there, bytes that follow. The first that fits counts.
use Rattle.std.specs.Prelude.{List, [], ◌∷◌}
use Rattle.decode.specs.Format.{Format, format}
use Rattle.decode.specs.Op.{opens, ld_a_m, ld_r_n, ld_m_n, ld_r_r, ld_r_m, ld_m_r, ex_xy_hl, ex_sp, ld_xx_m, ld_m_xx, ld_rr_nn, ld_sp_xx, pop_rr, push_rr, push_nn, alu_r, alu_m, dec_r, dec_m, inc_r, inc_m, add_xx_rr, decw_rr, decw_m, incw_rr, incw_m, call, call_cc, jp, jp_cc, jp_xx}
use Rattle.decode.specs.Mode.{no, da, sx, x_ix, x_iy, x_hl, ra, at_sp}

unfoldable pub formats_fd : List Format
formats_fd =
    -- 8 bit load
    format "01111000" ld_a_m ra 1 2 ∷  -- LD A,<addr>, 4089
    format "01111001" ld_a_m x_ix 1 2 ∷  -- LD A,(IX+dd), 4087
    format "01111010" ld_a_m x_iy 1 2 ∷  -- LD A,(IY+dd), 4087
    format "01111011" ld_a_m x_hl 1 2 ∷  -- LD A,(HL+dd), 4087
    format "00000110" ld_m_n ra 0 3 ∷  -- LD <addr>,n, 4191
    format "00001110" ld_m_n x_ix 0 3 ∷  -- LD (IX+dd),n, 4191
    format "00010110" ld_m_n x_iy 0 3 ∷  -- LD (IY+dd),n, 4191
    format "00011110" ld_m_n x_hl 0 3 ∷  -- LD (HL+dd),n, 4191
    format "0010w110" ld_r_n no 0 1 ∷  -- LD RX,n, 4191 and 4231
    format "00110110" ld_m_n sx 0 2 ∷  -- LD (IY+d),n, 4191
    format "010rr10w" ld_r_r no 0 0 ∷  -- LD R*,RX for B, C, D, E, 4227
    format "0111110w" ld_r_r no 0 0 ∷  -- LD A,RX, 4082 and 4227
    format "0110w10v" ld_r_r no 0 0 ∷  -- LD RXA,RXB, 4228
    format "0110w0rr" ld_r_r no 0 0 ∷  -- LD RX,R* for B, C, D, E, 4229
    format "0110w111" ld_r_r no 0 0 ∷  -- LD RX,A, 4097 and 4229
    format "010rr110" ld_r_m sx 1 1 ∷  -- LD R,(IY+d) for B, C, D, E, 4233
    format "0110r110" ld_r_m sx 1 1 ∷  -- LD R,(IY+d) for H, L, 4233
    format "01111110" ld_r_m sx 1 1 ∷  -- LD A,(IY+d), 4088 and 4233
    format "011100rr" ld_m_r sx 0 1 ∷  -- LD (IY+d),R for B, C, D, E, 4247
    format "0111010r" ld_m_r sx 0 1 ∷  -- LD (IY+d),R for H, L, 4247
    format "01110111" ld_m_r sx 0 1 ∷  -- LD (IY+d),A, 4102 and 4247
    -- 16 bit load and exchange
    format "11101011" ex_xy_hl no 0 0 ∷  -- EX IY,HL, 3202
    format "11100011" ex_sp at_sp 2 0 ∷  -- EX (SP),IY, 3142
    format "00101010" ld_xx_m da 2 2 ∷  -- LD IY,(addr), 4872
    format "00100010" ld_m_xx da 0 2 ∷  -- LD (addr),IY, 4886
    format "00100001" ld_rr_nn no 0 2 ∷  -- LD IY,nn, 4803 and 4870; LDA IY,(addr), 4311
    format "11111001" ld_sp_xx no 0 0 ∷  -- LD SP,IY, 5024
    format "11100001" pop_rr at_sp 2 0 ∷  -- POP IY, 5782
    format "11100101" push_rr no 0 0 ∷  -- PUSH IY, 5833
    format "11110101" push_nn no 0 2 ∷  -- PUSH nn, 5834
    -- 8 bit arithmetic and logic; fff: ADD, ADC, SUB, SBC, AND, XOR, OR, CP
    format "10fff000" alu_m ra 1 2 ∷  -- ADD.. A,<addr>, 1929, 1722, 7062, 6677, 2130, 7255, 5358, 2317
    format "10fff001" alu_m x_ix 1 2 ∷  -- ADD.. A,(IX+dd), 1927, 1720, 7060, 6675, 2128, 7253, 5356, 2315
    format "10fff010" alu_m x_iy 1 2 ∷  -- ADD.. A,(IY+dd), 1927, 1720, 7060, 6675, 2128, 7253, 5356, 2315
    format "10fff011" alu_m x_hl 1 2 ∷  -- ADD.. A,(HL+dd), 1927, 1720, 7060, 6675, 2128, 7253, 5356, 2315
    format "10fff10w" alu_r no 0 0 ∷  -- ADD.. A,RX, 1923, 1716, 7056, 6671, 2124, 7249, 5352, 2311
    format "10fff110" alu_m sx 1 1 ∷  -- ADD.. A,(IY+d), 1928, 1721, 7061, 6676, 2129, 7254, 5357, 2316
    format "00000101" dec_m ra 1 2 ∷  -- DEC <addr>, 2741
    format "00001101" dec_m x_ix 1 2 ∷  -- DEC (IX+dd), 2739
    format "00010101" dec_m x_iy 1 2 ∷  -- DEC (IY+dd), 2739
    format "00011101" dec_m x_hl 1 2 ∷  -- DEC (HL+dd), 2739
    format "0010w101" dec_r no 0 0 ∷  -- DEC RX, 2736
    format "00110101" dec_m sx 1 1 ∷  -- DEC (IY+d), 2740
    format "00000100" inc_m ra 1 2 ∷  -- INC <addr>, 3552
    format "00001100" inc_m x_ix 1 2 ∷  -- INC (IX+dd), 3550
    format "00010100" inc_m x_iy 1 2 ∷  -- INC (IY+dd), 3550
    format "00011100" inc_m x_hl 1 2 ∷  -- INC (HL+dd), 3550
    format "0010w100" inc_r no 0 0 ∷  -- INC RX, 3547
    format "00110100" inc_m sx 1 1 ∷  -- INC (IY+d), 3551
    -- 16 bit arithmetic
    format "00rr1001" add_xx_rr no 0 0 ∷  -- ADD IY,RR, 2013
    format "00101011" decw_rr no 0 0 ∷  -- DECW IY, 2752
    format "00100011" incw_rr no 0 0 ∷  -- INCW IY, 3614
    format "00001011" decw_m x_ix 2 2 ∷  -- DECW (IX+dd), 2752
    format "00011011" decw_m x_iy 2 2 ∷  -- DECW (IY+dd), 2752
    format "00000011" incw_m x_ix 2 2 ∷  -- INCW (IX+dd), 3617
    format "00010011" incw_m x_iy 2 2 ∷  -- INCW (IY+dd), 3617
    -- Program control
    format "11ccc100" call_cc ra 0 2 ∷  -- CALL cc,<addr>, 2241
    format "11001101" call ra 0 2 ∷  -- CALL <addr>, 2242
    format "11ccc010" jp_cc ra 0 2 ∷  -- JP cc,<addr>, 3972
    format "11000011" jp ra 0 2 ∷  -- JP <addr>, 3973
    format "11101001" jp_xx no 0 0 ∷  -- JP (IY), 3969
    -- Opens another sequence
    format "11001011" opens no 0 0 ∷  -- CB, 9752
    format "11101101" opens no 0 0 ∷  -- ED, 9752
    []

-- The operation codes after DD: pattern, operation, mode, bytes read there, bytes that follow. The first that fits counts.
use Rattle.std.specs.Prelude.{List, [], ◌∷◌}
use Rattle.decode.specs.Format.{Format, format}
use Rattle.decode.specs.Op.{opens, ld_a_m, ld_r_n, ld_m_n, ld_r_r, ld_r_m, ld_m_r, ex_xy_hl, ex_sp, ld_xx_m, ld_m_xx, ld_rr_nn, ldw_m_nn, ld_sp_xx, pop_rr, pop_m, push_rr, push_m, alu_r, alu_m, dec_r, dec_m, inc_r, inc_m, add_xx_rr, decw_rr, decw_m, incw_rr, incw_m, call, call_cc, jaf, jar, jp_cc, jp_xx}
use Rattle.decode.specs.Mode.{no, ir, da, sx, ra, sr, bx_hl_ix, bx_hl_iy, bx_ix_iy, at_sp}

unfoldable pub formats_dd : List Format
formats_dd =
    -- 8 bit load
    format "01111000" ld_a_m sr 1 2 ∷  -- LD A,(SP+dd), 4090
    format "01111001" ld_a_m bx_hl_ix 1 0 ∷  -- LD A,(HL+IX), 4091
    format "01111010" ld_a_m bx_hl_iy 1 0 ∷  -- LD A,(HL+IY), 4091
    format "01111011" ld_a_m bx_ix_iy 1 0 ∷  -- LD A,(IX+IY), 4091
    format "00000110" ld_m_n sr 0 3 ∷  -- LD (SP+dd),n, 4191
    format "00001110" ld_m_n bx_hl_ix 0 1 ∷  -- LD (HL+IX),n, 4191
    format "00010110" ld_m_n bx_hl_iy 0 1 ∷  -- LD (HL+IY),n, 4191
    format "00011110" ld_m_n bx_ix_iy 0 1 ∷  -- LD (IX+IY),n, 4191
    format "00111110" ld_m_n da 0 3 ∷  -- LD (addr),n, 4191
    format "0010w110" ld_r_n no 0 1 ∷  -- LD RX,n, 4191 and 4231
    format "00110110" ld_m_n sx 0 2 ∷  -- LD (IX+d),n, 4191
    format "010rr10w" ld_r_r no 0 0 ∷  -- LD R*,RX for B, C, D, E, 4227
    format "0111110w" ld_r_r no 0 0 ∷  -- LD A,RX, 4082 and 4227
    format "0110w10v" ld_r_r no 0 0 ∷  -- LD RXA,RXB, 4228
    format "0110w0rr" ld_r_r no 0 0 ∷  -- LD RX,R* for B, C, D, E, 4229
    format "0110w111" ld_r_r no 0 0 ∷  -- LD RX,A, 4097 and 4229
    format "010rr110" ld_r_m sx 1 1 ∷  -- LD R,(IX+d) for B, C, D, E, 4233
    format "0110r110" ld_r_m sx 1 1 ∷  -- LD R,(IX+d) for H, L, 4233
    format "01111110" ld_r_m sx 1 1 ∷  -- LD A,(IX+d), 4088 and 4233
    format "011100rr" ld_m_r sx 0 1 ∷  -- LD (IX+d),R for B, C, D, E, 4247
    format "0111010r" ld_m_r sx 0 1 ∷  -- LD (IX+d),R for H, L, 4247
    format "01110111" ld_m_r sx 0 1 ∷  -- LD (IX+d),A, 4102 and 4247
    -- 16 bit load and exchange
    format "11101011" ex_xy_hl no 0 0 ∷  -- EX IX,HL, 3202
    format "11100011" ex_sp at_sp 2 0 ∷  -- EX (SP),IX, 3142
    format "00101010" ld_xx_m da 2 2 ∷  -- LD IX,(addr), 4872
    format "00100010" ld_m_xx da 0 2 ∷  -- LD (addr),IX, 4886
    format "00100001" ld_rr_nn no 0 2 ∷  -- LD IX,nn, 4803 and 4870; LDA IX,(addr), 4311
    format "11111001" ld_sp_xx no 0 0 ∷  -- LD SP,IX, 5024
    format "11100001" pop_rr at_sp 2 0 ∷  -- POP IX, 5782
    format "11100101" push_rr no 0 0 ∷  -- PUSH IX, 5833
    format "00000001" ldw_m_nn ir 0 2 ∷  -- LDW (HL),nn, 4804
    format "00010001" ldw_m_nn da 0 4 ∷  -- LDW (addr),nn, 4805
    format "00110001" ldw_m_nn ra 0 4 ∷  -- LDW <addr>,nn, 4806
    format "11000001" pop_m at_sp 2 0 ∷  -- POP (HL), 5783
    format "11010001" pop_m at_sp 2 2 ∷  -- POP (addr), 5784
    format "11110001" pop_m at_sp 2 2 ∷  -- POP <addr>, 5785
    format "11000101" push_m ir 2 0 ∷  -- PUSH (HL), 5835
    format "11010101" push_m da 2 2 ∷  -- PUSH (addr), 5836
    format "11110101" push_m ra 2 2 ∷  -- PUSH <addr>, 5837
    -- 8 bit arithmetic and logic; fff: ADD, ADC, SUB, SBC, AND, XOR, OR, CP
    format "10fff000" alu_m sr 1 2 ∷  -- ADD.. A,(SP+dd), 1930, 1723, 7063, 6678, 2131, 7256, 5359, 2318
    format "10fff001" alu_m bx_hl_ix 1 0 ∷  -- ADD.. A,(HL+IX), 1931, 1724, 7064, 6679, 2132, 7257, 5360, 2319
    format "10fff010" alu_m bx_hl_iy 1 0 ∷  -- ADD.. A,(HL+IY), 1931, 1724, 7064, 6679, 2132, 7257, 5360, 2319
    format "10fff011" alu_m bx_ix_iy 1 0 ∷  -- ADD.. A,(IX+IY), 1931, 1724, 7064, 6679, 2132, 7257, 5360, 2319
    format "10fff111" alu_m da 1 2 ∷  -- ADD.. A,(addr), 1926, 1719, 7059, 6674, 2127, 7252, 5355, 2314
    format "10fff10w" alu_r no 0 0 ∷  -- ADD.. A,RX, 1923, 1716, 7056, 6671, 2124, 7249, 5352, 2311
    format "10fff110" alu_m sx 1 1 ∷  -- ADD.. A,(IX+d), 1928, 1721, 7061, 6676, 2129, 7254, 5357, 2316
    format "00000101" dec_m sr 1 2 ∷  -- DEC (SP+dd), 2742
    format "00001101" dec_m bx_hl_ix 1 0 ∷  -- DEC (HL+IX), 2743
    format "00010101" dec_m bx_hl_iy 1 0 ∷  -- DEC (HL+IY), 2743
    format "00011101" dec_m bx_ix_iy 1 0 ∷  -- DEC (IX+IY), 2743
    format "00111101" dec_m da 1 2 ∷  -- DEC (addr), 2738
    format "0010w101" dec_r no 0 0 ∷  -- DEC RX, 2736
    format "00110101" dec_m sx 1 1 ∷  -- DEC (IX+d), 2740
    format "00000100" inc_m sr 1 2 ∷  -- INC (SP+dd), 3553
    format "00001100" inc_m bx_hl_ix 1 0 ∷  -- INC (HL+IX), 3554
    format "00010100" inc_m bx_hl_iy 1 0 ∷  -- INC (HL+IY), 3554
    format "00011100" inc_m bx_ix_iy 1 0 ∷  -- INC (IX+IY), 3554
    format "00111100" inc_m da 1 2 ∷  -- INC (addr), 3549
    format "0010w100" inc_r no 0 0 ∷  -- INC RX, 3547
    format "00110100" inc_m sx 1 1 ∷  -- INC (IX+d), 3551
    -- 16 bit arithmetic
    format "00rr1001" add_xx_rr no 0 0 ∷  -- ADD IX,RR, 2013
    format "00101011" decw_rr no 0 0 ∷  -- DECW IX, 2752
    format "00100011" incw_rr no 0 0 ∷  -- INCW IX, 3614
    format "00001011" decw_m ir 2 0 ∷  -- DECW (HL), 2752
    format "00011011" decw_m da 2 2 ∷  -- DECW (addr), 2752
    format "00111011" decw_m ra 2 2 ∷  -- DECW <addr>, 2752
    format "00000011" incw_m ir 2 0 ∷  -- INCW (HL), 3615
    format "00010011" incw_m da 2 2 ∷  -- INCW (addr), 3616
    format "00110011" incw_m ra 2 2 ∷  -- INCW <addr>, 3618
    -- Program control
    format "11ccc100" call_cc ir 0 0 ∷  -- CALL cc,(HL), 2237
    format "11001101" call ir 0 0 ∷  -- CALL (HL), 2238
    format "00101000" jaf no 0 1 ∷  -- JAF addr, 3934
    format "00100000" jar no 0 1 ∷  -- JAR addr, 3940
    format "11ccc010" jp_cc ir 0 0 ∷  -- JP cc,(HL), 3967
    format "11101001" jp_xx no 0 0 ∷  -- JP (IX), 3969
    -- Opens another sequence
    format "11001011" opens no 0 0 ∷  -- CB, 9752
    format "11101101" opens no 0 0 ∷  -- ED, 9752
    []

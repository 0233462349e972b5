-- The operation codes with no opening byte: pattern, operation, mode, bytes read there, bytes that follow. The first that fits counts.
use Rattle.std.specs.Prelude.{List, [], ◌∷◌}
use Rattle.decode.specs.Format.{Format, format}
use Rattle.decode.specs.Op.{left_out, opens, halt, in_n, out_n, di, ei, ld_a_m, ld_m_a, ld_r_n, ld_m_n, ld_r_r, ld_r_m, ld_m_r, ex_de_hl, ex_sp, ex_af, exx, ld_xx_m, ld_m_xx, ld_rr_nn, ld_sp_xx, pop_rr, push_rr, alu_r, alu_n, alu_m, cpl, dec_r, dec_m, inc_r, inc_m, add_xx_rr, decw_rr, incw_rr, rot_a, call, call_cc, ccf, djnz, jp, jp_cc, jp_xx, jr, jr_cc, ret, ret_cc, rst, scf, nop}
use Rattle.decode.specs.Mode.{no, ir, da, at_bc, at_de, at_sp, at_sp_cc}

unfoldable pub formats_none : List Format
formats_none =
    -- HALT stands in the row of LD R,(HL) and so before it
    format "01110110" halt no 0 0 ∷  -- HALT, 3373
    -- 8 bit load
    format "00001010" ld_a_m at_bc 1 0 ∷  -- LD A,(BC), 4085
    format "00011010" ld_a_m at_de 1 0 ∷  -- LD A,(DE), 4085
    format "00111010" ld_a_m da 1 2 ∷  -- LD A,(addr), 4086
    format "00000010" ld_m_a at_bc 0 0 ∷  -- LD (BC),A, 4099
    format "00010010" ld_m_a at_de 0 0 ∷  -- LD (DE),A, 4099
    format "00110010" ld_m_a da 0 2 ∷  -- LD (addr),A, 4100
    format "00110110" ld_m_n ir 0 1 ∷  -- LD (HL),n, 4191
    format "00rrr110" ld_r_n no 0 1 ∷  -- LD R,n, 4191 and 4230
    format "01rrr110" ld_r_m ir 1 0 ∷  -- LD R,(HL), 4232
    format "01110rrr" ld_m_r ir 0 0 ∷  -- LD (HL),R, 4241
    format "01rrrsss" ld_r_r no 0 0 ∷  -- LD R1,R2, 4226
    -- 16 bit load and exchange
    format "11101011" ex_de_hl no 0 0 ∷  -- EX DE,HL, 3200
    format "11100011" ex_sp at_sp 2 0 ∷  -- EX (SP),HL, 3138
    format "00001000" ex_af no 0 0 ∷  -- EX AF,AF', 3105
    format "11011001" exx no 0 0 ∷  -- EXX, 3363
    format "00101010" ld_xx_m da 2 2 ∷  -- LD HL,(addr), 4871
    format "00100010" ld_m_xx da 0 2 ∷  -- LD (addr),HL, 4885
    format "00rr0001" ld_rr_nn no 0 2 ∷  -- LD RR,nn, 4802, 4955 and 5025; LDA HL,(addr), 4310
    format "11111001" ld_sp_xx no 0 0 ∷  -- LD SP,HL, 5023
    format "11rr0001" pop_rr at_sp 2 0 ∷  -- POP RR, 5781
    format "11rr0101" push_rr no 0 0 ∷  -- PUSH RR, 5832
    -- 8 bit arithmetic and logic; fff: ADD, ADC, SUB, SBC, AND, XOR, OR, CP
    format "10fff110" alu_m ir 1 0 ∷  -- ADD.. A,(HL), 1925, 1718, 7058, 6673, 2126, 7251, 5354, 2313
    format "10fffrrr" alu_r no 0 0 ∷  -- ADD.. A,R, 1922, 1715, 7055, 6670, 2123, 7248, 5351, 2310
    format "11fff110" alu_n no 0 1 ∷  -- ADD.. A,n, 1924, 1717, 7057, 6672, 2125, 7250, 5353, 2312
    format "00101111" cpl no 0 0 ∷  -- CPL A, 2591
    format "00110101" dec_m ir 1 0 ∷  -- DEC (HL), 2737
    format "00rrr101" dec_r no 0 0 ∷  -- DEC R, 2735
    format "00110100" inc_m ir 1 0 ∷  -- INC (HL), 3548
    format "00rrr100" inc_r no 0 0 ∷  -- INC R, 3546
    -- 16 bit arithmetic
    format "00rr1001" add_xx_rr no 0 0 ∷  -- ADD HL,RR, 2011
    format "00rr1011" decw_rr no 0 0 ∷  -- DECW RR, 2752
    format "00rr0011" incw_rr no 0 0 ∷  -- INCW RR, 3613
    -- Bits, rotates, shifts
    format "000oo111" rot_a no 0 0 ∷  -- RLCA, RRCA, RLA, RRA, 6277, 6538, 6182, 6429
    -- Program control
    format "11ccc100" call_cc da 0 2 ∷  -- CALL cc,addr, 2239
    format "11001101" call da 0 2 ∷  -- CALL addr, 2240
    format "00111111" ccf no 0 0 ∷  -- CCF, 2281
    format "00010000" djnz no 0 1 ∷  -- DJNZ addr, 3071
    format "11ccc010" jp_cc da 0 2 ∷  -- JP cc,addr, 3970
    format "11000011" jp da 0 2 ∷  -- JP addr, 3971
    format "11101001" jp_xx no 0 0 ∷  -- JP (HL), 3968
    format "001cc000" jr_cc no 0 1 ∷  -- JR cc,addr, 4025
    format "00011000" jr no 0 1 ∷  -- JR addr, 4026
    format "11ccc000" ret_cc at_sp_cc 2 0 ∷  -- RET cc, 5910
    format "11001001" ret at_sp 2 0 ∷  -- RET, 5910
    format "11ttt111" rst no 0 0 ∷  -- RST address, 6635
    format "00110111" scf no 0 0 ∷  -- SCF, 6845
    -- Control
    format "11110011" di no 0 0 ∷  -- DI, 2774
    format "11111011" ei no 0 0 ∷  -- EI, 3098
    format "00000000" nop no 0 0 ∷  -- NOP, 5320
    -- Ports
    format "11011011" in_n no 0 1 ∷  -- IN A,(n), 3515
    format "11010011" out_n no 0 1 ∷  -- OUT (n),A, 5582
    -- Left out
    format "00100111" left_out no 0 0 ∷  -- DAA, 2703
    -- Opens another sequence
    format "11001011" opens no 0 0 ∷  -- CB, 9752
    format "11101101" opens no 0 0 ∷  -- ED
    format "11011101" opens no 0 0 ∷  -- DD
    format "11111101" opens no 0 0 ∷  -- FD
    []

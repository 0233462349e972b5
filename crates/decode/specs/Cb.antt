-- The operation codes after CB: pattern, operation, mode, bytes read there, bytes that follow. The first that fits counts.
use Rattle.std.specs.Prelude.{List, [], ◌∷◌}
use Rattle.decode.specs.Format.{Format, format}
use Rattle.decode.specs.Op.{bit_r, bit_m, res_r, res_m, rot_r, rot_m, set_r, set_m, tset_r, tset_m}
use Rattle.decode.specs.Mode.{no, ir}

unfoldable pub formats_cb : List Format
formats_cb =
    -- Bits, rotates, shifts; bbb the bit, oo the rotate
    format "01bbb110" bit_m ir 1 0 ∷  -- BIT b,(HL), 2193
    format "01bbbrrr" bit_r no 0 0 ∷  -- BIT b,R, 2192
    format "10bbb110" res_m ir 1 0 ∷  -- RES b,(HL), 5874
    format "10bbbrrr" res_r no 0 0 ∷  -- RES b,R, 5873
    format "000oo110" rot_m ir 1 0 ∷  -- RLC, RRC, RL, RR (HL), 6232, 6483, 6130, 6375
    format "000oorrr" rot_r no 0 0 ∷  -- RLC, RRC, RL, RR R, 6231, 6482, 6129, 6374
    format "0010o110" rot_m ir 1 0 ∷  -- SLA, SRA (HL), 6889, 6943
    format "0010orrr" rot_r no 0 0 ∷  -- SLA, SRA R, 6888, 6942
    format "00111110" rot_m ir 1 0 ∷  -- SRL (HL), 7016
    format "00111rrr" rot_r no 0 0 ∷  -- SRL R, 7015
    format "11bbb110" set_m ir 1 0 ∷  -- SET b,(HL), 6849
    format "11bbbrrr" set_r no 0 0 ∷  -- SET b,R, 6849
    format "00110110" tset_m ir 1 0 ∷  -- TSET (HL), 7183
    format "00110rrr" tset_r no 0 0 ∷  -- TSET R, 7182
    []

-- The operation codes after DD CB d: pattern, operation, mode, bytes read there, bytes that follow. The first that fits counts.
use Rattle.std.specs.Prelude.{List, [], ◌∷◌}
use Rattle.decode.specs.Format.{Format, format}
use Rattle.decode.specs.Op.{bit_m, res_m, rot_m, set_m, tset_m}
use Rattle.decode.specs.Mode.{sx}

unfoldable pub formats_dd_cb : List Format
formats_dd_cb =
    -- Bits, rotates, shifts; bbb the bit, oo the rotate
    format "01bbb110" bit_m sx 1 0 ∷  -- BIT b,(IX+d), 2194
    format "10bbb110" res_m sx 1 0 ∷  -- RES b,(IX+d), 5875
    format "000oo110" rot_m sx 1 0 ∷  -- RLC, RRC, RL, RR (IX+d), 6233, 6484, 6131, 6376
    format "0010o110" rot_m sx 1 0 ∷  -- SLA, SRA (IX+d), 6890, 6944
    format "00111110" rot_m sx 1 0 ∷  -- SRL (IX+d), 7017
    format "11bbb110" set_m sx 1 0 ∷  -- SET b,(IX+d), 6849
    format "00110110" tset_m sx 1 0 ∷  -- TSET (IX+d), 7184
    []

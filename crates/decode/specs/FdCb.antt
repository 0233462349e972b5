-- The operation codes after FD CB d: pattern, operation, mode, bytes read there, bytes that follow. The first that fits counts.
use Rattle.std.specs.Prelude.{List, [], ◌∷◌}
use Rattle.decode.specs.Format.{Format, format}
use Rattle.decode.specs.Op.{bit_m, res_m, rot_m, set_m, tset_m}
use Rattle.decode.specs.Mode.{sx}

unfoldable pub formats_fd_cb : List Format
formats_fd_cb =
    -- Bits, rotates, shifts; bbb the bit, oo the rotate
    format "01bbb110" bit_m sx 1 0 ∷  -- BIT b,(IY+d), 2194
    format "10bbb110" res_m sx 1 0 ∷  -- RES b,(IY+d), 5875
    format "000oo110" rot_m sx 1 0 ∷  -- RLC, RRC, RL, RR (IY+d), 6233, 6484, 6131, 6376
    format "0010o110" rot_m sx 1 0 ∷  -- SLA, SRA (IY+d), 6890, 6944
    format "00111110" rot_m sx 1 0 ∷  -- SRL (IY+d), 7017
    format "11bbb110" set_m sx 1 0 ∷  -- SET b,(IY+d), 6849
    format "00110110" tset_m sx 1 0 ∷  -- TSET (IY+d), 7184
    []

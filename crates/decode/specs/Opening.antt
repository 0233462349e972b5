-- The opening sequences, numbered: 0 none, 1 CB, 2 ED, 3 DD, 4 FD, 5 DD CB d, 6 FD CB d, 7 DD ED, 8 FD ED (Appendix B, line 9752), and their nine tables.
use Rattle.std.specs.Prelude.{ℕ, cond, List, [], ◌∷◌, eqb, get_or}
use Rattle.decode.specs.Format.{Format, entry_of, values}
use Rattle.decode.specs.None.{formats_none}
use Rattle.decode.specs.Cb.{formats_cb}
use Rattle.decode.specs.Ed.{formats_ed}
use Rattle.decode.specs.Dd.{formats_dd}
use Rattle.decode.specs.Fd.{formats_fd}
use Rattle.decode.specs.DdCb.{formats_dd_cb}
use Rattle.decode.specs.FdCb.{formats_fd_cb}
use Rattle.decode.specs.DdEd.{formats_dd_ed}
use Rattle.decode.specs.FdEd.{formats_fd_ed}

abbrev pub openings : List (List Format)
openings =
    formats_none ∷ formats_cb ∷ formats_ed ∷ formats_dd ∷ formats_fd ∷
    formats_dd_cb ∷ formats_fd_cb ∷ formats_dd_ed ∷ formats_fd_ed ∷ []

abbrev pub formats_of : ℕ → List Format
formats_of o = get_or openings o []

-- what the table says of the operation code b after the opening o; 0 where there is no instruction
unfoldable pub entered : ℕ → ℕ → ℕ
entered o b = entry_of (formats_of o) b

-- a table of 256 entries for each opening
abbrev pub tables_of : List (List Format) → List (List ℕ)
tables_of [] = []
tables_of (fs ∷ os) = values (entry_of fs) 0 256 ∷ tables_of os

unfoldable pub tabled : List (List ℕ)
tabled = tables_of openings

-- the opening that a first byte begins; 0 where it begins none
unfoldable pub opening_of : ℕ → ℕ
opening_of b = cond (eqb b 0xCB) 1 (cond (eqb b 0xED) 2 (cond (eqb b 0xDD) 3 (cond (eqb b 0xFD) 4 0)))

-- the opening that a byte after DD or FD (o is 3 or 4) begins; 0 where it begins none
unfoldable pub after_opening : ℕ → ℕ → ℕ
after_opening o b =
    cond (eqb o 3) (cond (eqb b 0xCB) 5 (cond (eqb b 0xED) 7 0))
    (cond (eqb o 4) (cond (eqb b 0xCB) 6 (cond (eqb b 0xED) 8 0)) 0)

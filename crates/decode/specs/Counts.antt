-- How many operation codes of each opening are instructions, and of which kind.
use Rattle.std.specs.Prelude.{ℕ, zero, suc, List, [], ◌∷◌, get_or}
use Rattle.decode.specs.Entry.{op_in}

-- an operation's column: 0 built, 1 port, 2 left out, 3 extended, 4 opens another, 5 undefined; operations 6 to 11 are the ports
abbrev pub column : ℕ → ℕ
column op = get_or (5 ∷ 2 ∷ 3 ∷ 4 ∷ 0 ∷ 0 ∷ 1 ∷ 1 ∷ 1 ∷ 1 ∷ 1 ∷ 1 ∷ []) op 0

abbrev pub one_more : ℕ → List ℕ → List ℕ
one_more k [] = []
one_more zero (n ∷ ns) = suc n ∷ ns
one_more (suc k) (n ∷ ns) = n ∷ one_more k ns

abbrev pub counts_of : List ℕ → List ℕ
counts_of [] = 0 ∷ 0 ∷ 0 ∷ 0 ∷ 0 ∷ 0 ∷ []
counts_of (e ∷ es) = one_more (column (op_in e)) (counts_of es)

abbrev pub counts_of_all : List (List ℕ) → List (List ℕ)
counts_of_all [] = []
counts_of_all (t ∷ ts) = counts_of t ∷ counts_of_all ts

-- built, port, left out, extended, opens another, undefined
abbrev pub counts : List (List ℕ)
counts =
    (249 ∷ 2 ∷ 1 ∷ 0 ∷ 4 ∷ 0 ∷ []) ∷  -- no opening byte
    (256 ∷ 0 ∷ 0 ∷ 0 ∷ 0 ∷ 0 ∷ []) ∷  -- CB
    (120 ∷ 33 ∷ 41 ∷ 22 ∷ 0 ∷ 40 ∷ []) ∷  -- ED
    (179 ∷ 0 ∷ 0 ∷ 0 ∷ 2 ∷ 75 ∷ []) ∷  -- DD
    (157 ∷ 0 ∷ 0 ∷ 0 ∷ 2 ∷ 97 ∷ []) ∷  -- FD
    (32 ∷ 0 ∷ 0 ∷ 0 ∷ 0 ∷ 224 ∷ []) ∷  -- DD CB d
    (32 ∷ 0 ∷ 0 ∷ 0 ∷ 0 ∷ 224 ∷ []) ∷  -- FD CB d
    (89 ∷ 14 ∷ 28 ∷ 0 ∷ 0 ∷ 125 ∷ []) ∷  -- DD ED
    (88 ∷ 12 ∷ 28 ∷ 0 ∷ 0 ∷ 128 ∷ []) ∷  -- FD ED
    []

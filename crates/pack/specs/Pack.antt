-- A form is one number. A table of widths cuts it into fields, the first field uppermost; eights cut the same number into bytes.
use Rattle.std.specs.Prelude.{ℕ, ◌+◌, ◌*◌, ◌/◌, ◌%◌, ◌^◌, ◌<◌, ◌≤◌, ◌≡◌, List, [], ◌∷◌, ◌++◌, length, replicate, take, drop, get_or}

-- how many bits the fields have together
unfoldable pub total : List ℕ → ℕ
total [] = 0
total (w ∷ ws) = w + total ws

-- how many bytes they fill
unfoldable pub size : List ℕ → ℕ
size ws = total ws / 8

-- the table that cuts a number into n bytes
abbrev pub eights : ℕ → List ℕ
eights n = replicate n 8

-- the number n with the fields vs, of the widths ws, written after it
unfoldable pub join_from : ℕ → List ℕ → List ℕ → ℕ
join_from n [] vs = n
join_from n (w ∷ ws) [] = n
join_from n (w ∷ ws) (v ∷ vs) = join_from (n * 2 ^ w + v) ws vs

-- the fields of the widths ws that the last bits of n spell
unfoldable pub cut : List ℕ → ℕ → List ℕ
cut [] n = []
cut (w ∷ ws) n = (n / 2 ^ total ws % 2 ^ w) ∷ cut ws n

-- the number that bytes spell
unfoldable pub number : List ℕ → ℕ
number s = join_from 0 (eights (length s)) s

-- fields to bytes
unfoldable pub pack : List ℕ → List ℕ → List ℕ
pack ws vs = cut (eights (size ws)) (join_from 0 ws vs)

-- bytes to fields
unfoldable pub unpack : List ℕ → List ℕ → List ℕ
unpack ws s = cut ws (number s)

-- there are as many values as widths, and each value fits its width
unfoldable pub Fit : List ℕ → List ℕ → Type 0
Fit [] [] = Unit
Fit [] (v ∷ vs) = ⊥
Fit (w ∷ ws) [] = ⊥
Fit (w ∷ ws) (v ∷ vs) = (v < 2 ^ w) × Fit ws vs

-- a table that packing takes: its fields fill whole bytes, fewer than 8,192 of them, and no field is wider than 16
pub record Table (ws : List ℕ) : Type 0 where
  pub whole : total ws ≡ size ws * 8
  pub near : total ws < 65536
  pub narrow : (i : ℕ) → get_or ws i 0 ≤ 16

-- the list d with s in it from index k on
abbrev pub pasted : {A : Type 0} → List A → ℕ → List A → List A
pasted d k s = take k d ++ s ++ drop (k + length s) d

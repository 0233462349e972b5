-- Laws of the form as a number, over any table of widths: joined and cut, both ways; fields to bytes and back, both ways.
use mathlib.Core.Path.{◌≡◌, refl, ap}
use Prim.Native.Nat.{ℕ, zero, suc, ◌+◌, ◌*◌, ◌/◌, ◌^◌, ◌<◌, ◌≤◌}
use mathlib.Core.List.{List, [], ◌∷◌, ◌++◌}
use native.Mathlib.Omega.{arith}
use native.Mathlib.Nat.{mod-lt, div-one, add_comm, div-eq_of_lt, le_of_suc-le-suc, not-suc-le-zero}
use lib.ListN.{length, replicate, take, get_or, length-replicate}
use lib.Seq.{take-length}
use lib.Pow.{high, low, shr-shr, pow_pos}
use lib.Pow as pow
use Rattle.pack.specs.Pack.{total, size, eights, join_from, cut, Fit, number, pack, unpack}

-- what stands above the fields
pub above : (ws vs : List ℕ) (n : ℕ) → Fit ws vs → join_from n ws vs / 2 ^ total ws ≡ n
unfolding total join_from Fit
above [] [] n f = div-one n
above [] (v ∷ vs) n f = elim f [ ]
above (w ∷ ws) [] n f = elim f [ ]
above (w ∷ ws) (v ∷ vs) n f =
    rw (add_comm w (total ws), ← shr-shr, above ws vs (n * 2 ^ w + v) f.1) (high n w f.0)

pub cut_join : (ws vs : List ℕ) (n : ℕ) → Fit ws vs → cut ws (join_from n ws vs) ≡ vs
unfolding cut join_from Fit
cut_join [] [] n f = refl
cut_join [] (v ∷ vs) n f = elim f [ ]
cut_join (w ∷ ws) [] n f = elim f [ ]
cut_join (w ∷ ws) (v ∷ vs) n f =
    rw (above ws vs (n * 2 ^ w + v) f.1, cut_join ws vs (n * 2 ^ w + v) f.1, low n w f.0)

pub join_cut : (ws : List ℕ) (n : ℕ) → join_from (n / 2 ^ total ws) ws (cut ws n) ≡ n
unfolding total cut join_from
join_cut [] n = div-one n
join_cut (w ∷ ws) n = rw (add_comm w (total ws), ← shr-shr, pow.split (n / 2 ^ total ws) w) (join_cut ws n)

-- a number of no more bits than the table has
pub join_cut_all : (ws : List ℕ) (n : ℕ) → n < 2 ^ total ws → join_from 0 ws (cut ws n) ≡ n
join_cut_all ws n h = rw (div-eq_of_lt h) at (join_cut ws n)

pub join_lt : (ws vs : List ℕ) → Fit ws vs → join_from 0 ws vs < 2 ^ total ws
join_lt ws vs f =
    let n : ℕ = join_from 0 ws vs in
    omega (arith, rw (above ws vs 0 f) at (pow.split n (total ws)), mod-lt n (pow_pos (total ws)))

-- ---- values and widths

pub cut_fit : (ws : List ℕ) (n : ℕ) → Fit ws (cut ws n)
unfolding cut Fit
cut_fit [] n = tt
cut_fit (w ∷ ws) n = (mod-lt _ (pow_pos w), cut_fit ws n)

pub length_cut : (ws : List ℕ) (n : ℕ) → length (cut ws n) ≡ length ws
unfolding cut
length_cut [] n = refl
length_cut (w ∷ ws) n = ap suc (length_cut ws n)

pub fit_length : (ws vs : List ℕ) → Fit ws vs → length vs ≡ length ws
unfolding Fit
fit_length [] [] f = refl
fit_length [] (v ∷ vs) f = elim f [ ]
fit_length (w ∷ ws) [] f = elim f [ ]
fit_length (w ∷ ws) (v ∷ vs) f = ap suc (fit_length ws vs f.1)

pub fit_at : (ws vs : List ℕ) → Fit ws vs → (i : ℕ) → i < length ws → get_or vs i 0 < 2 ^ get_or ws i 0
unfolding Fit
fit_at [] [] f i h = absurd (omega arith)
fit_at [] (v ∷ vs) f i h = elim f [ ]
fit_at (w ∷ ws) [] f i h = elim f [ ]
fit_at (w ∷ ws) (v ∷ vs) f zero h = f.0
fit_at (w ∷ ws) (v ∷ vs) f (suc i) h = fit_at ws vs f.1 i (omega arith)

pub fit_append : (ws vs us xs : List ℕ) → Fit ws vs → Fit us xs → Fit (ws ++ us) (vs ++ xs)
unfolding Fit
fit_append [] [] us xs f g = g
fit_append [] (v ∷ vs) us xs f g = elim f [ ]
fit_append (w ∷ ws) [] us xs f g = elim f [ ]
fit_append (w ∷ ws) (v ∷ vs) us xs f g = (f.0, fit_append ws vs us xs f.1 g)

-- values of one width
pub fit_take : (w n : ℕ) (s : List ℕ) → n ≤ length s → ((i : ℕ) → get_or s i 0 < 2 ^ w) → Fit (replicate n w) (take n s)
unfolding Fit
fit_take w zero s h b = tt
fit_take w (suc n) [] h b = absurd (not-suc-le-zero h)
fit_take w (suc n) (x ∷ s) h b = (b 0, fit_take w n s (le_of_suc-le-suc h) (λ i. b (suc i)))

pub fit_all : (w : ℕ) (s : List ℕ) → ((i : ℕ) → get_or s i 0 < 2 ^ w) → Fit (replicate (length s) w) s
fit_all w s b = rw (take-length s) at (fit_take w (length s) s (omega arith) b)

-- ---- bytes

abbrev pub Bytes : List ℕ → Type 0
Bytes s = (i : ℕ) → get_or s i 0 < 256

pub total_eights : (n : ℕ) → total (eights n) ≡ n * 8
unfolding total
total_eights zero = refl
total_eights (suc n) = omega (arith, total_eights n)

-- a number of no more than n bytes
pub number_cut : (n m : ℕ) → m < 2 ^ (n * 8) → number (cut (eights n) m) ≡ m
unfolding number
number_cut n m h =
    rw (length_cut (eights n) m, length-replicate {A = ℕ} n 8) (join_cut_all (eights n) m (rw (total_eights n) h))

pub cut_number : (s : List ℕ) → Bytes s → cut (eights (length s)) (number s) ≡ s
unfolding number
cut_number s b = cut_join (eights (length s)) s 0 (fit_all 8 s b)

pub number_lt : (s : List ℕ) → Bytes s → number s < 2 ^ (length s * 8)
unfolding number
number_lt s b = rw (total_eights (length s)) at (join_lt (eights (length s)) s (fit_all 8 s b))

-- ---- the round trips, over any table that fills whole bytes

pub unpack_pack : (ws vs : List ℕ) → total ws ≡ size ws * 8 → Fit ws vs → unpack ws (pack ws vs) ≡ vs
unfolding pack unpack
unpack_pack ws vs whole f =
    rw (number_cut (size ws) (join_from 0 ws vs) (rw (← whole) (join_lt ws vs f))) (cut_join ws vs 0 f)

pub pack_unpack : (ws s : List ℕ) → total ws ≡ size ws * 8 → length s ≡ size ws → Bytes s → pack ws (unpack ws s) ≡ s
unfolding pack unpack
pack_unpack ws s whole n b =
    rw (← n, join_cut_all ws (number s) (rw (whole, ← n) (number_lt s b))) (cut_number s b)

-- Laws of one bit and one field: a byte's bits, the number that the first bits of a run of bytes spell, and the turns of a field's loops.
use mathlib.Core.Path.{◌≡◌, refl, ◌∙◌, sym}
use mathlib.Core.Logic.{⊎_elim}
use Prim.Native.Nat.{ℕ, suc, ◌+◌, ◌-◌, ◌*◌, ◌/◌, ◌%◌, ◌^◌, ◌<◌, ◌≤◌}
use mathlib.Core.List.{List, [], ◌∷◌, ◌++◌}
use native.Mathlib.Omega.{arith}
use native.Mathlib.Nat.{div-one, div-eq_of_lt, mod-eq_of_lt, mul_assoc, add_assoc, add-zero, add-mul, eq-or-lt_of_le}
use lib.ListN.{length, take, get_or, set}
use lib.Seq.{take-set-le, take-suc-set, get_or-set_same, get_or-set_other, set-get_or}
use lib.Pow.{shr-shr, shr_lt, shl_lt, shl-shr, pow-add, mod-pow-add}
use Rattle.pack.specs.Pack.{join_from, eights, number}
use Rattle.pack.specs.Field.{prefix, with_bit, bit_of}
use Rattle.pack.proofs.Laws.{Bytes}

-- ---- a byte

module _ (x r b : ℕ) (byte : x < 256) (place : r < 8) (bit : b < 2) where
  more_lt : x / 2 ^ (8 - r) * 2 + b < 2 ^ (r + 1)
  more_lt =
      let e : r + (8 - r) ≡ 8 = omega arith in
      let kept : x / 2 ^ (8 - r) < 2 ^ r = shr_lt r (8 - r) (rw e byte) in
      omega (arith, kept, pow-add 2 r 1)

  pub with_bit_lt : with_bit x r b < 256
  with_bit_lt = let e : r + 1 + (7 - r) ≡ 8 = omega arith in rw e at (shl_lt (r + 1) (7 - r) more_lt)

  -- as the code has it, by a shift at sixteen bits
  pub with_bit_shl : (x / 2 ^ (8 - r) * 2 + b) * 2 ^ (7 - r) % 2 ^ 16 ≡ with_bit x r b
  with_bit_shl = mod-eq_of_lt (omega (arith, with_bit_lt))

-- ---- the first bits of a run of bytes

number_more : (n : ℕ) (xs : List ℕ) (y : ℕ)
    → join_from n (eights (length (xs ++ y ∷ []))) (xs ++ y ∷ []) ≡ join_from n (eights (length xs)) xs * 256 + y
unfolding join_from
number_more n [] y = refl
number_more n (x ∷ xs) y = number_more (n * 256 + x) xs y

number_snoc : (xs : List ℕ) (y : ℕ) → number (xs ++ y ∷ []) ≡ number xs * 256 + y
unfolding number
number_snoc xs y = number_more 0 xs y

pub prefix_whole : (s : List ℕ) (n : ℕ) → Bytes s → prefix s (n * 8) ≡ number (take n s)
unfolding prefix
prefix_whole s n b =
    let q : n * 8 / 8 ≡ n = omega arith in
    let r : n * 8 % 8 ≡ 0 = omega arith in
    rw (q, r) (omega (arith, div-eq_of_lt (b n)))

pub prefix_none : (s : List ℕ) → Bytes s → prefix s 0 ≡ 0
unfolding number join_from
prefix_none s b = prefix_whole s 0 b

-- one bit more, in a byte that is stored or that is there already
module _ (s : List ℕ) (p b y : ℕ) (there : p / 8 < length s) (bytes : Bytes s)
    (e : y / 2 ^ (7 - p % 8) ≡ get_or s (p / 8) 0 / 2 ^ (8 - p % 8) * 2 + b) where
  inside : p % 8 < 7 → prefix (set s (p / 8) y) (p + 1) ≡ prefix s p * 2 + b
  unfolding prefix
  inside h =
      let q : (p + 1) / 8 ≡ p / 8 = omega arith in
      let r : (p + 1) % 8 ≡ p % 8 + 1 = omega arith in
      let k : 8 - (p % 8 + 1) ≡ 7 - p % 8 = omega arith in
      let l : p / 8 ≤ p / 8 = omega arith in
      rw (q, r, k, take-set-le (p / 8) s (p / 8) y l, get_or-set_same s (p / 8) y 0 there, e, pow-add 2 (p % 8) 1, ← mul_assoc) (omega arith)

  edge : p % 8 ≡ 7 → prefix (set s (p / 8) y) (p + 1) ≡ prefix s p * 2 + b
  unfolding prefix
  edge h =
      let q : (p + 1) / 8 ≡ suc (p / 8) = omega arith in
      let r : (p + 1) % 8 ≡ 0 = omega arith in
      let x : y ≡ get_or s (p / 8) 0 / 2 * 2 + b = sym (div-one y) ∙ rw h at e in
      let z : get_or (set s (p / 8) y) (suc (p / 8)) 0 / 256 ≡ 0 =
      rw (get_or-set_other s (p / 8) (suc (p / 8)) y 0 (λ i. omega arith)) (div-eq_of_lt (bytes (suc (p / 8)))) in
      rw (q, r, h, take-suc-set s (p / 8) y there, number_snoc) (omega arith)

  prefix_more : prefix (set s (p / 8) y) (p + 1) ≡ prefix s p * 2 + b
  prefix_more = ⊎_elim (λ h. edge h) (λ h. inside h) (eq-or-lt_of_le {n = p % 8} {m = 7} (omega arith))

-- a bit that is put, and one that is read
module _ (s : List ℕ) (p : ℕ) (there : p / 8 < length s) (bytes : Bytes s) where
  prefix_put : (b : ℕ) → prefix (set s (p / 8) (with_bit (get_or s (p / 8) 0) (p % 8) b)) (p + 1) ≡ prefix s p * 2 + b
  prefix_put b =
      prefix_more s p b (with_bit (get_or s (p / 8) 0) (p % 8) b) there bytes (shl-shr _ (7 - p % 8))

  prefix_read : prefix s (p + 1) ≡ prefix s p * 2 + bit_of (get_or s (p / 8) 0) (p % 8)
  prefix_read =
      let x : ℕ = get_or s (p / 8) 0 in
      let k : 7 - p % 8 + 1 ≡ 8 - p % 8 = omega arith in
      let e : x / 2 ^ (7 - p % 8) ≡ x / 2 ^ (8 - p % 8) * 2 + x / 2 ^ (7 - p % 8) % 2 =
      omega (arith, rw k at (shr-shr x (7 - p % 8) 1)) in
      rw (set-get_or s (p / 8) 0) at (prefix_more s p (x / 2 ^ (7 - p % 8) % 2) x there bytes e)

-- ---- a field's loops: where they start, and one turn

pub get_start : (s : List ℕ) (p : ℕ) → prefix s (p + 0) ≡ prefix s p * 2 ^ 0 + 0
get_start s p = rw (add-zero p) (omega arith)

pub get_turn : (s : List ℕ) (p k v b : ℕ) → (p + k) / 8 < length s → Bytes s → b ≡ bit_of (get_or s ((p + k) / 8) 0) ((p + k) % 8)
    → prefix s (p + k) ≡ prefix s p * 2 ^ k + v → prefix s (p + (k + 1)) ≡ prefix s p * 2 ^ (k + 1) + (v * 2 + b)
get_turn s p k v b there bytes h e =
    rw (← add_assoc p k 1, prefix_read s (p + k) there bytes, e, h, pow-add 2 k 1, ← mul_assoc) (omega arith)

pub twice_lt : (k v b : ℕ) → v < 2 ^ k → b < 2 → v * 2 + b < 2 ^ (k + 1)
twice_lt k v b h l = omega (arith, pow-add 2 k 1)

pub put_start : (s : List ℕ) (p w v : ℕ) → v < 2 ^ w → prefix s (p + 0) * 2 ^ (w - 0) + v % 2 ^ (w - 0) ≡ prefix s p * 2 ^ w + v
put_start s p w v h = let e : w - 0 ≡ w = omega arith in rw (add-zero p, e, mod-eq_of_lt h)

pub put_turn : (s t : List ℕ) (p w k v R : ℕ) → (p + k) / 8 < length s → Bytes s → k < w
    → t ≡ set s ((p + k) / 8) (with_bit (get_or s ((p + k) / 8) 0) ((p + k) % 8) (v / 2 ^ (w - 1 - k) % 2))
    → prefix s (p + k) * 2 ^ (w - k) + v % 2 ^ (w - k) ≡ R
    → prefix t (p + (k + 1)) * 2 ^ (w - (k + 1)) + v % 2 ^ (w - (k + 1)) ≡ R
put_turn s t p w k v R there bytes more e h =
    let j : ℕ = w - 1 - k in
    let i : w - k ≡ 1 + j = omega arith in
    let d : w - (k + 1) ≡ j = omega arith in
    rw (e, d, ← add_assoc p k 1, prefix_put s (p + k) there bytes (v / 2 ^ j % 2), add-mul)
    (omega (arith, rw (i, mod-pow-add v 1 j, pow-add 2 1 j, ← mul_assoc) at h))

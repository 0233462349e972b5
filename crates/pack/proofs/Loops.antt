-- The loops over a table of widths, in plain values: what holds at the start and after a turn, and what follows at the end.
use mathlib.Core.Path.{◌≡◌, refl, ◌∙◌, sym}
use Prim.Native.Nat.{ℕ, suc, ◌+◌, ◌*◌, ◌^◌, ◌<◌, ◌≤◌}
use mathlib.Core.List.{List, [], ◌∷◌, ◌++◌, append_assoc, append-nil}
use native.Mathlib.Omega.{arith}
use native.Mathlib.Numerals.{add-one}
use lib.ListN.{length, take, drop, get_or, set, take-append-drop, length-set, drop_of_length-le}
use lib.Seq.{drop-cons, take-suc-set, take_all, take-length, length-take-le}
use Rattle.pack.specs.Pack.{total, size, eights, join_from, cut, Fit, number, pack, unpack, Table}
use Rattle.pack.specs.Field.{prefix, Place, Got}
use Rattle.pack.proofs.Laws.{Bytes, cut_join, fit_length, fit_take}
use Rattle.pack.proofs.Bits.{prefix_whole, prefix_none}

-- how far a writer is in the table: the fields before i are in the number m, which has p bits
pub record Reached (ws vs : List ℕ) (m p i : ℕ) : Type 0 where
  pub upto : i ≤ length ws
  pub as_many : length vs ≡ length ws
  pub rest : p + total (drop i ws) ≡ total ws
  pub fit : Fit (drop i ws) (drop i vs)
  pub spelt : join_from m (drop i ws) (drop i vs) ≡ join_from 0 ws vs

pub reached_start : (ws vs : List ℕ) (m : ℕ) → Fit ws vs → m ≡ 0 → Reached ws vs m 0 0
reached_start ws vs m f z =
    record { upto = omega arith; as_many = fit_length ws vs f; rest = omega arith; fit = f; spelt = rw z }

module _ (ws vs : List ℕ) (m p i : ℕ) (table : Table ws) (h : Reached ws vs m p i) where
  module _ (more : i < length ws) where
    rest_cons : p + (get_or ws i 0 + total (drop (suc i) ws)) ≡ total ws
    unfolding total
    rest_cons = rw (drop-cons ws i 0) at h.rest

    fit_cons : (get_or vs i 0 < 2 ^ get_or ws i 0) × Fit (drop (suc i) ws) (drop (suc i) vs)
    unfolding Fit
    fit_cons = let l : i < length vs = omega (arith, h.as_many) in rw (drop-cons ws i 0, drop-cons vs i 0) at h.fit

    spelt_cons : join_from (m * 2 ^ get_or ws i 0 + get_or vs i 0) (drop (suc i) ws) (drop (suc i) vs) ≡ join_from 0 ws vs
    unfolding join_from
    spelt_cons = let l : i < length vs = omega (arith, h.as_many) in rw (drop-cons ws i 0, drop-cons vs i 0) at h.spelt

    pub reached_within : (p + get_or ws i 0 ≤ size ws * 8) × (p + get_or ws i 0 < 65536)
    reached_within = (omega (arith, rest_cons, table.whole), omega (arith, rest_cons, table.near))

    pub reached_place : (out : List ℕ) → size ws ≤ length out → Place out p (get_or ws i 0)
    reached_place out room = record { there = omega (arith, reached_within.0); near = reached_within.1; narrow = table.narrow i }

    pub reached_fits : get_or vs i 0 < 2 ^ get_or ws i 0
    reached_fits = fit_cons.0

    pub reached_turn : (k : ℕ) → k ≡ m * 2 ^ get_or ws i 0 + get_or vs i 0 → Reached ws vs k (p + get_or ws i 0) (i + 1)
    reached_turn k e =
        record {
          upto = omega arith;
          as_many = h.as_many;
          rest = rw add-one (omega (arith, rest_cons));
          fit = rw add-one fit_cons.1;
          spelt = rw (add-one, e) spelt_cons;
        }

  pub reached_end : length ws ≤ i → (p ≡ size ws * 8) × (m ≡ join_from 0 ws vs)
  unfolding total join_from
  reached_end done =
      let d : drop i ws ≡ [] = drop_of_length-le ws done in
      (omega (arith, rw d at h.rest, table.whole), rw d at h.spelt)

-- a buffer whose first bytes spell the fields
pub packed : (ws vs out : List ℕ) → size ws ≤ length out → Bytes out → number (take (size ws) out) ≡ join_from 0 ws vs
    → out ≡ pack ws vs ++ drop (size ws) out
unfolding pack number
packed ws vs out l b e =
    let n : length (take (size ws) out) ≡ size ws = length-take-le (size ws) out l in
    let front : cut (eights (size ws)) (join_from 0 ws vs) ≡ take (size ws) out =
    rw (← e, n) (cut_join (eights (size ws)) (take (size ws) out) 0 (fit_take 8 (size ws) out l b)) in
    rw front (sym (take-append-drop (size ws) out))

-- how far a reader is in the table: the fields before i are the first i of vs, and the first p bits of s spell them
pub record Getting (s ws vs₀ vs : List ℕ) (p i : ℕ) : Type 0 where
  pub upto : i ≤ length ws
  pub rest : p + total (drop i ws) ≡ total ws
  pub long : length vs ≡ length vs₀
  pub spelt : (r : List ℕ) → join_from (prefix s p) (drop i ws) r ≡ join_from 0 ws (take i vs ++ r)
  pub fit : (r : List ℕ) → Fit (drop i ws) r → Fit ws (take i vs ++ r)

pub getting_start : (s ws vs : List ℕ) → Bytes s → Getting s ws vs vs 0 0
getting_start s ws vs b =
    record {
      upto = omega arith;
      rest = omega arith;
      long = refl;
      spelt = λ r. rw (prefix_none s b);
      fit = λ r f. f;
    }

module _ (s ws vs₀ vs : List ℕ) (p i : ℕ) (asks : Table ws × (length s ≡ size ws) × (length vs₀ ≡ length ws)) (h : Getting s ws vs₀ vs p i) where
  module _ (more : i < length ws) where
    left_cons : p + (get_or ws i 0 + total (drop (suc i) ws)) ≡ total ws
    unfolding total
    left_cons = rw (drop-cons ws i 0) at h.rest

    pub getting_place : Place s p (get_or ws i 0)
    getting_place =
        record {
          there = omega (arith, left_cons, asks.0.whole, asks.1);
          near = omega (arith, left_cons, asks.0.near);
          narrow = asks.0.narrow i;
        }

    module _ (x : ℕ) (got : Got s p (get_or ws i 0) x) where
      next : take (suc i) (set vs i x) ≡ take i vs ++ x ∷ []
      next = take-suc-set vs i x (omega (arith, h.long, asks.2))

      spelt_more : (r : List ℕ) → join_from (prefix s p * 2 ^ get_or ws i 0 + x) (drop (suc i) ws) r ≡ join_from 0 ws (take i vs ++ x ∷ r)
      unfolding join_from
      spelt_more r = rw (drop-cons ws i 0) at (h.spelt (x ∷ r))

      fit_more : (r : List ℕ) → Fit (drop (suc i) ws) r → Fit ws (take i vs ++ x ∷ r)
      unfolding Fit
      fit_more r f = h.fit (x ∷ r) (rw (drop-cons ws i 0) (got.fits, f))

      pub getting_turn : Getting s ws vs₀ (set vs i x) (p + get_or ws i 0) (i + 1)
      getting_turn =
          record {
            upto = omega arith;
            rest = rw add-one (omega (arith, left_cons));
            long = length-set vs i x ∙ h.long;
            spelt = λ r. rw (add-one, got.spelt, next, append_assoc) (spelt_more r);
            fit = λ r f. rw (add-one, next, append_assoc) (fit_more r (rw add-one at f));
          }

  module _ (bytes : Bytes s) (done : length ws ≤ i) where
    all_read : take i vs ++ [] ≡ vs
    all_read = append-nil (take i vs) ∙ take_all i vs (omega (arith, h.long, asks.2))

    all_fit : Fit ws vs
    unfolding Fit
    all_fit = rw all_read at (h.fit [] (rw (drop_of_length-le ws done) tt))

    all_spelt : number s ≡ join_from 0 ws vs
    unfolding total join_from
    all_spelt =
        let d : drop i ws ≡ [] = drop_of_length-le ws done in
        let e : p ≡ length s * 8 = omega (arith, rw d at h.rest, asks.0.whole, asks.1) in
        let f : number s ≡ number (take (length s) s) = rw (take-length s) in
        f ∙ sym (prefix_whole s (length s) bytes) ∙ rw (d, e, all_read) at (h.spelt [])

    pub getting_end : vs ≡ unpack ws s
    unfolding unpack
    getting_end = rw all_spelt (sym (cut_join ws vs 0 all_fit))

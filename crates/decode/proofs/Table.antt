-- What stands at a place of a table is what its formats say of that place.
use mathlib.Core.Path.{◌≡◌, ◌∙◌, ap, sym, refl}
use mathlib.Core.List.{List, [], ◌∷◌}
use Prim.Native.Nat.{ℕ, zero, suc, ◌+◌, ◌<◌, ◌≤◌}
use native.Mathlib.Nat.{add-zero, zero-add, add-suc, suc-add, le_of_suc-le-suc, not-suc-le-zero}
use lib.ListN.{get_or, get_or-eq_default}
use Rattle.decode.specs.Format.{Format, entry_of, values}
use Rattle.decode.specs.Opening.{tables_of, tabled, entered, openings}

from : (f : ℕ → ℕ) (n i k : ℕ) → k < n → get_or (values f i n) k 0 ≡ f (i + k)
from f zero i k h = absurd (not-suc-le-zero h)
from f (suc n) i zero h = ap f (sym (add-zero i))
from f (suc n) i (suc k) h = from f n (suc i) k (le_of_suc-le-suc h) ∙ ap f (suc-add i k ∙ sym (add-suc i k))

values_at : (f : ℕ → ℕ) (n k : ℕ) → k < n → get_or (values f 0 n) k 0 ≡ f k
values_at f n k h = from f n 0 k h ∙ ap f (zero-add k)

entry_at : (os : List (List Format)) (o b : ℕ) → b < 256 → get_or (get_or (tables_of os) o []) b 0 ≡ entry_of (get_or os o []) b
entry_at [] o b h = refl
entry_at (fs ∷ os) zero b h = values_at (entry_of fs) 256 b h
entry_at (fs ∷ os) (suc o) b h = entry_at os o b h

pub entered_at : (o b : ℕ) → b < 256 → get_or (get_or tabled o []) b 0 ≡ entered o b
unfolding tabled entered
entered_at = entry_at openings

pub entered_past : (o b : ℕ) → 9 ≤ o → 0 ≡ entered o b
unfolding entered
entered_past o b h = sym (ap (λ (fs : List Format). entry_of fs b) (get_or-eq_default openings [] h))

-- The bytes of an instruction in a kept page.
use Rattle.std.specs.Prelude.{Ok}
use Prim.Native.Nat.{ℕ, zero, suc, ◌+◌, ◌/◌, ◌%◌, ◌≤◌}
use mathlib.Core.Path.{◌≡◌, refl, sym, ◌∙◌, ap}
use mathlib.Core.Bool.{Bool, true, false}
use mathlib.Core.List.{List}
use native.Mathlib.Omega.{arith}
use lib.Dec.{eqb}
use lib.ListN.{length, get_or}
use Rattle.bus.specs.Access.{next, read_from, and_then, got_many}
use Rattle.kept.specs.Kept.{Right, Inside}
use Rattle.kept.proofs.Kept.{reads}
use Rattle.served.specs.declared.kinds.Code.{Code}
use Rattle.served.specs.Served.{Fetched, behind}

module _ (kept w : List ℕ) (u : Bool) (mmu : ℕ) (ds : List ℕ) (R : Right kept u mmu ds) (N : Inside kept (length w)) (P : ℕ) (s : eqb (get_or kept (16 + P) 0) 1 ≡ false) (b : P ≤ 15) where
  pub one : (at p : ℕ) → at / 4096 ≡ P → p ≡ get_or kept (16 + P) 0 + at % 4096 → read_from u mmu ds w true at ≡ Ok (get_or w p 0)
  one at p h e =
      ap (λ t. read_from u mmu ds w t at) (sym (ap (λ x. eqb x 1) page)) ∙
      reads kept w u mmu ds (16 + P) at R N (omega (arith, b)) (ap (λ x. eqb x 2) page) s (omega (arith, h, b)) (omega (arith, h, b)) ∙
      ap (λ x. Ok (get_or w x 0)) (sym e)
    where
      page : (16 + P) / 16 ≡ 1
      page = omega (arith, b)

  pub bytes : (k at p : ℕ) → at / 4096 ≡ P → p ≡ get_or kept (16 + P) 0 + at % 4096 → at % 4096 + k ≤ 4095 → got_many k u mmu ds w true at ≡ Ok (behind k w p)
  unfolding got_many behind and_then
  bytes zero at p h e r = refl
  bytes (suc k) at p h e r =
      rw (one at p h e, bytes k (next at) (p + 1) (omega (arith, h, b, r)) (omega (arith, h, e, b, r)) (omega (arith, h, b, r)))

pub behind_is : (kept w : List ℕ) (q : Code) → Fetched kept w q → (k : ℕ) → k ≤ 4 → (u : Bool) (mmu : ℕ) (ds : List ℕ) → Right kept u mmu ds →
    got_many k u mmu ds w true q.at ≡ Ok (behind k w q.p)
behind_is kept w q F k h u mmu ds R =
    bytes kept w u mmu ds R F.inside (q.at / 4096) F.stands.some F.stands.page k q.at q.p refl F.stands.place (omega (arith, h, F.stands.room))

-- What is tried is what the operation does, or it is an exchange.
use Prim.Native.Nat.{ℕ, ◌+◌, ◌-◌}
use Rattle.std.specs.Prelude.{Some, None}
use mathlib.Core.Path.{◌≡◌, refl, sym, ◌∙◌}
use mathlib.Core.Bool.{Bool, true, false, cond}
use native.Mathlib.Omega.{arith}
use borrow.Author.Tests.{ltb-false}
use lib.Dec.{ltb}
use Rattle.regs.specs.declared.Regs.{Regs}
use Rattle.plan.specs.declared.kinds.Ins.{Ins}
use Rattle.plan.specs.declared.kinds.Spot.{Spot}
use Rattle.plan.specs.declared.kinds.Done.{Done}
use Rattle.execute.specs.Execute.{execute_by, execute_of}
use Rattle.execute.specs.Tried.{swaps, tried_by, tried_of}

back : (op : ℕ) → ltb op 24 ≡ false → op - 24 + 24 ≡ op
back op h = omega (arith, ltb-false op 24 h)

module _ (r : Regs) (u : Bool) (i : Ins) (s : Spot) (v : ℕ) (h : ltb i.op 24 ≡ false) where
  is : tried_of r u i s v ≡ cond (swaps i.op) None (Some (execute_by (i.op - 24) r u i s v))
  unfolding tried_of tried_by
  is = rw (h, back i.op h)

  pub known_is : (d : Done) → tried_of r u i s v ≡ Some d → d ≡ execute_of r u i s v
  unfolding execute_of
  known_is d e = rw h (go (swaps i.op) (sym is ∙ e))
    where
      go : (t : Bool) → cond t None (Some (execute_by (i.op - 24) r u i s v)) ≡ Some d → d ≡ execute_by (i.op - 24) r u i s v
      go true p = let z : ◌≡◌ {A = ℕ} 0 1 = cc in absurd (omega arith)
      go false p = cc

  pub left_swaps : tried_of r u i s v ≡ None → swaps i.op ≡ true
  left_swaps e = go (swaps i.op) refl (sym is ∙ e)
    where
      go : (t : Bool) → swaps i.op ≡ t → cond t None (Some (execute_by (i.op - 24) r u i s v)) ≡ None → swaps i.op ≡ true
      go true q p = q
      go false q p = let z : ◌≡◌ {A = ℕ} 0 1 = cc in absurd (omega arith)

-- Which operations have to do with the alternate registers; what is past the last.
use Prim.Native.Nat.{ℕ, ◌+◌, ◌-◌, ◌≤◌}
use Rattle.std.specs.Prelude.{Some}
use mathlib.Core.Path.{◌≡◌, refl, sym, ◌∙◌}
use mathlib.Core.Bool.{Bool, true, false}
use native.Mathlib.Omega.{arith}
use borrow.Author.Tests.{ne_eqb, le-ltb}
use lib.ListN.{get_or-eq_default}
use Rattle.regs.specs.declared.Regs.{Regs}
use Rattle.plan.specs.declared.kinds.Ins.{Ins}
use Rattle.plan.specs.declared.kinds.Spot.{Spot}
use Rattle.plan.specs.declared.kinds.Done.{Done}
use Rattle.plan.specs.Kinds.{quiet}
use Rattle.jump.specs.Jump.{jumping, relative, jaf_of, jar_of}
use Rattle.execute.specs.Execute.{members, execute_by, execute_of}
use Rattle.execute.specs.Tried.{swaps, tried_by, tried_of}

none_of : (x : ℕ) → (x ≡ 37 → ⊥) → (x ≡ 38 → ⊥) → (x ≡ 104 → ⊥) → (x ≡ 105 → ⊥) → swaps x ≡ false
unfolding swaps
none_of x a b c d = rw (ne_eqb x 37 a, ne_eqb x 38 b, ne_eqb x 104 c, ne_eqb x 105 d)

pub no_swap : (x : ℕ) → (x ≡ 37 → ⊥) → (x ≡ 38 → ⊥) → (x ≡ 104 → ⊥) → (x ≡ 105 → ⊥) → swaps x ≡ true → ⊥
no_swap x a b c d h =
    let k : ◌≡◌ {A = Bool} false true = sym (none_of x a b c d) ∙ h in
    let z : ◌≡◌ {A = ℕ} 0 1 = cc in omega arith

-- past the last operation nothing is done
pub far : (r : Regs) (u : Bool) (i : Ins) (s : Spot) (v : ℕ) → 116 ≤ i.op → Some (quiet r) ≡ tried_of r u i s v
unfolding tried_of tried_by execute_by
far r u i s v h =
    rw (
      le-ltb i.op 24 (omega (arith, h)),
      back,
      none_of i.op (λ e. omega (arith, h, e)) (λ e. omega (arith, h, e)) (λ e. omega (arith, h, e)) (λ e. omega (arith, h, e)),
      get_or-eq_default (members r u i s v) (quiet r) rest,
    )
  where
    rest : 92 ≤ i.op - 24
    rest = omega (arith, h)

    back : i.op - 24 + 24 ≡ i.op
    back = omega (arith, h)

-- JAF and JAR end with registers alone, whether they jump or not
quiet_jump : (r : Regs) (t : Bool) (a : ℕ) → quiet (jumping r t a).regs ≡ jumping r t a
unfolding jumping
quiet_jump r true a = refl
quiet_jump r false a = refl

module _ (r : Regs) (u : Bool) (i : Ins) (s : Spot) (v : ℕ) (d : Done) (x : Regs) (p : x ≡ d.regs) where
  pub jaf_is : i.op ≡ 104 → d ≡ jaf_of r i → quiet x ≡ execute_of r u i s v
  unfolding execute_of execute_by jaf_of
  jaf_is h e = rw (h, p, e) (quiet_jump r r.bankaf (relative i))

  pub jar_is : i.op ≡ 105 → d ≡ jar_of r i → quiet x ≡ execute_of r u i s v
  unfolding execute_of execute_by jar_of
  jar_is h e = rw (h, p, e) (quiet_jump r r.bankx (relative i))

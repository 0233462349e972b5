-- The table has 808 bits, and the fields of an allowed machine fit it.
use mathlib.Core.Path.{◌≡◌, refl}
use mathlib.Core.Bool.{Bool, true, false, ◌&&◌, and-eq-true_iff}
use mathlib.Core.List.{List, [], ◌∷◌, ◌++◌}
use Prim.Native.Nat.{ℕ, zero, suc, ◌%◌, ◌<◌, ◌≤◌}
use native.Mathlib.Omega.{arith}
use lib.Bits.{bit_and}
use lib.Dec.{leb, ltb, eqb, lit<}
use lib.ListN.{replicate, get_or}
use borrow.Author.Tests.{leb-true, ltb-true, eqb-true}
use Rattle.pack.specs.Pack.{total, size, Fit, Table}
use Rattle.pack.proofs.Laws.{fit_append, fit_all}
use Rattle.regs.specs.declared.Machine.{Machine}
use Rattle.legal.specs.Legal.{allowed_bits}
use Rattle.legal.specs.Held.{Held}
use Rattle.form.specs.Form.{bit_for, widths, fields_of, regs_fields, control_fields}

both : (a b : Bool) → a && b ≡ true → (a ≡ true) × (b ≡ true)
both a b e = (and-eq-true_iff a b).0 e

-- a bound of all widths, by one test
abbrev all_le : ℕ → List ℕ → Bool
all_le b [] = true
all_le b (w ∷ ws) = leb w b && all_le b ws

all_le_lem : (b : ℕ) (ws : List ℕ) → all_le b ws ≡ true → (i : ℕ) → get_or ws i 0 ≤ b
all_le_lem b [] t i = omega arith
all_le_lem b (w ∷ ws) t zero = leb-true w b (both (leb w b) (all_le b ws) t).0
all_le_lem b (w ∷ ws) t (suc i) = all_le_lem b ws (both (leb w b) (all_le b ws) t).1 i

pub table : Table widths
unfolding widths total size
table = record { whole = refl; near = lit< tt; narrow = all_le_lem 16 widths refl }

-- what an allowed machine's control registers are
pub record Allowed (m : Machine) : Type 0 where
  pub tcr : m.ctl.tcr < 8
  pub limit : m.ctl.limit % 16 ≡ 0
  pub vector : m.ctl.vector % 16 ≡ 0

pub allowed_is : (m : Machine) → allowed_bits m ≡ true → Allowed m
unfolding allowed_bits
allowed_is m e =
    let c = m.ctl in
    let msr : Bool = eqb (bit_and c.msr 0x537f) c.msr in
    let tcr : Bool = ltb c.tcr 8 in
    let limit : Bool = eqb (c.limit % 16) 0 in
    let vector : Bool = eqb (c.vector % 16) 0 in
    let p = (both (msr && tcr && limit && vector) (eqb (bit_and m.mmu 0xcc1f) m.mmu) e).0 in
    let q = both (msr && tcr && limit) vector p in
    let r = both (msr && tcr) limit q.0 in
    record { tcr = ltb-true _ _ (both msr tcr r.0).1; limit = eqb-true _ _ r.1; vector = eqb-true _ _ q.1 }

bit_lt : (b : Bool) → bit_for b < 2
bit_lt true = lit< tt
bit_lt false = lit< tt

module _ (m : Machine) (h : Held m) where
  regs_fit : Fit (replicate 13 16 ++ 1 ∷ 1 ∷ []) (regs_fields m.regs)
  unfolding Fit
  regs_fit = let r = h.regs in (r.af, (r.bc, (r.de, (r.hl, (r.af2, (r.bc2, (r.de2, (r.hl2, (r.ix, (r.iy, (r.pc, (r.ssp, (r.usp, (bit_lt m.regs.bankaf, (bit_lt m.regs.bankx, tt)))))))))))))))

  control_fit : Allowed m → Fit (16 ∷ 3 ∷ 8 ∷ 12 ∷ 12 ∷ []) (control_fields m.ctl)
  unfolding Fit
  control_fit a = let c = h.ctl in (c.msr, (a.tcr, (c.iopage, (omega (arith, c.limit), (omega (arith, c.vector), tt)))))

  ds_fit : Fit (replicate 32 16) m.ds
  ds_fit = rw h.long at (fit_all 16 m.ds (λ i. (h.ds i).fits))

  rest_fit : Fit (16 ∷ replicate 32 16 ++ 7 ∷ []) (m.mmu ∷ m.ds ++ 0 ∷ [])
  unfolding Fit
  rest_fit = (h.mmu, fit_append (replicate 32 16) m.ds (7 ∷ []) (0 ∷ []) ds_fit (lit< tt, tt))

  pub fields_fit : (f : ℕ) → allowed_bits m ≡ true → 1 ≤ f → f ≤ 16 → Fit widths (fields_of m f)
  unfolding Fit widths fields_of
  fields_fit f a l k =
      let cs : List ℕ = 16 ∷ 3 ∷ 8 ∷ 12 ∷ 12 ∷ [] in
      let ws : List ℕ = 16 ∷ replicate 32 16 ++ 7 ∷ [] in
      let vs : List ℕ = m.mmu ∷ m.ds ++ 0 ∷ [] in
      let c : Fit (cs ++ ws) (control_fields m.ctl ++ vs) = fit_append cs (control_fields m.ctl) ws vs (control_fit (allowed_is m a)) rest_fit in
      (lit< tt, (omega arith, fit_append (replicate 13 16 ++ 1 ∷ 1 ∷ []) (regs_fields m.regs) (cs ++ ws) (control_fields m.ctl ++ vs) regs_fit c))

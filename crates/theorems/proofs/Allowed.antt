-- The bits that may be set: loading a control register and writing the last faulting descriptor set no other.
use Prim.Native.Nat.{ℕ, zero, suc, ◌+◌, ◌*◌, ◌-◌, ◌/◌, ◌%◌, ◌<◌, min}
use mathlib.Core.Path.{◌≡◌, refl, sym, ◌∙◌, ap}
use mathlib.Core.Bool.{Bool, true, false, cond, ◌&&◌, and-eq-true_iff}
use mathlib.Core.List.{List, [], ◌∷◌}
use native.Mathlib.Omega.{arith}
use lib.Arith.{bin_ind}
use lib.Bits.{bit_and, bit_or, and_step, and_shr, and_block, and_mask}
use lib.Dec.{eqb, ltb, lit<}
use lib.ListN.{get_or}
use borrow.Author.Tests.{eqb-true, ltb-true, eq-eqb, lt-ltb}
use Rattle.mmu.specs.Translate.{latched}
use Rattle.regs.specs.declared.Regs.{Regs}
use Rattle.regs.specs.declared.Control.{Control}
use Rattle.regs.specs.declared.Machine.{Machine}
use Rattle.regs.specs.Change.{load_msr, load_tcr, load_iopage, load_limit, load_vector}
use Rattle.regs.specs.Select.{low, index_of}
use Rattle.plan.specs.declared.kinds.Ins.{Ins}
use Rattle.plan.specs.declared.kinds.Governed.{Governed}
use Rattle.plan.specs.Kinds.{word}
use Rattle.legal.specs.Legal.{allowed_control, allowed_bits}
use Rattle.govern.specs.Govern.{ending, masked, disabled, enabled, di_of, ei_of, di_n, ei_n, put_control_at, ldctl_xx_c, ldctl_c_xx, ldctl_usp, retil_of, governings, governing_by, govern_of}

-- a mask taken twice
halves : (x y p q : ℕ) → x ≡ y * 2 + min (p % 2) (q % 2) → (x / 2 ≡ y) × (min (x % 2) (q % 2) ≡ min (p % 2) (q % 2))
halves x y p q e = (omega arith, omega arith)

mask_again : (a k : ℕ) → bit_and (bit_and a k) k ≡ bit_and a k
mask_again =
    bin_ind (λ (n : ℕ). (k : ℕ) → bit_and (bit_and n k) k ≡ bit_and n k) (λ k. refl)
    (λ n ih k. again n k (ih (k / 2)))
  where
    again : (n k : ℕ) → bit_and (bit_and (n / 2) (k / 2)) (k / 2) ≡ bit_and (n / 2) (k / 2) → bit_and (bit_and n k) k ≡ bit_and n k
    again n k h =
        let (x, y) = halves (bit_and n k) (bit_and (n / 2) (k / 2)) n k (and_step n k) in
        and_step (bit_and n k) k ∙
        ap (λ (z : ℕ). bit_and z (k / 2) * 2 + min (bit_and n k % 2) (k % 2)) x ∙
        ap (λ (z : ℕ). z * 2 + min (bit_and n k % 2) (k % 2)) h ∙
        ap (λ (z : ℕ). bit_and (n / 2) (k / 2) * 2 + z) y ∙ sym (and_step n k)

-- the last faulting descriptor may be any
low_five : (i : ℕ) → i % 32 < 32
low_five i = omega arith

mod_again : (i : ℕ) → i % 32 % 32 ≡ i % 32
mod_again i = omega arith

pub latched_allowed : (i m : ℕ) → bit_and m 0xcc1f ≡ m → bit_and (latched i m) 0xcc1f ≡ latched i m
latched_allowed i m h =
    and_block 5 (m / 32) 1632 (i % 32) 31 (low_five i) (lit< tt) ∙
    ap (λ (x : ℕ). x * 32 + bit_and (i % 32) 31) (sym (and_shr m 0xcc1f 5) ∙ ap (λ (x : ℕ). x / 32) h) ∙
    ap (λ (x : ℕ). m / 32 * 32 + x) (and_mask (i % 32) 5 ∙ mod_again i)

pub record Fine (c : Control) : Type 0 where
  pub msr : bit_and c.msr 0x537f ≡ c.msr
  pub tcr : c.tcr < 8
  pub limit : c.limit % 16 ≡ 0
  pub vector : c.vector % 16 ≡ 0

both : (a b : Bool) → a && b ≡ true → (a ≡ true) × (b ≡ true)
both a b e = (and-eq-true_iff a b).0 e

pub allowed_fine : (c : Control) → allowed_control c ≡ true → Fine c
allowed_fine c e =
    let msr : Bool = eqb (bit_and c.msr 0x537f) c.msr in
    let tcr : Bool = ltb c.tcr 8 in
    let limit : Bool = eqb (c.limit % 16) 0 in
    let p = both (msr && tcr && limit) (eqb (c.vector % 16) 0) e in
    let q = both (msr && tcr) limit p.0 in
    let r = both msr tcr q.0 in
    record {
      msr = eqb-true _ _ r.0;
      tcr = ltb-true _ _ r.1;
      limit = eqb-true _ _ q.1;
      vector = eqb-true _ _ p.1;
    }

pub fine_allowed : (c : Control) → Fine c → allowed_control c ≡ true
fine_allowed c f =
    rw (eq-eqb _ _ f.msr, lt-ltb _ _ f.tcr, eq-eqb _ _ f.limit, eq-eqb _ _ f.vector)

pub allowed_parts : (m : Machine) → allowed_bits m ≡ true → Fine m.ctl × (bit_and m.mmu 0xcc1f ≡ m.mmu)
unfolding allowed_bits
allowed_parts m e =
    let p = both (allowed_control m.ctl) (eqb (bit_and m.mmu 0xcc1f) m.mmu) e in
    (allowed_fine m.ctl p.0, eqb-true _ _ p.1)

pub parts_allowed : (m : Machine) → Fine m.ctl → bit_and m.mmu 0xcc1f ≡ m.mmu → allowed_bits m ≡ true
unfolding allowed_bits
parts_allowed m f h = rw (fine_allowed m.ctl f, eq-eqb _ _ h)

-- ── loading a control register ──

pub msr_fine : (v : ℕ) (c : Control) → Fine c → Fine (load_msr v c)
msr_fine v c f = record { msr = mask_again v 0x537f; tcr = f.tcr; limit = f.limit; vector = f.vector }

tcr_fine : (v : ℕ) (c : Control) → Fine c → Fine (load_tcr v c)
tcr_fine v c f = record { msr = f.msr; tcr = omega arith; limit = f.limit; vector = f.vector }

iopage_fine : (v : ℕ) (c : Control) → Fine c → Fine (load_iopage v c)
iopage_fine v c f = record { msr = f.msr; tcr = f.tcr; limit = f.limit; vector = f.vector }

limit_fine : (v : ℕ) (c : Control) → Fine c → Fine (load_limit v c)
limit_fine v c f = record { msr = f.msr; tcr = f.tcr; limit = omega arith; vector = f.vector }

vector_fine : (v : ℕ) (c : Control) → Fine c → Fine (load_vector v c)
vector_fine v c f = record { msr = f.msr; tcr = f.tcr; limit = f.limit; vector = omega arith }

choose : (b : Bool) (c d : Control) → Fine c → Fine d → Fine (cond b c d)
choose true c d f g = f
choose false c d f g = g

put_fine : (k v : ℕ) (c : Control) → Fine c → Fine (put_control_at k v c)
unfolding put_control_at
put_fine k v c f =
    choose (eqb k 0x00) _ _ (msr_fine v c f)
    (choose (eqb k 0x04) _ _ (limit_fine v c f)
    (choose (eqb k 0x06) _ _ (vector_fine v c f)
    (choose (eqb k 0x08) _ _ (iopage_fine v c f)
    (choose (eqb k 0x10) _ _ (tcr_fine v c f) f))))

-- ── the instructions that govern ──

disabled_fine : (k : ℕ) (c : Control) → Fine c → Fine (disabled k c)
unfolding disabled
disabled_fine k c f = msr_fine (bit_and c.msr (0xFFFF - k)) c f

enabled_fine : (k : ℕ) (c : Control) → Fine c → Fine (enabled k c)
unfolding enabled
enabled_fine k c f = msr_fine (bit_or c.msr k) c f

abbrev All : List Governed → Type 0
All [] = Unit {0}
All (g ∷ gs) = Fine g.ctl × All gs

all_at : (gs : List Governed) (d : Governed) (k : ℕ) → All gs → Fine d.ctl → Fine (get_or gs k d).ctl
all_at [] d k a h = h
all_at (g ∷ gs) d zero a h = a.0
all_at (g ∷ gs) d (suc k) a h = all_at gs d k a.1 h

govern_by : (b : Bool) (g h : Governed) → Fine g.ctl → Fine h.ctl → Fine (cond b g h).ctl
govern_by true g h x y = x
govern_by false g h x y = y

pub govern_fine : (r : Regs) (c : Control) (i : Ins) (v : ℕ) → Fine c → Fine (govern_of r c i v).ctl
unfolding govern_of governing_by di_of ei_of di_n ei_n ldctl_xx_c ldctl_c_xx ldctl_usp retil_of
govern_fine r c i v f =
    govern_by (ltb i.op 16) (ending r c) (governing_by (i.op - 16) r c i v) f
    (all_at (governings r c i v) (ending r c) (i.op - 16) (
      disabled_fine 0x7F c f,
      (
        enabled_fine 0x7F c f,
        (
          disabled_fine (masked i) c f,
          (
            enabled_fine (masked i) c f,
            (
              f,
              (
                put_fine (low r.bc) (index_of i.opening r) c f,
                (
                  govern_by (eqb (i.code / 8 % 2) 0) _ _ f f,
                  (msr_fine (word v) c f, tt),
                ),
              ),
            ),
          ),
        ),
      ),
    )
    f)

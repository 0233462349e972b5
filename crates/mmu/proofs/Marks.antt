-- What the marks of a descriptor and the last faulting descriptor leave alone.
use Prim.Native.Nat.{ℕ, ◌*◌, ◌/◌, ◌%◌, ◌-◌}
use mathlib.Core.Path.{◌≡◌, refl, ap}
use mathlib.Core.Bool.{Bool, true, false, cond}
use mathlib.Core.List.{List}
use native.Mathlib.Omega.{arith}
use borrow.Author.Tests.{eqb-true, eqb-false, ltb-true, ltb-false}
use lib.Dec.{ltb, eqb}
use lib.ListN.{length, get_or}
use lib.Seq.{get_or-set_same, get_or-set_other, set_out}
use Rattle.mmu.specs.Translate.{mode_bits, latched, valid, set_modified, set_valid, clear_valid, change}

-- ── one descriptor ──

clear_bit : (d : ℕ) → clear_valid d / 8 % 2 ≡ 0
clear_bit d = omega arith

pub valid_clear : (d : ℕ) → valid (clear_valid d) ≡ false
valid_clear d = ap (λ (x : ℕ). eqb x 1) (clear_bit d)

pub clear_twice : (d : ℕ) → clear_valid (clear_valid d) ≡ clear_valid d
clear_twice d = omega arith

set_clear_bit : (d : ℕ) → d / 8 % 2 ≡ 1 → set_valid (clear_valid d) ≡ d
set_clear_bit d h = omega arith

pub set_clear : (d : ℕ) → valid d ≡ true → set_valid (clear_valid d) ≡ d
set_clear d h = set_clear_bit d (eqb-true (d / 8 % 2) 1 h)

pub modified_half : (d : ℕ) → set_modified d / 2 ≡ d / 2
modified_half d = omega arith

modified_eighth : (d : ℕ) → set_modified d / 8 ≡ d / 8
modified_eighth d = omega arith

pub valid_modified : (d : ℕ) → valid (set_modified d) ≡ valid d
valid_modified d = ap (λ (x : ℕ). eqb (x % 2) 1) (modified_eighth d)

clear_half : (d : ℕ) → clear_valid d / 2 ≡ d / 2 - 4 * (d / 8 % 2)
clear_half d = omega arith

pub clear_modified : (d : ℕ) → clear_valid (set_modified d) ≡ set_modified (clear_valid d)
clear_modified d = rw (modified_eighth, clear_half) (omega arith)

-- ── the 32 ──

pub get_or_change : (f : ℕ → ℕ) (i : ℕ) (ds : List ℕ) (j : ℕ) →
    get_or (change f i ds) j 0 ≡ cond (eqb j i) (cond (ltb i (length ds)) (f (get_or ds j 0)) (get_or ds j 0)) (get_or ds j 0)
get_or_change f i ds j = go (eqb j i) refl (ltb i (length ds)) refl
  where
    go : (b : Bool) → eqb j i ≡ b → (c : Bool) → ltb i (length ds) ≡ c →
        get_or (change f i ds) j 0 ≡ cond b (cond c (f (get_or ds j 0)) (get_or ds j 0)) (get_or ds j 0)
    go true p true q = rw (eqb-true j i p) (get_or-set_same ds i (f (get_or ds i 0)) 0 (ltb-true i (length ds) q))
    go true p false q = rw (set_out ds i (f (get_or ds i 0)) (ltb-false i (length ds) q))
    go false p c q = get_or-set_other ds i j (f (get_or ds i 0)) 0 (eqb-false j i p)

-- ── MMU control ──

pub latched_kept : (i m : ℕ) → latched i m / 32 ≡ m / 32
latched_kept i m = omega arith

system_field : (m : ℕ) → m / 32 / 32 ≡ m / 0x0400
system_field m = omega arith

user_field : (m : ℕ) → m / 32 / 512 ≡ m / 0x4000
user_field m = omega arith

-- the last faulting descriptor decides nothing
pub mode_same : (m n : ℕ) (user : Bool) → n / 32 ≡ m / 32 → mode_bits n user ≡ mode_bits m user
unfolding mode_bits
mode_same m n true h = rw (← (user_field m), ← (user_field n), h)
mode_same m n false h = rw (← (system_field m), ← (system_field n), h)

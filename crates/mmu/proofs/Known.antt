-- Which bits of MMU control the mode bits are; then P1, P2 and P3.
use Prim.Native.Nat.{ℕ, ◌/◌, ◌%◌}
use mathlib.Core.Path.{◌≡◌, refl, ap, ◌∙◌}
use mathlib.Core.Bool.{Bool, true, false, cond}
use native.Mathlib.Omega.{arith}
use lib.Dec.{eqb}
use Rattle.mmu.specs.Translate.{bit, mode_bits, translating, separated, valid, protected, barred, index, number_of, physical, by_descriptor, placed, translate}
use Rattle.mmu.specs.Known.{P1, Separated, P2, P3}

user_translate : (c : ℕ) → c / 0x4000 % 4 / 2 % 2 ≡ c / 0x8000 % 2
user_translate c = omega arith

system_translate : (c : ℕ) → c / 0x0400 % 4 / 2 % 2 ≡ c / 0x0800 % 2
system_translate c = omega arith

lower : (x : ℕ) → x % 4 % 2 ≡ x % 2
lower x = omega arith

-- UTE and STE
pub translating_is : (c : ℕ) (user : Bool) → translating (mode_bits c user) ≡ cond user (bit 0x8000 c) (bit 0x0800 c)
unfolding mode_bits
translating_is c true = ap (λ (x : ℕ). eqb x 1) (user_translate c)
translating_is c false = ap (λ (x : ℕ). eqb x 1) (system_translate c)

-- UPD and SPD
pub separated_is : (c : ℕ) (user : Bool) → separated (mode_bits c user) ≡ cond user (bit 0x4000 c) (bit 0x0400 c)
unfolding mode_bits
separated_is c true = ap (λ (x : ℕ). eqb x 1) (lower (c / 0x4000))
separated_is c false = ap (λ (x : ℕ). eqb x 1) (lower (c / 0x0400))

open_page : (write : Bool) → cond write false false ≡ false
open_page true = refl
open_page false = refl

pub p1 : P1
unfolding translate placed number_of index by_descriptor barred physical
p1 control ds program on whole h write =
    rw (translating_is control true ∙ on, separated_is control true ∙ whole, h, open_page write) refl

-- the frame field's lowest bit decides nothing
separate : (d : ℕ) → valid d ≡ true → protected d ≡ false → d / 32 ≡ 5 → Separated d
unfolding translate placed number_of index by_descriptor barred physical
separate d v g f control ds on apart h write =
    rw (translating_is control true ∙ on, separated_is control true ∙ apart, h, v, g, open_page write, f) refl

pub p2 : P2
p2 = separate 0x00A8 refl refl refl

pub p3 : P3
p3 = separate 0x00B8 refl refl refl

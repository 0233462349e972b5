-- Known step P10 of document 01: signed multiply of 80h by 80h gives 4000h, for every old F.
use Rattle.std.specs.Prelude.{◌≡◌, ℕ}
use Rattle.products.specs.Products.{mult_of}

abbrev pub P10 : Type 0
P10 = (f : ℕ) → (mult_of 8 0x80 0x80 f).value ≡ 0x4000

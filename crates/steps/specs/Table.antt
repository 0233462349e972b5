-- A table of kept places, with the mode and the descriptors that it was filled for.
use Rattle.std.specs.Prelude.{ℕ, ◌≡◌, Bool, List, length}
use Rattle.mmu.specs.Translate.{mode_bits}
use Rattle.kept.specs.Kept.{Right, Inside}

-- size: memory's length
pub record Table (kept : List ℕ) (user : Bool) (bits : ℕ) (ds : List ℕ) (size : ℕ) : Type 0 where
  pub right : (mmu : ℕ) → bits ≡ mode_bits mmu user → Right kept user mmu ds
  pub inside : Inside kept size
  pub len : length kept ≡ 48

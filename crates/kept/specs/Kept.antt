-- Kept places: for each page of 4,096 logical addresses and each kind of access the physical address of the page's first byte, where
-- translation is known to give it. An entry 1, which begins no page, says that nothing is kept.
-- Seats 0 to 15 are for reads by data, 16 to 31 for reads by program, 32 to 47 for writes by data.
use Rattle.std.specs.Prelude.{ℕ, ◌+◌, ◌*◌, ◌/◌, ◌%◌, ◌<◌, ◌≤◌, ◌≡◌, Bool, true, false, List, eqb, get_or, Ok}
use Rattle.mmu.specs.Translate.{mode_bits, translating, number_of, translate}
use Rattle.board.specs.Program as b
use Rattle.bus.specs.Access.{got_many}
use Rattle.bus.specs.Write.{Wrote}

abbrev pub for_program : (k : ℕ) → Bool
for_program k = eqb (k / 16) 1

abbrev pub for_write : (k : ℕ) → Bool
for_write k = eqb (k / 16) 2

-- The base e of seat k is what translation gives at each address of its page; where it is for writes, the page is marked already.
pub record Placed (user : Bool) (mmu : ℕ) (ds : List ℕ) (k e : ℕ) : Type 0 where
  pub at : (a : ℕ) → a < 65536 → a / 4096 ≡ k % 16 → translate mmu user ds (for_program k) (for_write k) a ≡ Ok (e + a % 4096)
  pub marked : for_write k ≡ true → (a : ℕ) → a < 65536 → a / 4096 ≡ k % 16 → translating (mode_bits mmu user) ≡ true →
      get_or ds (number_of (mode_bits mmu user) user false a) 0 % 2 ≡ 1

-- each base that is kept is right
abbrev pub Right : (kept : List ℕ) (user : Bool) (mmu : ℕ) (ds : List ℕ) → Type 0
Right kept user mmu ds = (k : ℕ) → k < 48 → eqb (get_or kept k 0) 1 ≡ false → Placed user mmu ds k (get_or kept k 0)

-- each page that is kept lies in a memory of n bytes
abbrev pub Inside : (kept : List ℕ) (n : ℕ) → Type 0
Inside kept n = (k : ℕ) → k < 48 → eqb (get_or kept k 0) 1 ≡ false → get_or kept k 0 + 4096 ≤ n

-- p is the place of the byte at a, in the page of seat k, which holds the n bytes from there
pub record Lies (kept : List ℕ) (k a n p : ℕ) : Type 0 where
  pub some : eqb (get_or kept k 0) 1 ≡ false
  pub place : p ≡ get_or kept k 0 + a % 4096
  pub room : a % 4096 + n ≤ 4096

-- v is what a read of n bytes at a by data gives, wherever the table is right
abbrev pub Reads : (kept w : List ℕ) (n a v : ℕ) → Type 0
Reads kept w n a v = (user : Bool) (mmu : ℕ) (ds : List ℕ) → Right kept user mmu ds → got_many n user mmu ds w false a ≡ Ok v

-- l is what the writes xs make of the memory w, wherever the table is right; they change no descriptor
abbrev pub Writes : (kept : List ℕ) (xs : List b.Write) (w l : List ℕ) → Type 0
Writes kept xs w l = (user : Bool) (mmu : ℕ) (ds : List ℕ) → Right kept user mmu ds → Wrote user mmu xs (Ok tt) ds w ds l

-- What is known of the base e worked out for seat k, where it is one.
pub record Entered (user : Bool) (mmu : ℕ) (ds : List ℕ) (size k e : ℕ) : Type 0 where
  pub at : translate mmu user ds (for_program k) (for_write k) (k % 16 * 4096) ≡ Ok e
  pub fits : e + 4096 ≤ size
  pub marked : for_write k ≡ true → translating (mode_bits mmu user) ≡ true →
      get_or ds (number_of (mode_bits mmu user) user false (k % 16 * 4096)) 0 % 2 ≡ 1

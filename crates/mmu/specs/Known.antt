-- Document 01's known translations P1, P2 and P3, for every other descriptor, MMU control bit and kind of access.
use Rattle.std.specs.Prelude.{ℕ, ◌≡◌, Bool, true, false, List, get_or, Ok}
use Rattle.mmu.specs.Translate.{bit, translate}

-- user 3ABCh, not separated, descriptor 3 = 00A8h: AABCh
abbrev pub P1 : Type 0
P1 =
    (control : ℕ) (ds : List ℕ) (program : Bool) → bit 0x8000 control ≡ true → bit 0x4000 control ≡ false →
    get_or ds 3 0 ≡ 0x00A8 → (write : Bool) → translate control true ds program write 0x3ABC ≡ Ok 0xAABC

-- user 3ABCh, separated, data, descriptor 1 = d: BABCh
abbrev pub Separated : (d : ℕ) → Type 0
Separated d =
    (control : ℕ) (ds : List ℕ) → bit 0x8000 control ≡ true → bit 0x4000 control ≡ true →
    get_or ds 1 0 ≡ d → (write : Bool) → translate control true ds false write 0x3ABC ≡ Ok 0xBABC

abbrev pub P2 : Type 0
P2 = Separated 0x00A8

abbrev pub P3 : Type 0
P3 = Separated 0x00B8

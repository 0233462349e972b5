-- Known steps P4 to P8 of document 01, over every old F.
use Rattle.std.specs.Prelude.{◌≡◌, ℕ, true, false}
use Rattle.sums.specs.declared.Flags.{Flags}
use Rattle.sums.specs.declared.WithF.{WithF}
use Rattle.sums.specs.Flag.{packed}
use Rattle.sums.specs.Sums.{cpw_of, negw_of}

-- S V N C; H V N; S H N C
abbrev svnc : Flags
svnc = record { s = true; z = false; h = false; v = true; n = true; c = true }

abbrev hvn : Flags
hvn = record { s = false; z = false; h = true; v = true; n = true; c = false }

abbrev shnc : Flags
shnc = record { s = true; z = false; h = true; v = false; n = true; c = true }

abbrev word : ℕ → ℕ → Flags → WithF ℕ
word f n x = record { value = n; f = packed f x }

abbrev pub P4 : Type 0
P4 = (f : ℕ) → cpw_of 0x7FFF 0xFFFF f ≡ packed f svnc

abbrev pub P5 : Type 0
P5 = (f : ℕ) → cpw_of 0x8000 0x0001 f ≡ packed f hvn

abbrev pub P6 : Type 0
P6 = (f : ℕ) → cpw_of 0x0010 0x0020 f ≡ packed f shnc

abbrev pub P7 : Type 0
P7 = (f : ℕ) → negw_of 0x0121 f ≡ word f 0xFEDF shnc

abbrev pub P8 : Type 0
P8 = (f : ℕ) → negw_of 0x8000 f ≡ word f 0x8000 svnc

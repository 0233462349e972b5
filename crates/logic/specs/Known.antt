-- Known step P9 of document 01: OR of 48h and 18h is 58h with all six flags clear, over every old F.
use Rattle.std.specs.Prelude.{ℕ, ◌≡◌, false}
use Rattle.sums.specs.declared.Flags.{Flags}
use Rattle.sums.specs.Flag.{pair_of}
use Rattle.logic.specs.Logic.{or_of}

abbrev none : Flags
none = record { s = false; z = false; h = false; v = false; n = false; c = false }

abbrev pub P9 : Type 0
P9 = (f : ℕ) → or_of 0x48 0x18 f ≡ pair_of f (record { value = 0x58; flags = none })

-- Document 01, "The machine record": whole frames of memory, the bits that may be set, and the reset record.
use Rattle.std.specs.Prelude.{Bool, false, ◌&&◌, ℕ, ◌/◌, ◌%◌, eqb, leb, ltb, replicate}
use Rattle.std.specs.Int.Bits.{bit_and}
use Rattle.regs.specs.declared.Regs.{Regs}
use Rattle.regs.specs.declared.Control.{Control}
use Rattle.regs.specs.declared.Machine.{Machine}

-- memory of n bytes is 1 to 16 whole frames
abbrev pub whole_frames : (n : ℕ) → Bool
whole_frames n = eqb (n % 4096) 0 && leb 1 (n / 4096) && leb (n / 4096) 16

-- MSR 537Fh, TCR 07h, I/O page all, stack limit FFF0h, vector pointer FFF0h
abbrev pub allowed_control : Control → Bool
allowed_control c =
    eqb (bit_and c.msr 0x537f) c.msr && ltb c.tcr 8 && eqb (c.limit % 16) 0 && eqb (c.vector % 16) 0

-- no bit is set that may not be; MMU control CC1Fh; each bit of a descriptor may be set
unfoldable pub allowed_bits : Machine → Bool
allowed_bits m = allowed_control m.ctl && eqb (bit_and m.mmu 0xcc1f) m.mmu

-- zero throughout
abbrev pub reset_regs : Regs
reset_regs =
    record { af = 0; bc = 0; de = 0; hl = 0; af2 = 0; bc2 = 0; de2 = 0; hl2 = 0; ix = 0; iy = 0; pc = 0; ssp = 0; usp = 0; bankaf = false; bankx = false }

abbrev pub reset_control : Control
reset_control = record { msr = 0; tcr = 0; iopage = 0; limit = 0; vector = 0 }

abbrev pub reset_record : Machine
reset_record = record { regs = reset_regs; ctl = reset_control; mmu = 0; ds = replicate 32 0 }

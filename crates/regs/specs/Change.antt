-- The registers and control registers with one of them changed.
use Rattle.std.specs.Prelude.{ℕ, ◌*◌, ◌/◌, ◌%◌, not}
use Rattle.std.specs.Int.Bits.{bit_and}
use Rattle.regs.specs.declared.Regs.{Regs}
use Rattle.regs.specs.declared.Control.{Control}

abbrev pub with_af : ℕ → Regs → Regs
with_af v r =
    record { af = v; bc = r.bc; de = r.de; hl = r.hl; af2 = r.af2; bc2 = r.bc2; de2 = r.de2; hl2 = r.hl2; ix = r.ix; iy = r.iy; pc = r.pc; ssp = r.ssp; usp = r.usp; bankaf = r.bankaf; bankx = r.bankx }

abbrev pub with_bc : ℕ → Regs → Regs
with_bc v r =
    record { af = r.af; bc = v; de = r.de; hl = r.hl; af2 = r.af2; bc2 = r.bc2; de2 = r.de2; hl2 = r.hl2; ix = r.ix; iy = r.iy; pc = r.pc; ssp = r.ssp; usp = r.usp; bankaf = r.bankaf; bankx = r.bankx }

abbrev pub with_de : ℕ → Regs → Regs
with_de v r =
    record { af = r.af; bc = r.bc; de = v; hl = r.hl; af2 = r.af2; bc2 = r.bc2; de2 = r.de2; hl2 = r.hl2; ix = r.ix; iy = r.iy; pc = r.pc; ssp = r.ssp; usp = r.usp; bankaf = r.bankaf; bankx = r.bankx }

abbrev pub with_hl : ℕ → Regs → Regs
with_hl v r =
    record { af = r.af; bc = r.bc; de = r.de; hl = v; af2 = r.af2; bc2 = r.bc2; de2 = r.de2; hl2 = r.hl2; ix = r.ix; iy = r.iy; pc = r.pc; ssp = r.ssp; usp = r.usp; bankaf = r.bankaf; bankx = r.bankx }

abbrev pub with_ix : ℕ → Regs → Regs
with_ix v r =
    record { af = r.af; bc = r.bc; de = r.de; hl = r.hl; af2 = r.af2; bc2 = r.bc2; de2 = r.de2; hl2 = r.hl2; ix = v; iy = r.iy; pc = r.pc; ssp = r.ssp; usp = r.usp; bankaf = r.bankaf; bankx = r.bankx }

abbrev pub with_iy : ℕ → Regs → Regs
with_iy v r =
    record { af = r.af; bc = r.bc; de = r.de; hl = r.hl; af2 = r.af2; bc2 = r.bc2; de2 = r.de2; hl2 = r.hl2; ix = r.ix; iy = v; pc = r.pc; ssp = r.ssp; usp = r.usp; bankaf = r.bankaf; bankx = r.bankx }

abbrev pub with_pc : ℕ → Regs → Regs
with_pc v r =
    record { af = r.af; bc = r.bc; de = r.de; hl = r.hl; af2 = r.af2; bc2 = r.bc2; de2 = r.de2; hl2 = r.hl2; ix = r.ix; iy = r.iy; pc = v; ssp = r.ssp; usp = r.usp; bankaf = r.bankaf; bankx = r.bankx }

abbrev pub with_ssp : ℕ → Regs → Regs
with_ssp v r =
    record { af = r.af; bc = r.bc; de = r.de; hl = r.hl; af2 = r.af2; bc2 = r.bc2; de2 = r.de2; hl2 = r.hl2; ix = r.ix; iy = r.iy; pc = r.pc; ssp = v; usp = r.usp; bankaf = r.bankaf; bankx = r.bankx }

abbrev pub with_usp : ℕ → Regs → Regs
with_usp v r =
    record { af = r.af; bc = r.bc; de = r.de; hl = r.hl; af2 = r.af2; bc2 = r.bc2; de2 = r.de2; hl2 = r.hl2; ix = r.ix; iy = r.iy; pc = r.pc; ssp = r.ssp; usp = v; bankaf = r.bankaf; bankx = r.bankx }

-- BC, DE and HL at once: what a block instruction steps
abbrev pub with_block : ℕ → ℕ → ℕ → Regs → Regs
with_block bc de hl r =
    record { af = r.af; bc = bc; de = de; hl = hl; af2 = r.af2; bc2 = r.bc2; de2 = r.de2; hl2 = r.hl2; ix = r.ix; iy = r.iy; pc = r.pc; ssp = r.ssp; usp = r.usp; bankaf = r.bankaf; bankx = r.bankx }

-- EX AF,AF', line 3105: the values change places with the alternates and the bank bit turns over
abbrev pub exchange_af : Regs → Regs
exchange_af r =
    record { af = r.af2; bc = r.bc; de = r.de; hl = r.hl; af2 = r.af; bc2 = r.bc2; de2 = r.de2; hl2 = r.hl2; ix = r.ix; iy = r.iy; pc = r.pc; ssp = r.ssp; usp = r.usp; bankaf = not r.bankaf; bankx = r.bankx }

-- EXX, line 3357
abbrev pub exchange_x : Regs → Regs
exchange_x r =
    record { af = r.af; bc = r.bc2; de = r.de2; hl = r.hl2; af2 = r.af2; bc2 = r.bc; de2 = r.de; hl2 = r.hl; ix = r.ix; iy = r.iy; pc = r.pc; ssp = r.ssp; usp = r.usp; bankaf = r.bankaf; bankx = not r.bankx }

-- Loading a control register stores the bits that may not be set as zero (document 01, the machine record).
abbrev pub load_msr : ℕ → Control → Control
load_msr v c = record { msr = bit_and v 0x537F; tcr = c.tcr; iopage = c.iopage; limit = c.limit; vector = c.vector }

abbrev pub load_tcr : ℕ → Control → Control
load_tcr v c = record { msr = c.msr; tcr = v % 8; iopage = c.iopage; limit = c.limit; vector = c.vector }

abbrev pub load_iopage : ℕ → Control → Control
load_iopage v c = record { msr = c.msr; tcr = c.tcr; iopage = v % 256; limit = c.limit; vector = c.vector }

abbrev pub load_limit : ℕ → Control → Control
load_limit v c = record { msr = c.msr; tcr = c.tcr; iopage = c.iopage; limit = v / 16 * 16; vector = c.vector }

abbrev pub load_vector : ℕ → Control → Control
load_vector v c = record { msr = c.msr; tcr = c.tcr; iopage = c.iopage; limit = c.limit; vector = v / 16 * 16 }

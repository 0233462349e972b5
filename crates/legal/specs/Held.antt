-- What each machine record of the code has: its numbers are those of their types, and there are thirty-two descriptors.
use Rattle.std.specs.Prelude.{ℕ, ◌<◌, ◌≡◌, length, get_or}
use Rattle.std.proofs.Common.{Fits}
use Rattle.std.specs.Int.{w16}
use Rattle.regs.specs.declared.Regs.{Regs}
use Rattle.regs.specs.declared.Control.{Control}
use Rattle.regs.specs.declared.Machine.{Machine}

pub record HeldRegs (r : Regs) : Type 0 where
  pub af : r.af < 65536
  pub bc : r.bc < 65536
  pub de : r.de < 65536
  pub hl : r.hl < 65536
  pub af2 : r.af2 < 65536
  pub bc2 : r.bc2 < 65536
  pub de2 : r.de2 < 65536
  pub hl2 : r.hl2 < 65536
  pub ix : r.ix < 65536
  pub iy : r.iy < 65536
  pub pc : r.pc < 65536
  pub ssp : r.ssp < 65536
  pub usp : r.usp < 65536

pub record HeldControl (c : Control) : Type 0 where
  pub msr : c.msr < 65536
  pub tcr : c.tcr < 256
  pub iopage : c.iopage < 256
  pub limit : c.limit < 65536
  pub vector : c.vector < 65536

pub record Held (m : Machine) : Type 0 where
  pub regs : HeldRegs m.regs
  pub ctl : HeldControl m.ctl
  pub mmu : m.mmu < 65536
  pub long : length m.ds ≡ 32
  pub ds : (i : ℕ) → Fits w16 (get_or m.ds i 0)

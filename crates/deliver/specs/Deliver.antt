-- Delivering a trap: document 01, with sections 6.3 to 6.6 of the manual (lines 7562 to 7813). How status is saved stands in `saves`.
use Rattle.std.specs.Prelude.{ℕ, cond, List, [], ◌∷◌, length, Option, Some, None}
use Rattle.regs.specs.declared.Machine.{Machine}
use Rattle.plan.specs.declared.kinds.Stop.{Stop}
use Rattle.plan.specs.declared.kinds.Stop.TheVariants.{Privileged, Call, Extended, Halted, Break, Port, Nothing}
use Rattle.bus.specs.declared.kinds.Event.{Event}
use Rattle.bus.specs.declared.kinds.Event.TheVariants.{Completed, Violation, Absent, Stopped}
use Rattle.legal.specs.Legal.{whole_frames, allowed_bits}
use Rattle.saves.specs.Saves.{Outcome, refusal, saved}
use Rattle.deliver.specs.declared.traps.Trap.{Trap}
use Rattle.deliver.specs.declared.traps.Trap.TheVariants.{Two, Three}

-- ── which events, by which vector (Table 6-5, line 7774), with which address (Table 6-3, line 7658) ──

unfoldable pub stopped : Stop → Option Trap
stopped (Privileged a) = Some (Two 0x54 a)
stopped (Call operand next) = Some (Three 0x50 next operand)
stopped (Extended a) = None
stopped Halted = None
stopped (Break a) = Some (Two 0x40 a)
stopped (Port p out) = None
stopped (Nothing a) = None

unfoldable pub trap_of : Event → Option Trap
trap_of Completed = None
trap_of (Violation i a) = Some (Two 0x4C a)
trap_of (Absent p) = None
trap_of (Stopped s) = stopped s

-- ── the whole ──

-- the carried address, MSR and, for a system call, the operand
unfoldable pub taken : Machine → List ℕ → Option Trap → Outcome
taken m w (Some (Two offset address)) = saved m w offset (address ∷ m.ctl.msr ∷ [])
taken m w (Some (Three offset address operand)) = saved m w offset (address ∷ m.ctl.msr ∷ operand ∷ [])
taken m w None = refusal 8 m w

unfoldable pub deliver_of : Machine → List ℕ → Event → Outcome
deliver_of m w e =
    cond (whole_frames (length w)) (cond (allowed_bits m) (taken m w (trap_of e)) (refusal 2 m w)) (refusal 1 m w)

-- Stages 2 and 3 of a step for an instruction that was fetched whole: left out, privileged, HALT, SC and ports, in document 01's order.
-- `op` is the operation's number (decode: Op); those below 24 alone can end here.
use Rattle.std.specs.Prelude.{ℕ, ◌+◌, ◌*◌, ◌/◌, ◌%◌, Bool, cond, not, ◌&&◌, ◌||◌, ◌==◌, nat_le, nat_lt, Option, Some, None}
use Rattle.regs.specs.declared.Regs.{Regs}
use Rattle.regs.specs.declared.Control.{Control}
use Rattle.regs.specs.Select.{a_of, user_of}
use Rattle.plan.specs.declared.kinds.Ins.{Ins}
use Rattle.plan.specs.declared.kinds.Early.{Early}
use Rattle.plan.specs.declared.kinds.Stop.{Stop}
use Rattle.plan.specs.declared.kinds.Stop.TheVariants.{Privileged, Call, Halted, Break, Port, Nothing}
use Rattle.plan.specs.Kinds.{byte, word}

abbrev pub ends : (pc : ℕ) → Stop → Early
ends pc e = record { pc = pc; stop = e }

-- the control registers that LDCTL knows by C, line 4345: MSR 00, stack limit 04, vector pointer 06, I/O page 08, trap control 10 (hexadecimal)
abbrev pub listed : ℕ → Bool
listed k = k == 0 || k == 4 || k == 6 || k == 8 || k == 0x10

-- LDCTL by C whose C names no such register
unfoldable pub left_out : Regs → Ins → Bool
left_out r i = (i.op == 20 || i.op == 21) && not (listed (r.bc % 256))

-- user mode, and HALT or one that governs; or a port while user I/O is inhibited
unfoldable pub barred : Control → Ins → Bool
barred c i = user_of c && (i.op == 4 || nat_le 16 i.op || nat_le 6 i.op && c.tcr / 4 % 2 == 1)

-- HALT, line 3369: break on halt where MSR says so
unfoldable pub halting : Control → Ins → Early
halting c i = cond (c.msr / 0x1000 % 2 == 1) (ends i.start (Break i.start)) (ends i.next Halted)

-- the 24 bit port: I/O page, then A and n (lines 3509, 5576), or B and C (lines 3437, 5520)
unfoldable pub port_of : Regs → Control → Ins → ℕ
port_of r c i = c.iopage * 65536 + cond (nat_lt i.op 8) (a_of r * 256 + byte i.arg) r.bc

-- the operations 4 to 11: HALT, SC, input and output in turn
unfoldable pub event : Regs → Control → Ins → Option Early
event r c i =
    cond (i.op == 4) (Some (halting c i))
    (cond (i.op == 5) (Some (ends i.start (Call (word i.arg) i.next)))
    (cond (nat_lt i.op 16) (Some (ends i.start (Port (port_of r c i) (i.op % 2 == 1)))) None))

unfoldable pub early_of : Regs → Control → Ins → Option Early
early_of r c i =
    cond (left_out r i) (Some (ends i.start (Nothing i.start)))
    (cond (barred c i) (Some (ends i.start (Privileged i.start))) (event r c i))

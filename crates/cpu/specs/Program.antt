-- The machine: the program of accesses that a step is. Document 01, "One step, in order".
use Rattle.std.specs.Prelude.{ℕ, zero, suc, ◌/◌, ◌%◌, Bool, true, cond, ◌&&◌, eqb, ltb, Option, Some, None}
use Rattle.board.specs.Program.{Prog, read, done, govern, stop}
use Rattle.decode.specs.Opening.{opening_of, after_opening, entered}
use Rattle.decode.specs.Entry.{op_in, reads_in, mode_in, bytes_in}
use Rattle.regs.specs.declared.Regs.{Regs}
use Rattle.regs.specs.declared.Control.{Control}
use Rattle.regs.specs.Change.{with_pc}
use Rattle.regs.specs.Select.{user_of}
use Rattle.plan.specs.declared.kinds.Stop.{Stop}
use Rattle.plan.specs.declared.kinds.Stop.TheVariants.{Extended, Nothing}
use Rattle.plan.specs.declared.kinds.Ins.{Ins}
use Rattle.plan.specs.declared.kinds.Spot.{Spot}
use Rattle.plan.specs.declared.kinds.Early.{Early}
use Rattle.plan.specs.declared.kinds.Done.{Done}
use Rattle.plan.specs.declared.kinds.Governed.{Governed}
use Rattle.plan.specs.Kinds.{plus}
use Rattle.plan.specs.Places.{spot_of}
use Rattle.plan.specs.Early.{early_of}
use Rattle.execute.specs.Execute.{execute_of}
use Rattle.govern.specs.Govern.{govern_of}
use Rattle.bus.specs.Board.{real}
use Rattle.bus.specs.Access.{next, joined, count}
use Rattle.bus.specs.Leave.{listed}

-- n bytes at following addresses as one number, low byte first
unfoldable pub read_n : ℕ → Bool → ℕ → (ℕ → Prog real) → Prog real
read_n zero k a f = f 0
read_n (suc n) k a f = read k a (λ b. read_n n k (next a) (λ v. f (joined b v)))

-- ── stages 4 and 5: operand reads; all writes checked; completion ──

unfoldable pub finished : Done → Prog real
finished d = done d.regs (listed d.write)

unfoldable pub ruled : Governed → Prog real
ruled g = govern g.regs g.ctl

-- PC is past the instruction while it does its work
unfoldable pub worked : Regs → Control → Ins → Spot → ℕ → Prog real
worked r c i s v =
    cond (ltb i.op 24) (ruled (govern_of (with_pc i.next r) c i v))
    (finished (execute_of (with_pc i.next r) (user_of c) i s v))

unfoldable pub operated : Regs → Control → Ins → Spot → Prog real
operated r c i s = read_n (count s.n) s.program s.a (λ v. worked r c i s (v % 4294967296))

-- ── stages 2 and 3: left out, privileged, HALT, SC, ports ──

unfoldable pub went : Regs → Control → Ins → Option Early → Prog real
went r c i (Some x) = stop (with_pc x.pc r) x.stop
went r c i None = operated r c i (spot_of (user_of c) r i)

-- operations from 24 on end in no event of stages 2 and 3
unfoldable pub early : Regs → Control → Ins → Option Early
early r c i = cond (ltb i.op 24) (early_of r c i) None

unfoldable pub judged : Regs → Control → Ins → Prog real
judged r c i = went r c i (early r c i)

-- operations 0 and 1: no such instruction, or left out; 2: extended, which is event 5 where the extended unit's bit is 0
unfoldable pub missing : Regs → Control → ℕ → Stop
missing r c e = cond (eqb (op_in e) 2 && eqb (c.tcr / 2 % 2) 0) (Extended r.pc) (Nothing r.pc)

-- ── stage 1: the bytes that the format needs, one by one ──

-- the bytes beside the operation code as one number
unfoldable pub arg_of : (bytes d n : ℕ) → ℕ
arg_of bytes d n = cond (eqb bytes 0) d (n % 4294967296)

-- o the opening, b the operation code, d the displacement that stands before it after DD CB and FD CB, e the table's entry,
-- at the address behind the operation code, n the bytes there
unfoldable pub ins_of : Regs → (o b d e at n : ℕ) → Ins
ins_of r o b d e at n =
    record {
      opening = o;
      code = b;
      op = op_in e;
      mode = mode_in e;
      reads = reads_in e;
      arg = arg_of (bytes_in e) d n;
      start = r.pc;
      next = plus at (bytes_in e);
    }

unfoldable pub classed : Regs → Control → (o b d at e : ℕ) → Prog real
classed r c o b d at e =
    cond (ltb e 2048) (stop r (missing r c e))
    (read_n (count (bytes_in e)) true at (λ n. judged r c (ins_of r o b d e at n)))

unfoldable pub formed : Regs → Control → (o b d at : ℕ) → Prog real
formed r c o b d at = classed r c o b d at (entered o b)

-- An opening sequence, up to the operation code. `a` is the address of the next byte, and the rest f gets the opening, the operation
-- code, the displacement before it, and the address behind it.
abbrev pub Rest : Type 0
Rest = (o b d at : ℕ) → Prog real

unfoldable pub fourth : Rest → (a o d : ℕ) → Prog real
fourth f a o d = read true a (λ b. f o (b % 256) d (next a))

unfoldable pub third : Rest → (a o : ℕ) → Prog real
third f a o = read true a (λ b. cond (ltb o 7) (fourth f (next a) o (b % 256)) (f o (b % 256) 0 (next a)))

unfoldable pub second : Rest → (a o b : ℕ) → Prog real
second f a o b = cond (eqb (after_opening o b) 0) (f o b 0 a) (third f a (after_opening o b))

unfoldable pub first : Rest → (a b : ℕ) → Prog real
first f a b =
    cond (eqb (opening_of b) 0) (f 0 b 0 a) (read true a (λ k. second f (next a) (opening_of b) (k % 256)))

unfoldable pub leading : Rest → (pc : ℕ) → Prog real
leading f pc = read true pc (λ b. first f (next pc) (b % 256))

unfoldable pub program : Regs → Control → Prog real
program r c = leading (formed r c) r.pc

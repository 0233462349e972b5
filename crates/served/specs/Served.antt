-- What a quick step promises: it is a step of the program, for every machine whose kept places are right.
use Rattle.std.specs.Prelude.{ℕ, zero, suc, ◌+◌, ◌-◌, ◌/◌, ◌%◌, ◌≤◌, ◌≡◌, Bool, true, false, cond, ◌&&◌, nat_le, IsTrue, List, Option, MatchOption, Ok, eqb, ltb, length, get_or}
use Rattle.board.specs.Program as b
use Rattle.regs.specs.declared.Regs.{Regs}
use Rattle.regs.specs.declared.Control.{Control}
use Rattle.regs.specs.Select.{user_of}
use Rattle.decode.specs.Opening.{entered}
use Rattle.decode.specs.Entry.{op_in, bytes_in}
use Rattle.plan.specs.declared.kinds.Ins.{Ins}
use Rattle.plan.specs.declared.kinds.Spot.{Spot}
use Rattle.plan.specs.declared.kinds.Done.{Done}
use Rattle.plan.specs.Places.{spot_of}
use Rattle.execute.specs.Execute.{execute_of}
use Rattle.bus.specs.Access.{joined, got_many, count}
use Rattle.bus.specs.Leave.{state_of, whole}
use Rattle.cpu.specs.Program.{ins_of, formed}
use Rattle.cpu.specs.Turns.{completed_turn}
use Rattle.kept.specs.Kept.{Right, Inside}
use Rattle.served.specs.declared.kinds.Begun.{Begun}
use Rattle.served.specs.declared.kinds.Code.{Code}

-- p is the physical address of the logical address at, in a page that is kept for program, with four bytes more in it
pub record Stands (kept : List ℕ) (at p : ℕ) : Type 0 where
  pub some : eqb (get_or kept (16 + at / 4096) 0) 1 ≡ false
  pub place : p ≡ get_or kept (16 + at / 4096) 0 + at % 4096
  pub room : at % 4096 + 4 ≤ 4095
  pub page : at / 4096 ≤ 15

-- a code as it was fetched
pub record Fetched (kept w : List ℕ) (q : Code) : Type 0 where
  pub inside : Inside kept (length w)
  pub entry : q.e ≡ entered q.o q.b
  pub stands : Stands kept q.at q.p
  pub back : ltb 4 q.o ≡ true → 2 ≤ q.p

-- the displacement that stands before the operation code after DD CB and FD CB
abbrev pub before : Code → (w : List ℕ) → ℕ
before q w = cond (ltb 4 q.o) (get_or w (q.p - 2) 0) 0

-- k bytes at physical addresses as one number, low byte first
unfoldable pub behind : (k : ℕ) (w : List ℕ) (p : ℕ) → ℕ
behind zero w p = 0
behind (suc k) w p = joined (get_or w p 0) (behind k w (p + 1))

-- the instruction, with k bytes behind its operation code
abbrev pub ins_at : (k : ℕ) → Regs → Code → (w : List ℕ) → Ins
ins_at k r q w = ins_of r q.o q.b (before q w) q.e q.at (behind k w q.p)

-- y and l are the registers and the memory that the step with this code leaves
abbrev pub Serves : (kept : List ℕ) (u : Bool) (r : Regs) (q : Code) (w l : List ℕ) (y : Regs) → Type 0
Serves kept u r q w l y =
    (c : Control) (mmu : ℕ) (ds : List ℕ) → u ≡ user_of c → Right kept u mmu ds →
    whole (completed_turn y c mmu) ds l ≡ b.exec (formed r c q.o q.b (before q w) q.at) (state_of r c mmu ds w)

-- what a step came to: it is done, or nothing has changed; y are the registers afterwards
abbrev pub Served : (kept : List ℕ) (u : Bool) (r y : Regs) (q : Code) (w l : List ℕ) → Option (Unit {0}) → Type 0
Served kept u r y q w l x = MatchOption x ((y ≡ r) × (l ≡ w)) (λ d. Serves kept u r q w l y)

-- what a quick step may be by its entry: an operation that no event ends and that governs nothing, with at most two bytes behind its code
abbrev pub is_quick : ℕ → Bool
is_quick e = nat_le 24 (op_in e) && nat_le (bytes_in e) 2

-- the operand at s is v, wherever the table is right
abbrev pub Operand : (kept w : List ℕ) → Spot → ℕ → Type 0
Operand kept w s v = (user : Bool) (mmu : ℕ) (ds : List ℕ) → Right kept user mmu ds → got_many (count s.n) user mmu ds w s.program s.a ≡ Ok v

-- b is the instruction with the code q, its operand's place and the operand
pub record Begins (kept : List ℕ) (u : Bool) (r : Regs) (q : Code) (w : List ℕ) (b : Begun) : Type 0 where
  pub quick : IsTrue (is_quick q.e)
  pub ins : b.i ≡ ins_at (bytes_in q.e) r q w
  pub spot : b.s ≡ spot_of u r b.i
  pub operand : Operand kept w b.s b.v

-- a function with these results does what the instructions of the operation op do
abbrev pub Works : (op : ℕ) (u : Bool) (post : Regs → Ins → Spot → ℕ → Done → Type 0) → Type 0
Works op u post = (r : Regs) (i : Ins) (s : Spot) (v : ℕ) (d : Done) → i.op ≡ op → post r i s v d → d ≡ execute_of r u i s v

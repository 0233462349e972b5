-- A step as a program of accesses, and its one interpreter: alone here are translation, descriptors and memory used.
-- `Board` names what no theorem below looks into.
use Rattle.std.specs.Prelude.{ℕ, Bool, true, false, cond, List, [], ◌∷◌, Result, Ok, Err}
use Rattle.std.proofs.Math.Option.{Option, none, some}
use Rattle.mmu.specs.Translate.{mode_bits, translate, marked, latched}
use Rattle.mmu.specs.declared.Violated.{Violated}
use Rattle.board.specs.declared.Fault.{Fault}
use Rattle.board.specs.declared.Fault.TheVariants.{Denied, Lacks}

-- R: registers with PC. C: control registers other than MMU control. E: events 3 to 9. M: physical memory.
-- load: the byte at a physical address, where there is memory. room: whether a byte may be stored there.
pub record Board : Type 1 where
  pub R : Type 0
  pub C : Type 0
  pub E : Type 0
  pub M : Type 0
  pub user : C → Bool
  pub pc : R → ℕ
  pub privileged : R → E
  pub load : C → M → ℕ → Option ℕ
  pub room : C → M → ℕ → Bool
  pub store : C → M → ℕ → ℕ → M

-- ── program, machine, event ──

-- a byte to be written at a logical address of program or data space
pub record Write : Type 0 where
  pub program : Bool
  pub addr : ℕ
  pub byte : ℕ

-- What is left of a step. It sees registers, control registers and bytes read, and neither MMU control nor a descriptor.
pub data Prog (B : Board) : Type 0 where
  -- a byte at a logical address, by program (true) or data
  read : Bool → ℕ → (ℕ → Prog B) → Prog B
  -- check all writes, then store them, mark their pages and complete
  done : B.R → List Write → Prog B
  -- complete with new control registers: privileged, so event 3 in user mode
  govern : B.R → B.C → Prog B
  -- events 3 to 9; registers, since HALT moves PC
  stop : B.R → B.E → Prog B

-- Events 0, 1 with descriptor number and address, 2 with the physical address, and 3 to 9.
pub data Event (B : Board) : Type 0 where
  completed : Event B
  violation : ℕ → ℕ → Event B
  absent : ℕ → Event B
  other : B.E → Event B

pub record State (B : Board) : Type 0 where
  pub regs : B.R
  pub ctl : B.C
  pub mmu : ℕ
  pub ds : List ℕ
  pub mem : B.M

pub record Answer (B : Board) : Type 0 where
  pub state : State B
  pub event : Event B

-- ── one access ──

-- the one place where translation's answer is taken apart
unfoldable pub through : (ℕ → Result ℕ Fault) → Result ℕ Violated → Result ℕ Fault
through f (Ok p) = f p
through f (Err v) = Err (Denied v.descriptor)

-- memory's size is tested after translation
unfoldable pub from_memory : ℕ → Option ℕ → Result ℕ Fault
from_memory p (some b) = Ok b
from_memory p none = Err (Lacks p)

unfoldable pub if_room : ℕ → Bool → Result ℕ Fault
if_room p true = Ok p
if_room p false = Err (Lacks p)

module _ {B : Board} where
  abbrev pub in_user : State B → Bool
  in_user s = B.user s.ctl

  unfoldable pub read_byte : State B → (program : Bool) (a : ℕ) → Result ℕ Fault
  read_byte s program a =
      through (λ p. from_memory p (B.load s.ctl s.mem p))
      (translate s.mmu (in_user s) s.ds program false a)

  unfoldable pub write_to : State B → Write → Result ℕ Fault
  write_to s x =
      through (λ p. if_room p (B.room s.ctl s.mem p))
      (translate s.mmu (in_user s) s.ds x.program true x.addr)

  -- event 1 changes the last faulting descriptor only
  unfoldable pub faulted : State B → ℕ → State B
  faulted s i = record { regs = s.regs; ctl = s.ctl; mmu = latched i s.mmu; ds = s.ds; mem = s.mem }

  -- A faulting access ends the step at once.
  unfoldable pub after : State B → Result ℕ Fault → (ℕ → Answer B) → Answer B
  after s (Ok b) f = f b
  after s (Err (Denied i)) f = record { state = faulted s i; event = violation i (B.pc s.regs) }
  after s (Err (Lacks p)) f = record { state = s; event = absent p }

  -- ── the end of a step ──

  unfoldable pub touch : State B → Write → List ℕ → List ℕ
  touch s x ds = marked (mode_bits s.mmu (in_user s)) (in_user s) x.program x.addr ds

  unfoldable pub finish : State B → B.R → B.C → List ℕ → B.M → Answer B
  finish s r c ds m =
      record { state = record { regs = r; ctl = c; mmu = s.mmu; ds = ds; mem = m }; event = completed }

  -- Each write is checked against s in order; the stores in m and the marks in ds take effect where all have passed.
  unfoldable pub writes : State B → B.R → List Write → List ℕ → B.M → Answer B
  writes s r [] ds m = finish s r s.ctl ds m
  writes s r (x ∷ xs) ds m =
      after s (write_to s x) (λ p. writes s r xs (touch s x ds) (B.store s.ctl m p x.byte))

  unfoldable pub halted : State B → B.R → B.E → Answer B
  halted s r e =
      record {
        state = record { regs = r; ctl = s.ctl; mmu = s.mmu; ds = s.ds; mem = s.mem };
        event = other e;
      }

  -- ── the interpreter ──

  unfoldable pub exec : Prog B → State B → Answer B
  exec (read program a f) s = after s (read_byte s program a) (λ b. exec (f b) s)
  exec (done r xs) s = writes s r xs s.ds s.mem
  exec (govern r c) s =
      cond (in_user s) (halted s s.regs (B.privileged s.regs)) (finish s r c s.ds s.mem)
  exec (stop r e) s = halted s r e

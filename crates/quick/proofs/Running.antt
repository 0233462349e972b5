-- The loop of quick steps against `run`: what holds at its test, and a law for each way on and out, over plain values.
use Prim.Native.Nat.{ℕ, ◌+◌, ◌≤◌, ◌<◌}
use mathlib.Core.Path.{◌≡◌, refl, sym, ◌∙◌, ap}
use mathlib.Core.Bool.{Bool}
use mathlib.Core.List.{List}
use native.Mathlib.Omega.{arith}
use lib.ListN.{length}
use Rattle.board.specs.Program as b
use Rattle.board.specs.Run as n
use Rattle.board.proofs.Runs as runs
use Rattle.regs.specs.declared.Regs.{Regs}
use Rattle.regs.specs.declared.Control.{Control}
use Rattle.regs.specs.Select.{user_of}
use Rattle.bus.specs.Leave.{event_of, state_of, whole}
use Rattle.cpu.specs.Lead as lead
use Rattle.cpu.specs.Lead.{lead_of}
use Rattle.cpu.specs.Program.{program}
use Rattle.cpu.specs.Turns.{completed_turn}
use Rattle.cpu.proofs.Ways.{turn_code}
use Rattle.kept.specs.Kept.{Right, Inside}
use Rattle.served.specs.declared.kinds.Code.{Code}
use Rattle.served.specs.Served.{before, Serves}

-- a run of limit steps from r₀ and w₀ goes on from r and w after k of them, whatever machine the table is right for
abbrev GoingOn : (limit : ℕ) (user : Bool) (kept : List ℕ) (r₀ : Regs) (w₀ : List ℕ) (r : Regs) (w : List ℕ) (k : ℕ) → Type 0
GoingOn limit user kept r₀ w₀ r w k =
    (c : Control) (mmu : ℕ) (ds : List ℕ) → user ≡ user_of c → Right kept user mmu ds → runs.Going program limit (state_of r₀ c mmu ds w₀) k (state_of r c mmu ds w)

pub record Going (limit : ℕ) (user : Bool) (kept : List ℕ) (r₀ : Regs) (w₀ : List ℕ) (r : Regs) (w : List ℕ) (k : ℕ) : Type 0 where
  pub bound : k ≤ limit
  pub len : length w ≡ length w₀
  pub inside : Inside kept (length w)
  pub is : GoingOn limit user kept r₀ w₀ r w k

pub starts : (limit : ℕ) (user : Bool) (kept : List ℕ) (r : Regs) (w : List ℕ) → Inside kept (length w) → Going limit user kept r w r w 0
starts limit user kept r w i = record { bound = omega arith; len = refl; inside = i; is = λ c mmu ds u R. runs.starts program limit (state_of r c mmu ds w) }

module _ (limit : ℕ) (user : Bool) (kept : List ℕ) (r₀ : Regs) (w₀ : List ℕ) (r : Regs) (w : List ℕ) (k : ℕ) (g : Going limit user kept r₀ w₀ r w k) where
  -- a step that was done
  pub again : (d : Code) (l : List ℕ) (q : Regs) → Serves kept user r d w l q →
      ((user : Bool) (mmu : ℕ) (ds : List ℕ) → Right kept user mmu ds → lead_of user mmu ds w r.pc ≡ lead.code d.o d.b (before d w) d.at) →
      k < limit → length l ≡ length w → Going limit user kept r₀ w₀ q l (k + 1)
  unfolding n.step event_of
  again d l q s m lt z =
      record {
        bound = omega arith;
        len = z ∙ g.len;
        inside = rw z g.inside;
        is = λ c mmu ds u R. runs.again program limit (state_of r₀ c mmu ds w₀) k (state_of r c mmu ds w) (state_of q c mmu ds l) (g.is c mmu ds u R) lt (step c mmu ds u R);
      }
    where
      step : (c : Control) (mmu : ℕ) (ds : List ℕ) → user ≡ user_of c → Right kept user mmu ds → record { state = state_of q c mmu ds l; event = b.completed } ≡ n.step program (state_of r c mmu ds w)
      step c mmu ds u R =
          turn_code r c mmu ds w (record { opening = d.o; code = d.b; displacement = before d w; at = d.at }) (whole (completed_turn q c mmu) ds l)
          (sym (ap (λ z. lead_of z mmu ds w r.pc) u) ∙ m user mmu ds R) (s c mmu ds u R)

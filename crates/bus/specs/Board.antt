-- The real board: the machine's registers, control registers and events 3 to 9, over a memory of bytes.
use Rattle.std.specs.Prelude.{ℕ, cond, List, length, nat_lt, slice_index, slice_set}
use Rattle.std.proofs.Math.Option.{Option, none, some}
use Rattle.board.specs.Program.{Board}
use Rattle.regs.specs.declared.Regs.{Regs}
use Rattle.regs.specs.declared.Control.{Control}
use Rattle.regs.specs.Select.{user_of}
use Rattle.plan.specs.declared.kinds.Stop.{Stop}
use Rattle.plan.specs.declared.kinds.Stop.TheVariants.{Privileged}

-- the byte at a physical address, where there is memory
unfoldable pub load_at : List ℕ → ℕ → Option ℕ
load_at w p = cond (nat_lt p (length w)) (some (slice_index w p)) none

abbrev pub real : Board
real =
    record {
      R = Regs;
      C = Control;
      E = Stop;
      M = List ℕ;
      user = user_of;
      pc = λ (r : Regs). r.pc;
      privileged = λ (r : Regs). Privileged r.pc;
      load = λ (c : Control) (w : List ℕ) (p : ℕ). load_at w p;
      room = λ (c : Control) (w : List ℕ) (p : ℕ). nat_lt p (length w);
      store = λ (c : Control) (w : List ℕ) (p b : ℕ). slice_set w p b;
    }

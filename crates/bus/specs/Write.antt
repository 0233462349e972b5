-- What the writes of a step leave, in a mode: the end of the step, whoever's registers it is; or a fault, and nothing changed.
use Rattle.std.specs.Prelude.{◌≡◌, ℕ, Bool, List, Result, Ok, Err, ⊤}
use Rattle.board.specs.Program as b
use Rattle.board.specs.declared.Fault.{Fault}
use Rattle.regs.specs.declared.Regs.{Regs}
use Rattle.regs.specs.declared.Control.{Control}
use Rattle.regs.specs.Select.{user_of}
use Rattle.bus.specs.Board.{real}
use Rattle.bus.specs.Leave.{state_of, denial}

-- what is there after a fault is what was there before
unfoldable pub kept : Result ⊤ Fault → (before after : List ℕ) → List ℕ
kept (Ok x) before after = after
kept (Err e) before after = before

-- the step's end, or the fault's
abbrev pub settled : b.State real → Result ⊤ Fault → b.Answer real → b.Answer real
settled s (Ok x) end = end
settled s (Err e) end = denial s e

-- g the answer; ds and w before, es and v after
pub record Wrote (user : Bool) (mmu : ℕ) (xs : List b.Write) (g : Result ⊤ Fault) (ds w es v : List ℕ) : Type 0 where
  pub ends : (r q : Regs) (c : Control) → user_of c ≡ user →
      settled (state_of r c mmu ds w) g (b.finish (state_of r c mmu ds w) q c es v) ≡ b.writes (state_of r c mmu ds w) q xs ds w
  pub descriptors : kept g ds es ≡ es
  pub memory : kept g w v ≡ v

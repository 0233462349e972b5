-- A step, and a run of steps up to a limit.
use Rattle.std.specs.Prelude.{ℕ, zero, suc, ◌+◌}
use Rattle.board.specs.Program.{Board, Prog, State, Event, completed, violation, absent, other, Answer, exec}

-- what is to be done at a step, by registers and control registers
abbrev pub Program : Board → Type 0
Program B = B.R → B.C → Prog B

-- steps: those completed
pub record Ran (B : Board) : Type 0 where
  pub state : State B
  pub event : Event B
  pub steps : ℕ

module _ {B : Board} where
  unfoldable pub step : Program B → State B → Answer B
  step prog s = exec (prog s.regs s.ctl) s

  unfoldable pub ended : State B → Event B → Ran B
  ended s e = record { state = s; event = e; steps = 0 }

  -- j completed steps more
  unfoldable pub later : ℕ → Ran B → Ran B
  later j r = record { state = r.state; event = r.event; steps = j + r.steps }

  -- A run stops at the first event other than 0.
  unfoldable pub go_on : State B → Event B → (State B → Ran B) → Ran B
  go_on s completed f = later 1 (f s)
  go_on s (violation i a) f = ended s (violation i a)
  go_on s (absent p) f = ended s (absent p)
  go_on s (other e) f = ended s (other e)

  unfoldable pub run : Program B → ℕ → State B → Ran B
  run prog zero s = ended s completed
  run prog (suc n) s = go_on (step prog s).state (step prog s).event (λ t. run prog n t)

  -- ── one run after another, where the first completed ──

  unfoldable pub follow : Ran B → Event B → (State B → Ran B) → Ran B
  follow r completed f = later r.steps (f r.state)
  follow r (violation i a) f = r
  follow r (absent p) f = r
  follow r (other e) f = r

  abbrev pub and_then : Ran B → (State B → Ran B) → Ran B
  and_then r f = follow r r.event f

  -- n runs of one step
  unfoldable pub singly : Program B → ℕ → State B → Ran B
  singly prog zero s = ended s completed
  singly prog (suc n) s = and_then (run prog 1 s) (λ t. singly prog n t)

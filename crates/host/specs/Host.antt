-- The public step and run. Document 01: refusals 1 and 2; refused, event 0, no steps, and the record and every byte as they were.
use Rattle.std.specs.Prelude.{ℕ, cond, List, eqb, length, Result, Ok, Err}
use Rattle.board.specs.Program as b
use Rattle.board.specs.Run as n
use Rattle.regs.specs.declared.Machine.{Machine}
use Rattle.legal.specs.Legal.{whole_frames, allowed_bits}
use Rattle.legal.specs.declared.refusal.Refused.{Refused}
use Rattle.legal.specs.Refusal.{number_of}
use Rattle.bus.specs.Board.{real}
use Rattle.bus.specs.Leave.{event_of}
use Rattle.cpu.specs.Program.{program}
use Rattle.cpu.specs.Machine.{machine_state}
use Rattle.host.specs.declared.Stepped.{Stepped}
use Rattle.steps.specs.declared.Ran.{Ran}

-- the record among what a call leaves
abbrev pub machine_in : b.State real → Machine
machine_in s = record { regs = s.regs; ctl = s.ctl; mmu = s.mmu; ds = s.ds }

-- for a memory of n bytes
unfoldable pub refusal_of : Machine → (n : ℕ) → ℕ
refusal_of m n = cond (whole_frames n) (cond (allowed_bits m) 0 2) 1

-- an answer with the memory after it
pub record Outcome : Type 0 where
  pub refusal : ℕ
  pub ran : n.Ran real

-- refused, event 0 and no steps
abbrev pub ran : Result Ran Refused → (w : List ℕ) → Outcome
ran (Ok r) w =
    record { refusal = 0; ran = record { state = machine_state r.machine w; event = event_of r.event; steps = r.steps } }
ran (Err x) w = record { refusal = number_of x.refusal; ran = n.ended (machine_state x.machine w) b.completed }

unfoldable pub run_of : Machine → (w : List ℕ) (budget : ℕ) → Outcome
run_of m w budget =
    record {
      refusal = refusal_of m (length w);
      ran = cond (eqb (refusal_of m (length w)) 0) (n.run program budget (machine_state m w)) (n.ended (machine_state m w) b.completed);
    }

pub record StepOutcome : Type 0 where
  pub refusal : ℕ
  pub answer : b.Answer real

abbrev pub stepped : Result Stepped Refused → (w : List ℕ) → StepOutcome
stepped (Ok r) w =
    record { refusal = 0; answer = record { state = machine_state r.machine w; event = event_of r.event } }
stepped (Err x) w =
    record { refusal = number_of x.refusal; answer = record { state = machine_state x.machine w; event = b.completed } }

unfoldable pub step_of : Machine → (w : List ℕ) → StepOutcome
step_of m w =
    record {
      refusal = refusal_of m (length w);
      answer =
          cond (eqb (refusal_of m (length w)) 0) (n.step program (machine_state m w))
          (record { state = machine_state m w; event = b.completed });
    }

-- Demand 2, stated: a run of n steps is n steps, or fewer up to the first event other than 0; and what the chain below it rests on.
use Rattle.std.specs.Prelude.{ℕ, zero, suc, ◌+◌, ◌≤◌, ◌<◌, ◌≢◌, ◌≡◌, true, cond, List, [], ◌++◌, eqb, length, get_or, take, drop}
use Rattle.board.specs.Program.{State, Event, completed, violation, absent, other}
use Rattle.board.specs.Run.{run, ended, later, and_then, singly}
use Rattle.decode.specs.Opening.{entered, tabled}
use Rattle.regs.specs.declared.Machine.{Machine}
use Rattle.legal.specs.Legal.{allowed_bits}
use Rattle.legal.specs.Held.{Held}
use Rattle.bus.specs.Board.{real}
use Rattle.cpu.specs.Program.{program}
use Rattle.cpu.specs.Machine.{machine_state}
use Rattle.host.specs.Host.{machine_in, refusal_of, Outcome, run_of, StepOutcome, step_of}
use Rattle.form.specs.Form.{write_refusal, written, read_form}

-- ── one call after another ──

-- the steps that a step completed
unfoldable pub count_of : Event real → ℕ
count_of completed = 1
count_of (violation i a) = 0
count_of (absent p) = 0
count_of (other e) = 0

-- the answer of step as an answer of run; refused, no step completed
unfoldable pub as_run : StepOutcome → Outcome
as_run o =
    record {
      refusal = o.refusal;
      ran =
          record {
            state = o.answer.state;
            event = o.answer.event;
            steps = cond (eqb o.refusal 0) (count_of o.answer.event) 0;
          };
    }

-- another call on what the first left, its steps counted on: the answer of both
unfoldable pub joined : Outcome → Outcome → Outcome
joined o p = record { refusal = p.refusal; ran = later o.ran.steps p.ran }

-- a call on what o left, unless o ended in an event other than 0
unfoldable pub onward : Outcome → Event real → (Machine → List ℕ → Outcome) → Outcome
onward o completed f = joined o (f (machine_in o.ran.state) o.ran.state.mem)
onward o (violation i a) f = o
onward o (absent p) f = o
onward o (other e) f = o

abbrev pub followed : Outcome → (Machine → List ℕ → Outcome) → Outcome
followed o f = onward o o.ran.event f

-- n + 1 calls of step, or fewer up to the first event other than 0
unfoldable pub stepping : (n : ℕ) (m : Machine) (w : List ℕ) → Outcome
stepping zero m w = as_run (step_of m w)
stepping (suc n) m w = followed (as_run (step_of m w)) (λ t v. stepping n t v)

-- ── the statement ──

pub record Demand2 : Type 0 where
  -- of the machine's definition
  pub added : (a b : ℕ) (s : State real) → run program (a + b) s ≡ and_then (run program a s) (run program b)
  pub single : (n : ℕ) (s : State real) → run program n s ≡ singly program n s
  -- of the public calls, refused or not: budget 0; a + b is a and then b; n + 1 is n + 1 calls of step
  pub none : (m : Machine) (w : List ℕ) →
      run_of m w 0 ≡ record { refusal = refusal_of m (length w); ran = ended (machine_state m w) completed }
  pub run_added : (m : Machine) (w : List ℕ) (a b : ℕ) → run_of m w (a + b) ≡ followed (run_of m w a) (λ t v. run_of t v b)
  pub run_steps : (m : Machine) (w : List ℕ) (n : ℕ) → run_of m w (suc n) ≡ stepping n m w
  -- the count: all the budget where the event is 0, less where it is another
  pub all : (m : Machine) (w : List ℕ) (n : ℕ) → (run_of m w n).refusal ≡ 0 → (run_of m w n).ran.event ≡ completed →
      (run_of m w n).ran.steps ≡ n
  pub fewer : (m : Machine) (w : List ℕ) (n : ℕ) → (run_of m w n).ran.event ≢ completed → (run_of m w n).ran.steps < n
  -- what a call that wasn't refused hands back isn't refused by the next
  pub goes_on : (m : Machine) (w : List ℕ) (n : ℕ) → (run_of m w n).refusal ≡ 0 →
      refusal_of (machine_in (run_of m w n).ran.state) (length (run_of m w n).ran.state.mem) ≡ 0
  -- decoding's table is what the formats say, for each opening and operation code
  pub table : (o b : ℕ) → b < 256 → get_or (get_or tabled o []) b 0 ≡ entered o b
  -- the stored form: written and read back; read and written back
  pub written_reads : (m : Machine) (frames : ℕ) → Held m → allowed_bits m ≡ true → 1 ≤ frames → frames ≤ 16 →
      (out : List ℕ) → 101 ≤ length out →
      read_form (take 101 (written m frames out)) ≡ record { refusal = 0; machine = m; frames = frames }
  pub read_writes : (s : List ℕ) → ((i : ℕ) → get_or s i 0 < 256) → (read_form s).refusal ≡ 0 → (out : List ℕ) → 101 ≤ length out →
      (write_refusal (read_form s).machine (read_form s).frames (length out) ≡ 0)
      × (written (read_form s).machine (read_form s).frames out ≡ s ++ drop 101 out)

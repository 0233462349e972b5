-- Step and run for C: what each answers, and every lent byte afterwards. s is the stored form, w the memory, e the answer's bytes.
use Rattle.std.specs.Prelude.{ℕ, cond, List, eqb, length}
use Rattle.board.specs.Program as b
use Rattle.bus.specs.Board.{real}
use Rattle.form.specs.Form.{Reading, written, read_form}
use Rattle.events.specs.Events.{event_numbers}
use Rattle.events.specs.Bytes.{answer_bytes}
use Rattle.host.specs.Host.{machine_in, step_of, run_of}
use Rattle.lent.specs.Lent.{lent_refusal, completed_by}

-- ── step and run: the next machine in the form, the event in the answer ──

pub record Answered : Type 0 where
  pub refusal : ℕ
  pub form : List ℕ
  pub memory : List ℕ
  pub answer : List ℕ

abbrev pub answered : (refusal : ℕ) (s w e : List ℕ) → Answered
answered refusal s w e = record { refusal = refusal; form = s; memory = w; answer = e }

abbrev pub went : (frames : ℕ) (s : List ℕ) (t : b.State real) (e : b.Event real) (steps : ℕ) → Answered
went frames s t e steps = answered 0 (written (machine_in t) frames s) t.mem (answer_bytes (event_numbers e) steps)

unfoldable pub step_read : (a : Reading) (s w e : List ℕ) → Answered
step_read a s w e =
    cond (eqb (lent_refusal a (length w) (length e)) 0)
    (let t = (step_of a.machine w).answer in went a.frames s t.state t.event (completed_by t.event))
    (answered (lent_refusal a (length w) (length e)) s w e)

unfoldable pub step_form : (s w e : List ℕ) → Answered
step_form s w e = step_read (read_form s) s w e

unfoldable pub run_read : (a : Reading) (s w : List ℕ) (budget : ℕ) (e : List ℕ) → Answered
run_read a s w budget e =
    cond (eqb (lent_refusal a (length w) (length e)) 0)
    (let r = (run_of a.machine w budget).ran in went a.frames s r.state r.event r.steps)
    (answered (lent_refusal a (length w) (length e)) s w e)

unfoldable pub run_form : (s w : List ℕ) (budget : ℕ) (e : List ℕ) → Answered
run_form s w budget e = run_read (read_form s) s w budget e

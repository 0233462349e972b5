-- What each call over a stored form answers that runs no instruction, and every lent byte afterwards. s is the stored form, w the memory, e the
-- event's bytes.
use Rattle.std.specs.Prelude.{ℕ, ◌*◌, cond, not, ◌&&◌, List, eqb, leb, length}
use Rattle.board.specs.Program as b
use Rattle.pack.specs.Pack.{pack}
use Rattle.bus.specs.Board.{real}
use Rattle.legal.specs.Legal.{reset_record}
use Rattle.form.specs.Form.{Reading, form_length, most_frames, widths, fields_of, written, read_form}
use Rattle.events.specs.Events.{event_numbers}
use Rattle.events.specs.Bytes.{answer_length}
use Rattle.handed.specs.Handed.{event_in}
use Rattle.valid.specs.Valid.{Made, make_valid}
use Rattle.saves.specs.Saves.{Outcome}
use Rattle.deliver.specs.Deliver.{deliver_of}

-- ── reset: 3 unless the form has 101 bytes, then 1 unless frames is 1 to 16; no old byte is looked at ──

pub record Formed : Type 0 where
  pub refusal : ℕ
  pub form : List ℕ

abbrev pub formed : (refusal : ℕ) (s : List ℕ) → Formed
formed refusal s = record { refusal = refusal; form = s }

unfoldable pub reset_form : (s : List ℕ) (frames : ℕ) → Formed
reset_form s frames =
    cond (not (eqb (length s) form_length)) (formed 3 s)
    (cond (not (leb 1 frames && leb frames most_frames)) (formed 1 s) (formed 0 (pack widths (fields_of reset_record frames))))

-- ── what step, run and delivery refuse the buffers by: the reader's refusals; 1 unless there are exactly the form's frames; 3 unless 12
-- bytes are lent. a is what the form reads as. ──

unfoldable pub lent_refusal : (a : Reading) (memory bytes : ℕ) → ℕ
lent_refusal a memory bytes =
    cond (not (eqb a.refusal 0)) a.refusal
    (cond (not (eqb memory (a.frames * 4096))) 1 (cond (not (eqb bytes answer_length)) 3 0))

-- of one step, 1 completes or none
unfoldable pub completed_by : b.Event real → ℕ
completed_by e = cond (eqb (event_numbers e).number 0) 1 0

-- ── delivery: its own refusals are 8 and 9 ──

pub record Moved : Type 0 where
  pub refusal : ℕ
  pub form : List ℕ
  pub memory : List ℕ

abbrev pub moved : (refusal : ℕ) (s w : List ℕ) → Moved
moved refusal s w = record { refusal = refusal; form = s; memory = w }

unfoldable pub delivered_back : (frames : ℕ) (s : List ℕ) → Outcome → Moved
delivered_back frames s o =
    moved o.answer.refusal (cond (eqb o.answer.refusal 0) (written o.answer.machine frames s) s) o.memory

unfoldable pub deliver_read : (a : Reading) (s w e : List ℕ) → Moved
deliver_read a s w e =
    cond (eqb (lent_refusal a (length w) (length e)) 0)
    (delivered_back a.frames s (deliver_of a.machine w (event_in e)))
    (moved (lent_refusal a (length w) (length e)) s w)

unfoldable pub deliver_form : (s w e : List ℕ) → Moved
deliver_form s w e = deliver_read (read_form s) s w e

-- ── making valid: the reader's refusals, then 6 and 7 ──

unfoldable pub made_back : (frames : ℕ) (s : List ℕ) → Made → Formed
made_back frames s r =
    formed r.refusal (cond (eqb r.refusal 0) (written r.machine frames s) s)

unfoldable pub make_read : (a : Reading) (s : List ℕ) (i : ℕ) → Formed
make_read a s i = cond (eqb a.refusal 0) (made_back a.frames s (make_valid a.machine i)) (formed a.refusal s)

unfoldable pub make_form : (s : List ℕ) (i : ℕ) → Formed
make_form s i = make_read (read_form s) s i

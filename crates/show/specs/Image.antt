-- The printing program's answer to its whole input. Document 01, "Stored form".
use Rattle.std.specs.Prelude.{ℕ, ◌*◌, cond, List, ◌++◌, eqb, length, take, drop, get_or}
use Rattle.board.specs.Run as n
use Rattle.regs.specs.declared.Machine.{Machine}
use Rattle.bus.specs.Board.{real}
use Rattle.form.specs.Form.{Reading, form_length, read_form}
use Rattle.events.specs.Events.{event_numbers}
use Rattle.host.specs.Host.{run_of}
use Rattle.line.specs.declared.Shown.{Shown}
use Rattle.line.specs.declared.Shown.TheVariants.{Refused, Ended}

-- ---- the answer, with the bytes of the input afterwards

pub record Outcome : Type 0 where
  pub shown : Shown
  pub bytes : List ℕ

abbrev pub outcome : Shown → List ℕ → Outcome
outcome r w = record { shown = r; bytes = w }

abbrev pub ended : n.Ran real → Outcome
ended r = outcome (Ended (event_numbers r.event).number r.steps r.state.regs.pc) r.state.mem

-- m and f frames are the form's, w all that came after it: missing or extra memory is refusal 1, else 1,000 steps
unfoldable pub worked : Machine → (f : ℕ) (w : List ℕ) → Outcome
worked m f w = cond (eqb (length w) (f * 4096)) (ended (run_of m w 1000).ran) (outcome (Refused 1) w)

abbrev pub after : (s : List ℕ) → Outcome → Outcome
after s o = outcome o.shown (s ++ o.bytes)

-- the form's length by the first byte's version: that of version 1, and the same where it names none
abbrev pub length_named : (version : ℕ) → ℕ
length_named version = form_length

-- n bytes of s are the form, r what it reads as; the form's refusals come first
unfoldable pub answered : (s : List ℕ) (n : ℕ) (r : Reading) → Outcome
answered s n r =
    cond (eqb r.refusal 0) (after (take n s) (worked r.machine r.frames (drop n s))) (outcome (Refused r.refusal) s)

abbrev pub shown_with : (s : List ℕ) (n : ℕ) → Outcome
shown_with s n = answered s n (read_form (take n s))

-- input shorter than a form is a form of another length: refusal 3
unfoldable pub shown_of : (s : List ℕ) → Outcome
shown_of s = shown_with s (length_named (get_or s 0 0))

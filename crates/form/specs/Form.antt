-- Document 01, "Stored form" and "Refusal numbers": the fields, the writer, the reader.
use Rattle.std.specs.Prelude.{ℕ, ◌+◌, ◌-◌, ◌*◌, ◌/◌, ◌%◌, List, [], ◌∷◌, ◌++◌, Bool, cond, not, ◌&&◌, length, replicate, take, drop, get_or, leb, ltb, eqb, Result, Ok, Err}
use Rattle.pack.specs.Pack.{pack, unpack}
use Rattle.regs.specs.declared.Regs.{Regs}
use Rattle.regs.specs.declared.Control.{Control}
use Rattle.regs.specs.declared.Machine.{Machine}
use Rattle.legal.specs.Legal.{allowed_bits, reset_record}
use Rattle.legal.specs.Refusal.{number_of}
use Rattle.form.specs.declared.Restored.{Restored}
use Rattle.form.specs.declared.Unread.{Unread}

-- ---- the fields of version 1

-- version 8; frames less one 4; thirteen registers 16 each; bank bits 1 each; MSR 16; TCR 3; I/O page 8; the upper 12 bits of stack limit
-- and vector pointer; MMU control 16; thirty-two descriptors of 16; 7 zero bits
unfoldable pub widths : List ℕ
widths = 8 ∷ 4 ∷ replicate 13 16 ++ 1 ∷ 1 ∷ 16 ∷ 3 ∷ 8 ∷ 12 ∷ 12 ∷ 16 ∷ replicate 32 16 ++ 7 ∷ []

-- the form's bytes, and the frames that a memory may have
abbrev pub form_length : ℕ
form_length = 101

abbrev pub most_frames : ℕ
most_frames = 16

-- a bank bit: 1 is alternate
abbrev pub bit_for : Bool → ℕ
bit_for b = cond b 1 0

abbrev pub regs_fields : Regs → List ℕ
regs_fields r =
    r.af ∷ r.bc ∷ r.de ∷ r.hl ∷ r.af2 ∷ r.bc2 ∷ r.de2 ∷ r.hl2 ∷ r.ix ∷ r.iy ∷ r.pc ∷ r.ssp ∷ r.usp ∷ bit_for r.bankaf ∷ bit_for r.bankx ∷ []

abbrev pub control_fields : Control → List ℕ
control_fields c = c.msr ∷ c.tcr ∷ c.iopage ∷ (c.limit / 16) ∷ (c.vector / 16) ∷ []

-- the values that m has, with f frames of memory: those before the descriptors, and all
abbrev pub first_fields : Machine → ℕ → List ℕ
first_fields m f = 1 ∷ (f - 1) ∷ regs_fields m.regs ++ control_fields m.ctl ++ m.mmu ∷ []

unfoldable pub fields_of : Machine → ℕ → List ℕ
fields_of m f = first_fields m f ++ m.ds ++ 0 ∷ []

-- and back: what the values v name
abbrev pub regs_of : List ℕ → Regs
regs_of v =
    record { af = get_or v 2 0; bc = get_or v 3 0; de = get_or v 4 0; hl = get_or v 5 0; af2 = get_or v 6 0; bc2 = get_or v 7 0; de2 = get_or v 8 0; hl2 = get_or v 9 0; ix = get_or v 10 0; iy = get_or v 11 0; pc = get_or v 12 0; ssp = get_or v 13 0; usp = get_or v 14 0; bankaf = eqb (get_or v 15 0) 1; bankx = eqb (get_or v 16 0) 1 }

abbrev pub control_of : List ℕ → Control
control_of v =
    record { msr = get_or v 17 0; tcr = get_or v 18 0 % 256; iopage = get_or v 19 0 % 256; limit = get_or v 20 0 % 4096 * 16; vector = get_or v 21 0 % 4096 * 16 }

abbrev pub machine_with : List ℕ → List ℕ → Machine
machine_with v ds = record { regs = regs_of v; ctl = control_of v; mmu = get_or v 22 0; ds = ds }

unfoldable pub machine_of : List ℕ → Machine
machine_of v = machine_with v (take 32 (drop 23 v))

abbrev pub frames_of : List ℕ → ℕ
frames_of v = get_or v 1 0 + 1

-- ---- the writer: refusals 1, 2, 3

unfoldable pub write_refusal : Machine → ℕ → ℕ → ℕ
write_refusal m f room =
    cond (not (leb 1 f && leb f most_frames)) 1 (cond (not (allowed_bits m)) 2 (cond (ltb room form_length) 3 0))

-- what is in the buffer afterwards: a refused writer changes no byte, and the bytes past the form stay
unfoldable pub written : Machine → ℕ → List ℕ → List ℕ
written m f out = cond (eqb (write_refusal m f (length out)) 0) (pack widths (fields_of m f) ++ drop form_length out) out

-- ---- the reader: refusals 3, 4, 10, 2, 5

-- an answer: 0 or the refusal's number, the machine, and the frames of its memory
pub record Reading : Type 0 where
  pub refusal : ℕ
  pub machine : Machine
  pub frames : ℕ

abbrev pub reading : Result Restored Unread → Reading
reading (Ok r) = record { refusal = 0; machine = r.machine; frames = r.frames }
reading (Err u) = record { refusal = number_of u.refusal; machine = u.restored.machine; frames = u.restored.frames }

-- a refused reader gives the reset record and one frame
unfoldable pub refused : ℕ → Reading
refused n = record { refusal = n; machine = reset_record; frames = 1 }

unfoldable pub restored : List ℕ → Reading
restored v = record { refusal = 0; machine = machine_of v; frames = frames_of v }

unfoldable pub read_fields : List ℕ → Reading
read_fields v =
    cond (not (eqb (get_or v 0 0) 1)) (refused 4)
    (cond (not (leb (frames_of v) most_frames)) (refused 10)
    (cond (not (allowed_bits (machine_of v))) (refused 2)
    (cond (not (eqb (get_or v 55 0) 0)) (refused 5) (restored v))))

unfoldable pub read_form : List ℕ → Reading
read_form s = cond (not (eqb (length s) form_length)) (refused 3) (read_fields (unpack widths s))

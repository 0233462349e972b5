-- Which way each test of the writer and of the reader leads.
use mathlib.Core.Path.{◌≡◌, ◌∙◌, sym}
use mathlib.Core.Bool.{Bool, true, false}
use mathlib.Core.List.{List, ◌++◌, append-nil}
use Prim.Native.Nat.{ℕ, suc, ◌<◌, ◌≤◌}
use native.Mathlib.Omega.{arith}
use lib.Dec.{leb, eqb-suc-zero}
use lib.ListN.{length, replicate, get_or, take, drop, length-drop}
use lib.Seq.{length-take-le}
use borrow.Author.Tests.{le-leb, lt-leb, lt-ltb, le-ltb, eq-eqb, ne_eqb}
use Rattle.pack.specs.Pack.{pack, unpack, pasted}
use Rattle.regs.specs.declared.Machine.{Machine}
use Rattle.legal.specs.Legal.{allowed_bits}
use Rattle.form.specs.Form.{Reading, widths, fields_of, machine_of, frames_of, write_refusal, written, refused, restored, read_fields, read_form}

-- ---- the writer: t is what the test of the bits answered

module _ (m : Machine) (f : ℕ) (out : List ℕ) where
  -- a refused writer changes no byte
  stays : (n : ℕ) → write_refusal m f (length out) ≡ suc n → (suc n ≡ write_refusal m f (length out)) × (out ≡ written m f out)
  unfolding written
  stays n e = (sym e, rw (e, eqb-suc-zero n))

  pub goes : write_refusal m f (length out) ≡ 0 → written m f out ≡ pack widths (fields_of m f) ++ drop 101 out
  unfolding written
  goes e = rw e

  pub none_1 : f < 1 → (1 ≡ write_refusal m f (length out)) × (out ≡ written m f out)
  unfolding write_refusal
  none_1 h = stays 0 (rw (lt-leb 1 f h))

  module _ (some : 1 ≤ f) where
    pub many_1 : 16 < f → (1 ≡ write_refusal m f (length out)) × (out ≡ written m f out)
    unfolding write_refusal
    many_1 h = stays 0 (rw (le-leb 1 f some, lt-leb f 16 h))

    module _ (few : f ≤ 16) where
      pub bits_2 : (t : Bool) → t ≡ allowed_bits m → t ≡ false → (2 ≡ write_refusal m f (length out)) × (out ≡ written m f out)
      unfolding write_refusal
      bits_2 t e h = stays 1 (rw (le-leb 1 f some, le-leb f 16 few, ← e, h))

      module _ (allowed : allowed_bits m ≡ true) where
        pub room_3 : length out < 101 → (3 ≡ write_refusal m f (length out)) × (out ≡ written m f out)
        unfolding write_refusal
        room_3 h = stays 2 (rw (le-leb 1 f some, le-leb f 16 few, allowed, lt-ltb (length out) 101 h))

        module _ (room : 101 ≤ length out) where
          pub fine_0 : write_refusal m f (length out) ≡ 0
          unfolding write_refusal
          fine_0 = rw (le-leb 1 f some, le-leb f 16 few, allowed, le-ltb (length out) 101 room)

          pub form_0 : (vs after : List ℕ) → vs ≡ fields_of m f → after ≡ pack widths vs ++ drop 101 out
              → (0 ≡ write_refusal m f (length out)) × (after ≡ written m f out)
          form_0 vs after v e = (sym fine_0, e ∙ rw v (sym (goes fine_0)))

-- ---- the reader

module _ (v : List ℕ) where
  pub version_4 : (x : Reading) → (get_or v 0 0 ≡ 1 → ⊥) → x ≡ refused 4 → x ≡ read_fields v
  unfolding read_fields
  version_4 x h e = rw (ne_eqb (get_or v 0 0) 1 h) e

  module _ (one : get_or v 0 0 ≡ 1) where
    pub frames_10 : (x : Reading) → 16 ≤ get_or v 1 0 → x ≡ refused 10 → x ≡ read_fields v
    unfolding read_fields
    frames_10 x h e = rw (eq-eqb (get_or v 0 0) 1 one, lt-leb (frames_of v) 16 (omega arith)) e

    module _ (few : get_or v 1 0 < 16) (m : Machine) (is : m ≡ machine_of v) (t : Bool) (test : t ≡ allowed_bits m) where
      frames_fine : leb (frames_of v) 16 ≡ true
      frames_fine = le-leb (frames_of v) 16 (omega arith)

      pub bits_r2 : (x : Reading) → t ≡ false → x ≡ refused 2 → x ≡ read_fields v
      unfolding read_fields
      bits_r2 x h e = rw (eq-eqb (get_or v 0 0) 1 one, frames_fine, ← is, ← test, h) e

      module _ (fine : t ≡ true) where
        pub padding_5 : (x : Reading) → (get_or v 55 0 ≡ 0 → ⊥) → x ≡ refused 5 → x ≡ read_fields v
        unfolding read_fields
        padding_5 x h e = rw (eq-eqb (get_or v 0 0) 1 one, frames_fine, ← is, ← test, fine, ne_eqb (get_or v 55 0) 0 h) e

        pub read_0 : get_or v 55 0 ≡ 0 → record { refusal = 0; machine = m; frames = frames_of v } ≡ read_fields v
        unfolding read_fields restored
        read_0 h = rw (eq-eqb (get_or v 0 0) 1 one, frames_fine, ← is, ← test, fine, eq-eqb (get_or v 55 0) 0 h)

pub length_3 : (s : List ℕ) → (length s ≡ 101 → ⊥) → read_form s ≡ refused 3
unfolding read_form
length_3 s h = rw (ne_eqb (length s) 101 h)

pub length_fine : (s : List ℕ) → length s ≡ 101 → read_form s ≡ read_fields (unpack widths s)
unfolding read_form
length_fine s h = rw (eq-eqb (length s) 101 h)

-- thirty-two descriptors copied over as many
pub whole_part : (v : List ℕ) → length v ≡ 56 → pasted (replicate 32 0) 0 (take 32 (drop 23 v)) ≡ take 32 (drop 23 v)
whole_part v e =
    let n : length (take 32 (drop 23 v)) ≡ 32 = length-take-le 32 (drop 23 v) (rw length-drop (omega arith)) in
    rw n (append-nil (take 32 (drop 23 v)))

-- A machine written to its stored form reads back the same, and each accepted form is the one that the writer writes.
use mathlib.Core.Path.{◌≡◌, refl, ap, ◌∙◌, sym}
use mathlib.Core.Bool.{Bool, true, false, cond, not}
use mathlib.Core.List.{List, [], ◌∷◌, ◌++◌}
use Prim.Native.Nat.{ℕ, zero, suc, ◌+◌, ◌-◌, ◌*◌, ◌/◌, ◌%◌, ◌^◌, ◌<◌, ◌≤◌}
use native.Mathlib.Omega.{arith}
use native.Mathlib.Nat.{zero-add}
use lib.Dec.{leb, eqb, lit<}
use lib.ListN.{length, get_or, take, drop, length-replicate, take-append-drop, drop_of_length-le}
use lib.Seq.{take_at, get_or_at, drop-cons, drop-drop}
use borrow.Author.Tests.{leb-true, eqb-true}
use Rattle.pack.specs.Pack.{total, size, eights, join_from, number, Fit, pack, unpack}
use Rattle.pack.proofs.Laws.{Bytes, unpack_pack, pack_unpack, length_cut, cut_fit, fit_at}
use Rattle.regs.specs.declared.Regs.{Regs}
use Rattle.regs.specs.declared.Control.{Control}
use Rattle.regs.specs.declared.Machine.{Machine}
use Rattle.legal.specs.Legal.{allowed_bits}
use Rattle.legal.specs.Held.{Held}
use Rattle.form.specs.Form.{Reading, bit_for, widths, fields_of, regs_of, control_of, machine_of, frames_of, write_refusal, written, refused, restored, read_fields, read_form}
use Rattle.form.proofs.Facts.{table, fields_fit, allowed_is}
use Rattle.form.proofs.Tests.{length_fine, read_0, goes, fine_0}

-- ---- written, then read

bit_back : (b : Bool) → eqb (bit_for b) 1 ≡ b
bit_back true = refl
bit_back false = refl

rebuilt : (m : Machine) (r : Regs) (c : Control) (ds : List ℕ) → r ≡ m.regs → c ≡ m.ctl → ds ≡ m.ds
    → ◌≡◌ {A = Machine} (record { regs = r; ctl = c; mmu = m.mmu; ds = ds }) m
rebuilt m r c ds er ec ed = rw (er, ec, ed)

module _ (m : Machine) (f : ℕ) (h : Held m) (ok : allowed_bits m ≡ true) where
  regs_back : regs_of (fields_of m f) ≡ m.regs
  unfolding fields_of
  regs_back = rw (bit_back m.regs.bankaf, bit_back m.regs.bankx)

  control_back : control_of (fields_of m f) ≡ m.ctl
  unfolding fields_of
  control_back =
      let c = m.ctl in
      let a = allowed_is m ok in
      let t : c.tcr % 256 ≡ c.tcr = omega (arith, h.ctl.tcr) in
      let i : c.iopage % 256 ≡ c.iopage = omega (arith, h.ctl.iopage) in
      let l : c.limit / 16 % 4096 * 16 ≡ c.limit = omega (arith, h.ctl.limit, a.limit) in
      let v : c.vector / 16 % 4096 * 16 ≡ c.vector = omega (arith, h.ctl.vector, a.vector) in
      rw (t, i, l, v)

  ds_back : take 32 (drop 23 (fields_of m f)) ≡ m.ds
  unfolding fields_of
  ds_back = take_at m.ds (0 ∷ []) 32 h.long

  machine_back : machine_of (fields_of m f) ≡ m
  unfolding machine_of fields_of
  machine_back = rebuilt m (regs_of (fields_of m f)) (control_of (fields_of m f)) _ regs_back control_back ds_back

  version_field : get_or (fields_of m f) 0 0 ≡ 1
  unfolding fields_of
  version_field = refl

  frames_field : get_or (fields_of m f) 1 0 ≡ f - 1
  unfolding fields_of
  frames_field = refl

  padding_field : get_or (fields_of m f) 55 0 ≡ 0
  unfolding fields_of
  padding_field = get_or_at m.ds 0 [] 0 32 h.long

  module _ (some : 1 ≤ f) (few : f ≤ 16) where
    frames_back : frames_of (fields_of m f) ≡ f
    frames_back = omega (arith, frames_field)

    fields_back : read_fields (fields_of m f) ≡ record { refusal = 0; machine = m; frames = f }
    fields_back =
        sym (read_0 (fields_of m f) version_field (omega (arith, frames_back)) m (sym machine_back) true (sym ok) refl padding_field)
        ∙ rw frames_back

    long : length (pack widths (fields_of m f)) ≡ 101
    unfolding pack total size widths
    long = length_cut (eights 101) (join_from 0 widths (fields_of m f)) ∙ length-replicate {A = ℕ} 101 8

    -- what the writer writes reads back as the machine and the frames
    pub written_reads : (out : List ℕ) → 101 ≤ length out
        → read_form (take 101 (written m f out)) ≡ record { refusal = 0; machine = m; frames = f }
    written_reads out room =
        let e : written m f out ≡ pack widths (fields_of m f) ++ drop 101 out = goes m f out (fine_0 m f out some few ok room) in
        let t : take 101 (written m f out) ≡ pack widths (fields_of m f) = rw e (take_at (pack widths (fields_of m f)) (drop 101 out) 101 long) in
        ap read_form t
        ∙ length_fine (pack widths (fields_of m f)) long
        ∙ ap read_fields (unpack_pack widths (fields_of m f) table.whole (fields_fit m h f ok some few))
        ∙ fields_back

-- ---- read, then written

-- the tests of an accepted form all passed
accepted : (a b c d : Bool) (x : Reading)
    → (cond (not a) (refused 4) (cond (not b) (refused 10) (cond (not c) (refused 2) (cond (not d) (refused 5) x)))).refusal ≡ 0
    → (a ≡ true) × (b ≡ true) × (c ≡ true) × (d ≡ true)
unfolding refused
accepted true true true true x e = (refl, refl, refl, refl)
accepted true true true false x e = absurd (omega arith)
accepted true true false d x e = absurd (omega arith)
accepted true false c d x e = absurd (omega arith)
accepted false b c d x e = absurd (omega arith)

long_enough : (a : Bool) (x : Reading) → (cond (not a) (refused 3) x).refusal ≡ 0 → a ≡ true
unfolding refused
long_enough true x e = refl
long_enough false x e = absurd (omega arith)

-- n values from index i on, written out, before the rest
abbrev opened : ℕ → ℕ → List ℕ → List ℕ → List ℕ
opened zero i v r = r
opened (suc n) i v r = get_or v i 0 ∷ opened n (suc i) v r

open_up : (n i : ℕ) (v : List ℕ) → i + n ≤ length v → drop i v ≡ opened n i v (drop (n + i) v)
open_up zero i v h = rw (zero-add i)
open_up (suc n) i v h =
    let l : i < length v = omega arith in
    let e : n + suc i ≡ suc n + i = omega arith in
    drop-cons v i 0 l ∙ ap (λ (t : List ℕ). get_or v i 0 ∷ t) (rw e at (open_up n (suc i) v (omega arith)))

-- fifty-six values, of which nine are named
unfoldable row : List ℕ → ℕ → ℕ → ℕ → ℕ → ℕ → ℕ → ℕ → ℕ → ℕ → List ℕ
row v a b c d e f g h z =
    a ∷ b ∷ get_or v 2 0 ∷ get_or v 3 0 ∷ get_or v 4 0 ∷ get_or v 5 0 ∷ get_or v 6 0 ∷ get_or v 7 0 ∷ get_or v 8 0 ∷ get_or v 9 0 ∷ get_or v 10 0 ∷ get_or v 11 0 ∷ get_or v 12 0 ∷ get_or v 13 0 ∷ get_or v 14 0 ∷ c ∷ d ∷ get_or v 17 0 ∷ e ∷ f ∷ g ∷ h ∷ get_or v 22 0 ∷ take 32 (drop 23 v) ++ z ∷ []

row_fields : (v : List ℕ) (n : ℕ)
    → fields_of (machine_of v) n
    ≡ row v 1 (n - 1) (bit_for (eqb (get_or v 15 0) 1)) (bit_for (eqb (get_or v 16 0) 1)) (get_or v 18 0 % 256) (get_or v 19 0 % 256)
    (get_or v 20 0 % 4096 * 16 / 16) (get_or v 21 0 % 4096 * 16 / 16) 0
unfolding row fields_of machine_of
row_fields v n = refl

row_whole : (v : List ℕ) → length v ≡ 56
    → v ≡ row v (get_or v 0 0) (get_or v 1 0) (get_or v 15 0) (get_or v 16 0) (get_or v 18 0) (get_or v 19 0) (get_or v 20 0) (get_or v 21 0) (get_or v 55 0)
unfolding row
row_whole v e =
    let last : drop 32 (drop 23 v) ≡ get_or v 55 0 ∷ [] =
    drop-drop 32 23 v ∙ drop-cons v 55 0 (omega arith) ∙ ap (λ (t : List ℕ). get_or v 55 0 ∷ t) (drop_of_length-le v {i = 56} (omega arith)) in
    let back : drop 23 v ≡ take 32 (drop 23 v) ++ get_or v 55 0 ∷ [] =
    sym (take-append-drop 32 (drop 23 v)) ∙ ap (λ (t : List ℕ). take 32 (drop 23 v) ++ t) last in
    open_up 23 0 v (omega arith) ∙ ap (λ (t : List ℕ). opened 23 0 v t) back

bit_there : (x : ℕ) → x < 2 → bit_for (eqb x 1) ≡ x
bit_there zero h = refl
bit_there (suc zero) h = refl
bit_there (suc (suc x)) h = absurd (omega arith)

-- values that fit the table, with version 1 and no padding, are those of the machine that they name
fields_there : (v : List ℕ) → Fit widths v → length v ≡ 56 → get_or v 0 0 ≡ 1 → get_or v 55 0 ≡ 0 → fields_of (machine_of v) (frames_of v) ≡ v
unfolding widths
fields_there v f e one pad =
    let at : (i : ℕ) → i < 56 → get_or v i 0 < 2 ^ get_or widths i 0 = fit_at widths v f in
    let e1 : get_or v 1 0 + 1 - 1 ≡ get_or v 1 0 = omega arith in
    let e15 : bit_for (eqb (get_or v 15 0) 1) ≡ get_or v 15 0 = bit_there _ (at 15 (lit< tt)) in
    let e16 : bit_for (eqb (get_or v 16 0) 1) ≡ get_or v 16 0 = bit_there _ (at 16 (lit< tt)) in
    let e18 : get_or v 18 0 % 256 ≡ get_or v 18 0 = omega (arith, at 18 (lit< tt)) in
    let e19 : get_or v 19 0 % 256 ≡ get_or v 19 0 = omega (arith, at 19 (lit< tt)) in
    let e20 : get_or v 20 0 % 4096 * 16 / 16 ≡ get_or v 20 0 = omega (arith, at 20 (lit< tt)) in
    let e21 : get_or v 21 0 % 4096 * 16 / 16 ≡ get_or v 21 0 = omega (arith, at 21 (lit< tt)) in
    row_fields v (frames_of v) ∙ (cc) ∙ sym (row_whole v e)

module _ (s : List ℕ) where
  values_fit : Fit widths (unpack widths s)
  unfolding unpack
  values_fit = cut_fit widths (number s)

  as_many : length (unpack widths s) ≡ 56
  unfolding unpack widths
  as_many = length_cut widths (number s)

  size_of : length s ≡ 101 → length s ≡ size widths
  unfolding size total widths
  size_of n = n

  -- no form meets refusal 10: each pattern of the frame field names a permitted count
  pub never_ten : frames_of (unpack widths s) ≤ 16
  unfolding widths
  never_ten = omega (arith, fit_at widths (unpack widths s) values_fit 1 (lit< tt))

  -- an accepted form is what the writer writes of the machine and the frames that were read
  module _ (bytes : Bytes s) (ok : (read_form s).refusal ≡ 0) where
    n : length s ≡ 101
    unfolding read_form
    n = eqb-true _ _ (long_enough (eqb (length s) 101) (read_fields (unpack widths s)) ok)

    tests : (get_or (unpack widths s) 0 0 ≡ 1) × (frames_of (unpack widths s) ≤ 16) × (allowed_bits (machine_of (unpack widths s)) ≡ true)
        × (get_or (unpack widths s) 55 0 ≡ 0)
    unfolding read_fields
    tests =
        let v : List ℕ = unpack widths s in
        let a = accepted (eqb (get_or v 0 0) 1) (leb (frames_of v) 16) (allowed_bits (machine_of v)) (eqb (get_or v 55 0) 0) (restored v)
        (sym (ap (λ (r : Reading). r.refusal) (length_fine s n)) ∙ ok) in
        (eqb-true _ _ a.0, leb-true _ _ a.1, a.2, eqb-true _ _ a.3)

    read_is : read_form s ≡ restored (unpack widths s)
    unfolding restored
    read_is =
        let v : List ℕ = unpack widths s in
        length_fine s n ∙ sym (read_0 v tests.0 (omega (arith, tests.1)) (machine_of v) refl true (sym tests.2) refl tests.3)

    repacked : pack widths (fields_of (machine_of (unpack widths s)) (frames_of (unpack widths s))) ≡ s
    repacked =
        ap (pack widths) (fields_there (unpack widths s) values_fit as_many tests.0 tests.3)
        ∙ pack_unpack widths s table.whole (size_of n) bytes

    pub read_writes : (out : List ℕ) → 101 ≤ length out
        → (write_refusal (read_form s).machine (read_form s).frames (length out) ≡ 0)
        × (written (read_form s).machine (read_form s).frames out ≡ s ++ drop 101 out)
    unfolding restored
    read_writes out room =
        let v : List ℕ = unpack widths s in
        let z : write_refusal (machine_of v) (frames_of v) (length out) ≡ 0 =
        fine_0 (machine_of v) (frames_of v) out (omega arith) tests.1 tests.2 room in
        let w : written (machine_of v) (frames_of v) out ≡ s ++ drop 101 out =
        goes (machine_of v) (frames_of v) out z ∙ ap (λ (t : List ℕ). t ++ drop 101 out) repacked in
        rw read_is (z, w)

-- The first 65,638 bytes of an input decide what is shown; the run of an accepted form with exactly its frames is not refused; each
-- promise determines its answer and every byte.
use Prim.Native.Nat.{ℕ, ◌*◌, ◌<◌, ◌≤◌}
use mathlib.Core.Path.{◌≡◌, refl, sym, ◌∙◌, ap, subst}
use Rattle.std.proofs.Math.Bridge.{le_prop}
use mathlib.Core.Bool.{Bool, true, false}
use mathlib.Core.List.{List}
use native.Mathlib.Omega.{arith}
use borrow.Author.Tests.{leb-true, leb-false, eqb-true, ne_eqb}
use lib.Dec.{leb, eqb}
use lib.ListN.{length, take, drop, length-drop}
use lib.Seq.{take_all, take-take, length-take-le}
use Rattle.regs.specs.declared.Machine.{Machine}
use Rattle.form.specs.Form.{Reading, read_form}
use Rattle.form.proofs.Accepted.{Accepted, accepted}
use Rattle.std.specs.Prelude.{Result, Ok, Err}
use Rattle.legal.specs.declared.refusal.Refusal.{Refusal}
use Rattle.legal.proofs.Numbers.{numbered, numbered_back}
use Rattle.host.specs.Host.{run_of}
use Rattle.line.specs.declared.End.{End}
use Rattle.line.specs.declared.buffer.Line.{Line}
use Rattle.line.specs.declared.Shown.{Shown}
use Rattle.line.specs.declared.Shown.TheVariants.{Refused, Ended}
use Rattle.line.specs.Line.{shows, Spells}
use Rattle.show.proofs.Laws.{accepted_run}
use Rattle.show.specs.Image.{Outcome, outcome, worked, answered, shown_of}

-- ---- an accepted form

pub not_refused : (t w : List ℕ) → (read_form t).refusal ≡ 0 → length w ≡ (read_form t).frames * 4096 →
    (run_of (read_form t).machine w 1000).refusal ≡ 0
not_refused = accepted_run

-- ---- how much is read

-- a form, sixteen frames and a byte
abbrev pub enough : ℕ
enough = 65638

too_much : (m : Machine) (f : ℕ) (w : List ℕ) → f ≤ 16 → 65536 < length w → (worked m f w).shown ≡ Refused 1
unfolding worked
too_much m f w h l = rw (ne_eqb (length w) (f * 4096) (λ e. omega (arith, e)))

-- r is what the form reads as, s and t two inputs that begin with it
alike : (long : Bool) (r : Reading) (s t : List ℕ) → (r.refusal ≡ 0 → Accepted long r) → 65536 < length (drop 101 s) → 65536 < length (drop 101 t) →
    (b : Bool) → eqb r.refusal 0 ≡ b → (answered s 101 r).shown ≡ (answered t 101 r).shown
unfolding answered
alike long r s t ok l k true e =
    let a = ok (eqb-true r.refusal 0 e) in
    rw (e, too_much r.machine r.frames (drop 101 s) a.few l, too_much r.machine r.frames (drop 101 t) a.few k)
alike long r s t ok l k false e = rw e

cut : (s : List ℕ) (b : Bool) → leb (length s) enough ≡ b → (shown_of (take enough s)).shown ≡ (shown_of s).shown
unfolding shown_of
cut s true e = rw (take_all enough s (leb-true (length s) enough e))
cut s false e =
    let l : enough < length s = leb-false (length s) enough e in
    let n : length (take enough s) ≡ enough = length-take-le enough s (omega arith) in
    let i : 65536 < length (drop 101 (take enough s)) = rw (length-drop, n) (omega arith) in
    let j : 65536 < length (drop 101 s) = rw length-drop (omega arith) in
    rw (take-take 101 enough s (omega arith))
    (alike _ (read_form (take 101 s)) (take enough s) s (accepted (take 101 s)) i j (eqb (read_form (take 101 s)).refusal 0) refl)

pub read_enough : (s : List ℕ) → (shown_of (take enough s)).shown ≡ (shown_of s).shown
read_enough s = cut s (leb (length s) enough) refl

-- ---- no two answers meet the promise

abbrev answer : Shown → Result End Refusal
answer (Refused n) = Err (numbered n)
answer (Ended e n pc) = Ok (record { event = e; steps = n; pc = pc })

answer_back : (r : Result End Refusal) → answer (shows r) ≡ r
answer_back (Ok e) = refl
answer_back (Err k) = rw (numbered_back k)

pub shown_once : (s : List ℕ) (x y : Result End Refusal) (u v : List ℕ) → outcome (shows x) u ≡ shown_of s → outcome (shows y) v ≡ shown_of s →
    (x ≡ y) × (u ≡ v)
shown_once s x y u v p q =
    let e : outcome (shows x) u ≡ outcome (shows y) v = p ∙ sym q in
    (sym (answer_back x) ∙ ap (λ (o : Outcome). answer o.shown) e ∙ answer_back y, ap (λ (o : Outcome). o.bytes) e)

-- a line's ghost field is a bound, of which there is one proof
same_room : (t : List ℕ) (j k : ℕ) (u : j ≤ 32) → j ≡ k → (v : k ≤ 32) →
    ◌≡◌ {A = Line} (record { text = t; n = j; in_room = u }) (record { text = t; n = k; in_room = v })
same_room t j k u e =
    let P : ℕ → Type 0 = λ x. (v : x ≤ 32) →
    ◌≡◌ {A = Line} (record { text = t; n = j; in_room = u }) (record { text = t; n = x; in_room = v }) in
    subst P e (λ v. ap (λ (z : j ≤ 32). record { text = t; n = j; in_room = z }) (le_prop u v))

pub line_once : (t : List ℕ) (x y : Line) → Spells x t → Spells y t → x ≡ y
line_once t x y p q =
    ap (λ (a : List ℕ). record { text = a; n = x.n; in_room = x.in_room }) (p.spelt ∙ sym q.spelt) ∙
    same_room y.text x.n y.n x.in_room (p.long ∙ sym q.long) y.in_room

-- A law for each way out of a call, over plain values.
use Prim.Native.Nat.{ℕ, ◌*◌}
use mathlib.Core.Path.{◌≡◌, refl, sym}
use mathlib.Core.Bool.{Bool, true, false, cond, not, ◌&&◌}
use mathlib.Core.List.{List, append-nil}
use native.Mathlib.Omega.{arith}
use borrow.Author.Tests.{eqb-true, eqb-false, ne_eqb}
use Rattle.std.specs.Prelude.{◌≢◌}
use lib.Dec.{eqb, leb}
use lib.ListN.{length, drop_of_length-le}
use Rattle.regs.specs.declared.Machine.{Machine}
use Rattle.std.specs.Prelude.{Ok, Err}
use Rattle.legal.specs.Legal.{allowed_bits, reset_record}
use Rattle.legal.specs.declared.refusal.Refusal.{Refusal}
use Rattle.legal.specs.declared.refusal.Refused.{Refused}
use Rattle.legal.specs.Refusal.{number_of}
use Rattle.legal.proofs.Numbers.{not_0}
use Rattle.pack.specs.Pack.{pack}
use Rattle.form.specs.declared.Restored.{Restored}
use Rattle.form.specs.declared.Unread.{Unread}
use Rattle.form.specs.Form.{Reading, reading, widths, fields_of, write_refusal, written, read_form}
use Rattle.handed.specs.Handed.{event_in}
use Rattle.bus.specs.declared.kinds.Event.{Event}
use Rattle.valid.specs.Valid.{made, make_valid}
use Rattle.saves.specs.Saves.{outcome}
use Rattle.deliver.specs.Deliver.{deliver_of}
use Rattle.lent.specs.Lent.{formed, reset_form, lent_refusal, moved, delivered_back, deliver_read, deliver_form, made_back, make_read, make_form}

-- ---- the buffers

passed : (r : ℕ) (f g : Bool) → cond (not (eqb r 0)) r (cond (not f) 1 (cond (not g) 3 0)) ≡ 0 → (r ≡ 0) × (f ≡ true) × (g ≡ true)
passed r f g h = go (eqb r 0) refl f g h
  where
    go : (z : Bool) → eqb r 0 ≡ z → (f g : Bool) → cond (not z) r (cond (not f) 1 (cond (not g) 3 0)) ≡ 0 → (r ≡ 0) × (f ≡ true) × (g ≡ true)
    go true e true true h = (eqb-true r 0 e, refl, refl)
    go true e true false h = absurd (omega (arith, h))
    go true e false g h = absurd (omega (arith, h))
    go false e f g h = absurd (eqb-false r 0 e h)

-- what a call that goes on was lent
pub taken : (a : Reading) (memory bytes : ℕ) → lent_refusal a memory bytes ≡ 0 → (a.refusal ≡ 0) × (memory ≡ a.frames * 4096) × (bytes ≡ 12)
unfolding lent_refusal
taken a memory bytes h =
    let p = passed a.refusal (eqb memory (a.frames * 4096)) (eqb bytes 12) h in
    (p.0, eqb-true memory (a.frames * 4096) p.1, eqb-true bytes 12 p.2)

pub twelve : (a : Reading) (memory bytes : ℕ) → 0 ≡ lent_refusal a memory bytes → bytes ≡ 12
twelve a memory bytes q = (taken a memory bytes (sym q)).2

pub form_refused : (u : Unread) (r : Reading) (memory bytes : ℕ) → reading (Err u) ≡ r → number_of u.refusal ≡ lent_refusal r memory bytes
unfolding lent_refusal
form_refused u r memory bytes e = rw (← e, not_0 u.refusal)

-- ---- delivery

module _ (s w e : List ℕ) where
  pub deliver_refused : (k : Refusal) → number_of k ≡ lent_refusal (read_form s) (length w) (length e) → moved (number_of k) s w ≡ deliver_form s w e
  unfolding deliver_form deliver_read
  deliver_refused k q = rw (← q, not_0 k)

  module _ (a : Restored) (q : 0 ≡ lent_refusal (read_form s) (length w) (length e)) (p : reading (Ok a) ≡ read_form s)
      (v : Event) (y : v ≡ event_in e) where
    pub undelivered : (x : Refused) (w' : List ℕ) → outcome (Err x) w' ≡ deliver_of a.machine w v → moved (number_of x.refusal) s w' ≡ deliver_form s w e
    unfolding deliver_form deliver_read delivered_back
    undelivered x w' f = rw (← q, ← p, ← y, ← f, not_0 x.refusal)

    pub delivered_on : (t : Machine) (w' : List ℕ) → outcome (Ok t) w' ≡ deliver_of a.machine w v →
        (s' : List ℕ) → s' ≡ written t a.frames s → moved 0 s' w' ≡ deliver_form s w e
    unfolding deliver_form deliver_read delivered_back
    delivered_on t w' x s' f = rw (← q, ← p, ← y, ← x, f)

-- ---- making valid

module _ (s : List ℕ) (i : ℕ) where
  pub make_refused : (u : Unread) → reading (Err u) ≡ read_form s → formed (number_of u.refusal) s ≡ make_form s i
  unfolding make_form make_read
  make_refused u p = rw (← p, not_0 u.refusal)

  module _ (a : Restored) (p : reading (Ok a) ≡ read_form s) where
    pub unmade : (x : Refused) → made (Err x) ≡ make_valid a.machine i → formed (number_of x.refusal) s ≡ make_form s i
    unfolding make_form make_read made_back
    unmade x f = rw (← p, ← f, not_0 x.refusal)

    pub made_on : (t : Machine) → made (Ok t) ≡ make_valid a.machine i → (s' : List ℕ) → s' ≡ written t a.frames s → formed 0 s' ≡ make_form s i
    unfolding make_form make_read made_back
    made_on t x s' f = rw (← p, ← x, f)

-- ---- reset

-- the writer's answer is the definition's, with x whether the frames are 1 to 16
each : (x : Bool) (new old : List ℕ) →
    formed (cond (not x) 1 0) (cond (eqb (cond (not x) 1 0) 0) new old) ≡ cond (not x) (formed 1 old) (formed 0 new)
each true new old = refl
each false new old = refl

module _ (s : List ℕ) (frames : ℕ) where
  pub other_length : length s ≢ 101 → formed 3 s ≡ reset_form s frames
  unfolding reset_form
  other_length t = rw (ne_eqb (length s) 101 t)

  pub reset_on : length s ≡ 101 → (m : Machine) → m ≡ reset_record →
      (k : ℕ) (s' : List ℕ) → (k ≡ write_refusal m frames (length s)) × (s' ≡ written m frames s) → formed k s' ≡ reset_form s frames
  unfolding reset_form written write_refusal
  reset_on l m h k s' f =
      let all : allowed_bits reset_record ≡ true = unfold allowed_bits in refl in
      rw (f.0, f.1, h, l, all, drop_of_length-le s {i = 101} (omega (arith, l)), append-nil (pack widths (fields_of reset_record frames)))
      (each (leb 1 frames && leb frames 16) (pack widths (fields_of reset_record frames)) s)

-- What an accepted form has: 101 bytes, 1 to 16 frames, no bit that may not be set; and memory of so many frames is whole.
use Prim.Native.Nat.{ℕ, ◌*◌, ◌/◌, ◌%◌, ◌<◌, ◌≤◌}
use mathlib.Core.Path.{◌≡◌, refl, sym, ◌∙◌, ap}
use mathlib.Core.Bool.{Bool, true, false, cond, not}
use mathlib.Core.List.{List}
use native.Mathlib.Omega.{arith}
use borrow.Author.Tests.{leb-true, le-leb}
use lib.Dec.{leb, eqb, lit<}
use lib.ListN.{length, get_or}
use Rattle.pack.specs.Pack.{unpack}
use Rattle.legal.specs.Legal.{whole_frames, allowed_bits}
use Rattle.form.specs.Form.{Reading, widths, machine_of, frames_of, refused, restored, read_fields, read_form}

pub record Accepted (long : Bool) (r : Reading) : Type 0 where
  pub long_enough : long ≡ true
  pub some : 1 ≤ r.frames
  pub few : r.frames ≤ 16
  pub allowed : allowed_bits r.machine ≡ true

refusing : (n : ℕ) (long : Bool) (r : Reading) → r ≡ refused n → 0 < n → r.refusal ≡ 0 → Accepted long r
unfolding refused
refusing n long r e l z = absurd (omega (arith, sym (ap (λ (x : Reading). x.refusal) e) ∙ z))

-- each test passed
passed : (k a b c d : Bool) (v : List ℕ) → leb (frames_of v) 16 ≡ b → allowed_bits (machine_of v) ≡ c →
    (r : Reading) → r ≡ cond (not k) (refused 3) (cond (not a) (refused 4) (cond (not b) (refused 10) (cond (not c) (refused 2) (cond (not d) (refused 5) (restored v))))) →
    r.refusal ≡ 0 → Accepted k r
unfolding restored
passed true true true true true v f m r e z =
    rw e (record { long_enough = refl; some = omega arith; few = leb-true (frames_of v) 16 f; allowed = m })
passed true true true true false v f m r e z = refusing 5 true r e (lit< tt) z
passed true true true false d v f m r e z = refusing 2 true r e (lit< tt) z
passed true true false c d v f m r e z = refusing 10 true r e (lit< tt) z
passed true false b c d v f m r e z = refusing 4 true r e (lit< tt) z
passed false a b c d v f m r e z = refusing 3 false r e (lit< tt) z

pub accepted : (t : List ℕ) → (read_form t).refusal ≡ 0 → Accepted (eqb (length t) 101) (read_form t)
unfolding read_form read_fields
accepted t z =
    let v : List ℕ = unpack widths t in
    passed (eqb (length t) 101) (eqb (get_or v 0 0) 1) (leb (frames_of v) 16) (allowed_bits (machine_of v)) (eqb (get_or v 55 0) 0) v refl refl _ refl z

pub whole : (f : ℕ) → 1 ≤ f → f ≤ 16 → whole_frames (f * 4096) ≡ true
whole f l h =
    let e : f * 4096 % 4096 ≡ 0 = omega arith in
    let q : f * 4096 / 4096 ≡ f = omega arith in
    rw (e, q, le-leb 1 f l, le-leb f 16 h)

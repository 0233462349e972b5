-- A law for each way out of the answer to an input, over plain values.
use Prim.Native.Nat.{ℕ, ◌-◌, ◌*◌, ◌<◌, ◌≤◌}
use mathlib.Core.Path.{◌≡◌, sym, ◌∙◌, ap}
use mathlib.Core.Bool.{true, false}
use lib.Dec.{eqb}
use mathlib.Core.List.{List, append-nil}
use native.Mathlib.Omega.{arith}
use borrow.Author.Tests.{eq-eqb, ne_eqb}
use borrow.Rule.Slice.PartMut.{put_mid, Post-is}
use lib.ListN.{length, take, drop, length-drop}
use lib.Seq.{take_all, drop-length}
use Rattle.std.specs.Prelude.{◌≢◌, Ok, Err}
use Rattle.bus.specs.Leave.{event_of}
use Rattle.legal.specs.declared.refusal.Refused as back
use Rattle.legal.specs.Refusal.{number_of}
use Rattle.legal.proofs.Numbers.{not_0}
use Rattle.form.specs.declared.Restored.{Restored}
use Rattle.form.specs.declared.Unread.{Unread}
use Rattle.form.specs.Form.{Reading, reading, refused, read_form}
use Rattle.form.proofs.Accepted.{accepted, whole}
use Rattle.form.proofs.Tests.{length_3}
use Rattle.steps.specs.declared.Ran.{Ran}
use Rattle.host.specs.Host as host
use Rattle.host.specs.Host.{refusal_of, ran, run_of}
use Rattle.line.specs.declared.Shown.{Shown}
use Rattle.line.specs.declared.Shown.TheVariants.{Refused, Ended}
use Rattle.events.specs.declared.Numbered.{Numbered}
use Rattle.events.specs.Events.{event_numbers}
use Rattle.show.specs.Image.{outcome, worked, answered, shown_of}

-- an accepted form with exactly its frames is not refused
pub accepted_run : (t w : List ℕ) → (read_form t).refusal ≡ 0 → length w ≡ (read_form t).frames * 4096 →
    (run_of (read_form t).machine w 1000).refusal ≡ 0
unfolding run_of refusal_of
accepted_run t w z e =
    let a = accepted t z in
    rw (e, whole (read_form t).frames a.some a.few, a.allowed)

not_refused : (t w : List ℕ) (a : Restored) → reading (Ok a) ≡ read_form t → length w ≡ a.frames * 4096 → (run_of a.machine w 1000).refusal ≡ 0
not_refused t w a e h =
    ap (λ (r : Reading). (run_of r.machine w 1000).refusal) e ∙
    accepted_run t w (sym (ap (λ (r : Reading). r.refusal) e)) (h ∙ ap (λ (r : Reading). r.frames * 4096) e)

module _ (s : List ℕ) where
  pub short_3 : length s < 101 → outcome (Refused 3) s ≡ shown_of s
  unfolding shown_of answered refused
  short_3 h = rw (take_all 101 s (omega arith), length_3 s (λ e. omega (arith, e)))

  pub form_refused : (u : Unread) → reading (Err u) ≡ read_form (take 101 s) → outcome (Refused (number_of u.refusal)) s ≡ shown_of s
  unfolding shown_of answered
  form_refused u e = rw (← e, not_0 u.refusal)

  module _ (long : 101 ≤ length s) (a : Restored) (e : reading (Ok a) ≡ read_form (take 101 s)) where
    abbrev memory : List ℕ
    memory = take (length s - 101) (drop 101 s)

    all_memory : memory ≡ drop 101 s
    all_memory = take_all (length s - 101) (drop 101 s) (rw length-drop (omega arith))

    form_read : (x : Shown) (w : List ℕ) → outcome x w ≡ worked a.machine a.frames memory →
        outcome x (put_mid 101 (length s - 101) s w) ≡ shown_of s
    unfolding shown_of answered
    form_read x w p =
        let q = rw all_memory at p in
        rw (← e, ← q, Post-is 101 (length s) s long, drop-length s, append-nil w)

    pub not_exact : length memory ≢ a.frames * 4096 → outcome (Refused 1) (put_mid 101 (length s - 101) s memory) ≡ shown_of s
    unfolding worked
    not_exact h = form_read (Refused 1) memory (rw (ne_eqb (length memory) (a.frames * 4096) h))

    module _ (exact : length memory ≡ a.frames * 4096) where
      pub run_ended : (r : Ran) (new : List ℕ) (n : Numbered) → ran (Ok r) new ≡ run_of a.machine memory 1000 →
          n ≡ event_numbers (event_of r.event) →
          outcome (Ended n.number r.steps r.machine.regs.pc) (put_mid 101 (length s - 101) s new) ≡ shown_of s
      unfolding worked
      run_ended r new n p h = form_read _ new (rw (eq-eqb (length memory) (a.frames * 4096) exact, ← p, h))

      pub run_never : (x : back.Refused) (new : List ℕ) → ran (Err x) new ≡ run_of a.machine memory 1000 → ⊥
      run_never x new p =
          let z : (run_of a.machine memory 1000).refusal ≡ 0 = not_refused (take 101 s) memory a e exact in
          let y : eqb (number_of x.refusal) 0 ≡ true = rw (ap (λ (o : host.Outcome). o.refusal) p, z) in
          let f : true ≡ false = sym y ∙ not_0 x.refusal in cc

-- Each follows in a few lines.
use Prim.Native.Nat.{ℕ}
use mathlib.Core.Path.{◌≡◌, refl, sym, ◌∙◌, ap, fun_ext}
use mathlib.Core.Bool.{Bool, true, false, cond, not}
use mathlib.Core.List.{List, [], ◌∷◌}
use mathlib.Core.Option.{Option, none, some}
use native.Mathlib.Omega.{arith}
use native.Mathlib.Nat.{le_refl}
use lib.Dec.{eqb, leb, ltb}
use lib.ListN.{length, get_or}
use borrow.Author.Tests.{eqb-true}
use Rattle.pack.specs.Pack.{unpack}
use Rattle.std.specs.Prelude as std
use Rattle.std.specs.Prelude.{Some, None}
use Rattle.mmu.specs.Translate.{valid}
use Rattle.board.specs.Program.{State}
use Rattle.board.specs.Run.{ended}
use Rattle.regs.specs.declared.Machine.{Machine}
use Rattle.legal.specs.Legal.{whole_frames, allowed_bits, reset_record}
use Rattle.bus.specs.declared.kinds.Event.{Event}
use Rattle.bus.specs.Board.{real}
use Rattle.host.specs.Host as host
use Rattle.host.specs.Host.{machine_in, refusal_of, run_of, step_of}
use Rattle.valid.specs.Valid.{unmade, made_valid, make_valid}
use Rattle.saves.specs.Saves.{Outcome, refusal, pushed, all_passed, entered, vectored, saved}
use Rattle.deliver.specs.declared.traps.Trap.{Trap}
use Rattle.deliver.specs.declared.traps.Trap.TheVariants.{Two, Three}
use Rattle.deliver.specs.Deliver.{trap_of, taken, deliver_of}
use Rattle.form.specs.Form.{widths, machine_of, frames_of, read_fields, read_form, refused, restored}
use Rattle.theorems.specs.Withhold.{withheld, Withheld, hosted, Alike}
use Rattle.theorems.specs.Runs.{followed}
use Rattle.theorems.specs.Corollaries.{SameBytes, Whichever, OnceEach, total, CutAnywhere, NeverTwo}
use Rattle.theorems.proofs.Allowed.{allowed_parts, parts_allowed, msr_fine}
use Rattle.theorems.proofs.Works.{passed, run_works, step_works, run_allowed, step_allowed, run_refused, step_refused}
use Rattle.theorems.proofs.Runs.{demand2}
use Rattle.theorems.proofs.Withhold.{doesn't_show}

-- ── of demand 3 ──

shown : (m : Machine) (mem : List ℕ) (limit : ℕ) (w : List ℕ) → Withheld w m → Alike w (run_of m mem limit) (hosted (length w) limit w (withheld w m) mem)
shown m mem limit w h = doesn't_show m mem limit w h (length w) (le_refl (length w))

pub same_bytes : SameBytes
same_bytes m mem limit w h p = ap (λ (x : List ℕ). get_or x p 0) (shown m mem limit w h).unseen.agree.mem

pub whichever : Whichever
whichever m mem limit w v h k =
    let a = shown m mem limit w h in
    let b = shown m mem limit v k in
    record {
      refusal = a.refusal ∙ sym b.refusal;
      steps = a.unseen.steps ∙ sym b.unseen.steps;
      event = a.unseen.event ∙ sym b.unseen.event;
      regs = a.unseen.agree.regs ∙ sym b.unseen.agree.regs;
      ctl = a.unseen.agree.ctl ∙ sym b.unseen.agree.ctl;
      mem = a.unseen.agree.mem ∙ sym b.unseen.agree.mem;
    }

pub once_each : OnceEach
once_each m mem limit w h k l = omega (arith, (doesn't_show m mem limit w h k l).unseen.few)

-- ── of demand 2 ──

pub cut_anywhere : CutAnywhere
cut_anywhere [] m w = refl
cut_anywhere (n ∷ ns) m w =
    demand2.run_added m w n (total ns) ∙
    ap (followed (run_of m w n)) (fun_ext (λ t. fun_ext (λ v. cut_anywhere ns t v)))

-- ── of demand 1 ──

step_two : (m : Machine) (w : List ℕ) → allowed_bits m ≡ true → allowed_bits (machine_in (step_of m w).answer.state) ≡ true
step_two m w h = go (eqb (refusal_of m (length w)) 0) refl
  where
    go : (x : Bool) → eqb (refusal_of m (length w)) 0 ≡ x → allowed_bits (machine_in (step_of m w).answer.state) ≡ true
    go true e =
        let z : refusal_of m (length w) ≡ 0 = eqb-true _ _ e in
        ap (λ (o : host.StepOutcome). allowed_bits (machine_in o.answer.state)) (step_works m w z) ∙ (passed _ _ (step_allowed m w z)).1
    go false e = ap (λ (o : host.StepOutcome). allowed_bits (machine_in o.answer.state)) (step_refused m w e) ∙ h

run_two : (m : Machine) (w : List ℕ) (n : ℕ) → allowed_bits m ≡ true → allowed_bits (machine_in (run_of m w n).ran.state) ≡ true
unfolding ended
run_two m w n h = go (eqb (refusal_of m (length w)) 0) refl
  where
    go : (x : Bool) → eqb (refusal_of m (length w)) 0 ≡ x → allowed_bits (machine_in (run_of m w n).ran.state) ≡ true
    go true e =
        let z : refusal_of m (length w) ≡ 0 = eqb-true _ _ e in
        ap (λ (o : host.Outcome). allowed_bits (machine_in o.ran.state)) (run_works m w z n) ∙ (passed _ _ (run_allowed m w z n)).1
    go false e = ap (λ (o : host.Outcome). allowed_bits (machine_in o.ran.state)) (run_refused m w n e) ∙ h

made_two : (m : Machine) (n : ℕ) → allowed_bits m ≡ true → allowed_bits (make_valid m n).machine ≡ true
unfolding make_valid allowed_bits
made_two m n h = go (allowed_bits m) (ltb n 32) (valid (get_or m.ds n 0))
  where
    go : (a b c : Bool) → allowed_bits (cond a (cond b (cond c (unmade 7 m) (record { refusal = 0; machine = made_valid m n })) (unmade 6 m)) (unmade 2 m)).machine ≡ true
    go true true true = h
    go true true false = h
    go true false c = h
    go false b c = h

-- the record that a delivery answers is allowed
Fits : Outcome → Type 0
Fits o = allowed_bits o.answer.machine ≡ true

module _ (m : Machine) (w : List ℕ) (h : allowed_bits m ≡ true) where
  entered_two : (a : Bool) (s : State real) (x y : Option ℕ) → Fits (cond a (entered m w s x y) (refusal 9 m w))
  unfolding entered Fits
  entered_two true s (some x) (some y) = let p = allowed_parts m h in parts_allowed _ (msr_fine x m.ctl p.0) p.1
  entered_two true s (some x) none = h
  entered_two true s none y = h
  entered_two false s x y = h

  saved_two : (offset : ℕ) (vs : List ℕ) → Fits (saved m w offset vs)
  unfolding saved vectored
  saved_two offset vs = entered_two (all_passed (pushed m w vs).event) (pushed m w vs).state _ _

  taken_two : (t : std.Option Trap) → Fits (taken m w t)
  unfolding taken Fits
  taken_two (Some (Two offset a)) = saved_two offset (a ∷ m.ctl.msr ∷ [])
  taken_two (Some (Three offset a v)) = saved_two offset (a ∷ m.ctl.msr ∷ v ∷ [])
  taken_two None = h

  choice_two : (a b : Bool) (o : Outcome) → Fits o → Fits (cond a (cond b o (refusal 2 m w)) (refusal 1 m w))
  unfolding Fits
  choice_two true true o f = f
  choice_two true false o f = h
  choice_two false b o f = h

  deliver_two : (e : Event) → Fits (deliver_of m w e)
  unfolding deliver_of
  deliver_two e = choice_two (whole_frames (length w)) (allowed_bits m) (taken m w (trap_of e)) (taken_two (trap_of e))

read_two : (s : List ℕ) → allowed_bits (read_form s).machine ≡ true
unfolding read_form read_fields restored refused
read_two s =
    go (not (eqb (length s) 101)) (not (eqb (get_or v 0 0) 1)) (not (leb (frames_of v) 16)) (allowed_bits (machine_of v)) refl (not (eqb (get_or v 55 0) 0))
  where
    v : List ℕ
    v = unpack widths s

    reset : allowed_bits reset_record ≡ true
    reset = unfold allowed_bits in refl

    go : (a b c d : Bool) → allowed_bits (machine_of v) ≡ d → (e : Bool) →
        allowed_bits (cond a (refused 3) (cond b (refused 4) (cond c (refused 10) (cond (not d) (refused 2) (cond e (refused 5) (restored v)))))).machine ≡ true
    go true b c d h e = reset
    go false true c d h e = reset
    go false false true d h e = reset
    go false false false false h e = reset
    go false false false true h true = reset
    go false false false true h false = h

pub never_two : NeverTwo
unfolding Fits
never_two = record { read = read_two; step = step_two; run = run_two; making_valid = made_two; deliver = λ m w e h. deliver_two m w h e }

-- The public calls where they aren't refused, and that what they hand back isn't refused either.
use Prim.Native.Nat.{ℕ, ◌<◌}
use mathlib.Core.Path.{◌≡◌, refl, ap}
use mathlib.Core.Bool.{Bool, true, false, cond}
use mathlib.Core.List.{List}
use native.Mathlib.Omega.{arith}
use lib.Dec.{eqb, ltb}
use lib.ListN.{length, get_or}
use borrow.Author.Tests.{lt-ltb}
use Rattle.mmu.specs.Translate.{valid}
use Rattle.board.specs.Program.{State, completed}
use Rattle.board.specs.Run.{step, run, ended}
use Rattle.regs.specs.declared.Machine.{Machine}
use Rattle.legal.specs.Legal.{whole_frames, allowed_bits}
use Rattle.bus.specs.Board.{real}
use Rattle.cpu.specs.Program.{program}
use Rattle.cpu.specs.Machine.{machine_state}
use Rattle.host.specs.Host.{machine_in, refusal_of, run_of, step_of}
use Rattle.valid.specs.Valid.{Made, unmade, made_valid, make_valid}
use Rattle.theorems.proofs.Allowed.{allowed_parts, parts_allowed}
use Rattle.theorems.proofs.Lasting.{Lasts, step_lasts, run_lasts}

-- ── refusals 1 and 2 ──

refusal_parts : (a b : Bool) → ◌≡◌ {A = ℕ} (cond a (cond b 0 2) 1) 0 → (a ≡ true) × (b ≡ true)
refusal_parts true true e = (refl, refl)
refusal_parts true false e = absurd (omega arith)
refusal_parts false b e = absurd (omega arith)

pub passed : (m : Machine) (n : ℕ) → refusal_of m n ≡ 0 → (whole_frames n ≡ true) × (allowed_bits m ≡ true)
unfolding refusal_of
passed m n h = refusal_parts (whole_frames n) (allowed_bits m) h

pub passes : (m : Machine) (n : ℕ) → whole_frames n ≡ true → allowed_bits m ≡ true → refusal_of m n ≡ 0
unfolding refusal_of
passes m n f a = rw (f, a)

pub run_refusal : (m : Machine) (w : List ℕ) (n : ℕ) → (run_of m w n).refusal ≡ refusal_of m (length w)
unfolding run_of
run_refusal m w n = refl

pub step_refusal : (m : Machine) (w : List ℕ) → (step_of m w).refusal ≡ refusal_of m (length w)
unfolding step_of
step_refusal m w = refl

-- ── the calls at work ──

module _ (m : Machine) (w : List ℕ) (h : refusal_of m (length w) ≡ 0) where
  pub run_works : (n : ℕ) → run_of m w n ≡ record { refusal = 0; ran = run program n (machine_state m w) }
  unfolding run_of
  run_works n = rw h

  pub step_works : step_of m w ≡ record { refusal = 0; answer = step program (machine_state m w) }
  unfolding step_of
  step_works = rw h

  begins : Lasts m.ds (length w) (machine_state m w)
  begins =
      let p = allowed_parts m (passed m (length w) h).1 in
      record { ctl = p.0; mmu = p.1; marks = λ i. refl; long = refl }

  lasted : (s : State real) → Lasts m.ds (length w) s → refusal_of (machine_in s) (length s.mem) ≡ 0
  lasted s l =
      passes (machine_in s) (length s.mem) (rw l.long (passed m (length w) h).0) (parts_allowed (machine_in s) l.ctl l.mmu)

  pub run_marks : (n i : ℕ) → valid (get_or (run program n (machine_state m w)).state.ds i 0) ≡ valid (get_or m.ds i 0)
  run_marks n i = (run_lasts m.ds (length w) n (machine_state m w) begins).marks i

  pub step_marks : (i : ℕ) → valid (get_or (step program (machine_state m w)).state.ds i 0) ≡ valid (get_or m.ds i 0)
  step_marks i = (step_lasts m.ds (length w) (machine_state m w) begins).marks i

  pub run_allowed : (n : ℕ) → refusal_of (machine_in (run program n (machine_state m w)).state) (length (run program n (machine_state m w)).state.mem) ≡ 0
  run_allowed n = lasted (run program n (machine_state m w)).state (run_lasts m.ds (length w) n (machine_state m w) begins)

  pub step_allowed : refusal_of (machine_in (step program (machine_state m w)).state) (length (step program (machine_state m w)).state.mem) ≡ 0
  step_allowed = lasted (step program (machine_state m w)).state (step_lasts m.ds (length w) (machine_state m w) begins)

pub made : (m : Machine) (i : ℕ) → allowed_bits m ≡ true → i < 32 → valid (get_or m.ds i 0) ≡ false →
    make_valid m i ≡ record { refusal = 0; machine = made_valid m i }
unfolding make_valid
made m i a l v = rw (a, lt-ltb i 32 l, v)

made_cases : (a b c : Bool) (m : Machine) (t : Machine) →
    (cond a (cond b (cond c (unmade 7 m) (record { refusal = 0; machine = t })) (unmade 6 m)) (unmade 2 m)).refusal ≡ 0 →
    cond a (cond b (cond c (unmade 7 m) (record { refusal = 0; machine = t })) (unmade 6 m)) (unmade 2 m) ≡ record { refusal = 0; machine = t }
made_cases true true true m t e = absurd (omega arith)
made_cases true true false m t e = refl
made_cases true false c m t e = absurd (omega arith)
made_cases false b c m t e = absurd (omega arith)

pub made_machine : (m : Machine) (i : ℕ) → (make_valid m i).refusal ≡ 0 → (make_valid m i).machine ≡ made_valid m i
unfolding make_valid
made_machine m i e =
    ap (λ (x : Made). x.machine) (made_cases (allowed_bits m) (ltb i 32) (valid (get_or m.ds i 0)) m (made_valid m i) e)

pub run_refused : (m : Machine) (w : List ℕ) (n : ℕ) → eqb (refusal_of m (length w)) 0 ≡ false →
    run_of m w n ≡ record { refusal = refusal_of m (length w); ran = ended (machine_state m w) completed }
unfolding run_of
run_refused m w n h = rw h

pub step_refused : (m : Machine) (w : List ℕ) → eqb (refusal_of m (length w)) 0 ≡ false →
    step_of m w ≡ record { refusal = refusal_of m (length w); answer = record { state = machine_state m w; event = completed } }
unfolding step_of
step_refused m w h = rw h

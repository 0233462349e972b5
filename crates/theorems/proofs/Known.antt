-- The table of known steps.
use Prim.Native.Nat.{ℕ, ◌/◌, ◌%◌}
use mathlib.Core.Path.{◌≡◌, sym, ◌∙◌, ap}
use mathlib.Core.Bool.{true, false}
use mathlib.Core.List.{List, [], ◌∷◌}
use native.Mathlib.Omega.{arith}
use lib.Dec.{lit<}
use lib.ListN.{length}
use borrow.Author.Tests.{eqb-true, eqb-false}
use Rattle.mmu.specs.Translate.{mode_bits, bit, clear_valid, latched}
use Rattle.mmu.proofs.Marks.{valid_clear, set_clear, latched_kept, mode_same}
use Rattle.mmu.proofs.Known.{p1, p2, p3}
use Rattle.sums.proofs.Known.{known4, known5, known6, known7, known8}
use Rattle.logic.proofs.Known.{known9}
use Rattle.products.proofs.Known.{known10}
use Rattle.board.specs.Program.{Answer, violation, faulted}
use Rattle.board.specs.Run.{step}
use Rattle.regs.specs.declared.Machine.{Machine}
use Rattle.legal.specs.Legal.{allowed_bits}
use Rattle.bus.specs.Board.{real}
use Rattle.cpu.specs.Program.{program}
use Rattle.cpu.specs.Machine.{machine_state}
use Rattle.host.specs.Host.{refusal_of, StepOutcome, step_of}
use Rattle.valid.specs.Valid.{Made}
use Rattle.theorems.specs.Withhold.{withheld}
use Rattle.theorems.specs.Known.{Pushing, marked_at, first, second, third, Pushed, P11, KnownSteps}
use Rattle.theorems.proofs.Allowed.{latched_allowed, allowed_parts, parts_allowed}
use Rattle.theorems.proofs.Works.{passed, passes, step_works, made}
use Rattle.theorems.proofs.Push.{lacks_0, lacks_1, completes}

upper : (c : ℕ) → c / 0x8000 ≡ c / 0x4000 / 2
upper c = omega arith

mode_two : (x : ℕ) → x / 2 % 2 ≡ 1 → (x % 2 ≡ 1 → ⊥) → x % 4 ≡ 2
mode_two x h k = omega arith

user_mode : (c : ℕ) → bit 0x8000 c ≡ true → bit 0x4000 c ≡ false → mode_bits c true ≡ 2
unfolding mode_bits
user_mode c h k = mode_two (c / 0x4000) (ap (λ (x : ℕ). x % 2) (sym (upper c)) ∙ eqb-true _ _ h) (eqb-false _ _ k)

module _ (q d0 d1 d2 : ℕ) (rest : List ℕ) (m : Machine) (mem : List ℕ) (h : Pushing q d0 d1 d2 rest m mem) where
  -- the record with its last faulting descriptor and descriptors 0 and 1 as they are now
  abbrev now : (mmu e0 e1 : ℕ) → Machine
  now mmu e0 e1 = record { regs = m.regs; ctl = m.ctl; mmu = mmu; ds = e0 ∷ e1 ∷ d2 ∷ rest }

  starts : withheld (0 ∷ 1 ∷ []) m ≡ now m.mmu (clear_valid d0) (clear_valid d1)
  starts =
      ap (λ (ds : List ℕ). withheld (0 ∷ 1 ∷ []) (record { regs = m.regs; ctl = m.ctl; mmu = m.mmu; ds = ds })) h.pages

  -- MMU control after the first fault, and after the second
  abbrev m1 : ℕ
  m1 = latched 0 m.mmu

  abbrev m2 : ℕ
  m2 = latched 1 m1

  mode_0 : mode_bits m.mmu true ≡ 2
  mode_0 = user_mode m.mmu h.translated h.whole

  mode_1 : mode_bits m1 true ≡ 2
  mode_1 = mode_same m.mmu m1 true (latched_kept 0 m.mmu) ∙ mode_0

  mode_2 : mode_bits m2 true ≡ 2
  mode_2 = mode_same m1 m2 true (latched_kept 1 m1) ∙ mode_1

  called_0 : (e0 e1 : ℕ) → refusal_of (now m.mmu e0 e1) (length mem) ≡ 0
  unfolding refusal_of allowed_bits
  called_0 e0 e1 = h.called

  called_on : (i mmu e0 e1 f0 f1 : ℕ) → refusal_of (now mmu e0 e1) (length mem) ≡ 0 → refusal_of (now (latched i mmu) f0 f1) (length mem) ≡ 0
  called_on i mmu e0 e1 f0 f1 c =
      let p = passed (now mmu e0 e1) (length mem) c in
      let a = allowed_parts (now mmu e0 e1) p.1 in
      passes (now (latched i mmu) f0 f1) (length mem) p.0 (parts_allowed (now (latched i mmu) f0 f1) a.0 (latched_allowed i mmu a.1))

  called_1 : (e0 e1 : ℕ) → refusal_of (now m1 e0 e1) (length mem) ≡ 0
  called_1 e0 e1 = called_on 0 m.mmu d0 d1 e0 e1 (called_0 d0 d1)

  called_2 : (e0 e1 : ℕ) → refusal_of (now m2 e0 e1) (length mem) ≡ 0
  called_2 e0 e1 = called_on 1 m1 d0 d1 e0 e1 (called_1 d0 d1)

  abbrev faulting : (mmu e0 e1 i : ℕ) → StepOutcome
  faulting mmu e0 e1 i =
      record { refusal = 0; answer = record { state = faulted (machine_state (now mmu e0 e1) mem) i; event = violation i m.regs.pc } }

  first_is : first m mem ≡ faulting m.mmu (clear_valid d0) (clear_valid d1) 0
  first_is =
      ap (λ (x : Machine). step_of x mem) starts ∙ step_works (now m.mmu (clear_valid d0) (clear_valid d1)) mem (called_0 _ _) ∙
      ap (λ (a : Answer real). record { refusal = 0; answer = a })
      (lacks_0 q d2 rest m.regs m.ctl mem h.user h.sp h.page h.backed2 h.pair h.code m.mmu _ _ mode_0 (valid_clear d0))

  mark_0 : marked_at 0 (faulting m.mmu (clear_valid d0) (clear_valid d1) 0) ≡ now m1 d0 (clear_valid d1)
  unfolding faulted
  mark_0 =
      let x : Machine = now m1 (clear_valid d0) (clear_valid d1) in
      ap (λ (y : Made). y.machine) (made x 0 (passed x (length mem) (called_1 (clear_valid d0) (clear_valid d1))).1 (lit< tt) (valid_clear d0)) ∙
      ap (λ (d : ℕ). now m1 d (clear_valid d1)) (set_clear d0 h.backed0.good)

  second_is : second m mem ≡ faulting m1 d0 (clear_valid d1) 1
  unfolding faulted
  second_is =
      ap (λ (o : StepOutcome). step_of (marked_at 0 o) o.answer.state.mem) first_is ∙ ap (λ (x : Machine). step_of x mem) mark_0 ∙
      step_works (now m1 d0 (clear_valid d1)) mem (called_1 _ _) ∙
      ap (λ (a : Answer real). record { refusal = 0; answer = a })
      (lacks_1 q d2 rest m.regs m.ctl mem h.user h.sp h.page h.backed2 h.pair h.code m1 _ _ mode_1 h.backed0 (valid_clear d1))

  mark_1 : marked_at 1 (faulting m1 d0 (clear_valid d1) 1) ≡ now m2 d0 d1
  unfolding faulted
  mark_1 =
      let x : Machine = now m2 d0 (clear_valid d1) in
      ap (λ (y : Made). y.machine) (made x 1 (passed x (length mem) (called_2 d0 (clear_valid d1))).1 (lit< tt) (valid_clear d1)) ∙
      ap (λ (d : ℕ). now m2 d0 d) (set_clear d1 h.backed1.good)

  third_is : third m mem ≡ record { refusal = 0; answer = step program (machine_state (now m2 d0 d1) mem) }
  unfolding faulted
  third_is =
      ap (λ (o : StepOutcome). step_of (marked_at 1 o) o.answer.state.mem) second_is ∙ ap (λ (x : Machine). step_of x mem) mark_1 ∙
      step_works (now m2 d0 d1) mem (called_2 _ _)

  pushed : Pushed m mem
  pushed =
      let e = completes q d2 rest m.regs m.ctl mem h.user h.sp h.page h.backed2 h.pair h.code m2 d0 d1 mode_2 h.backed0 h.backed1 in
      record {
        zero = ap (λ (o : StepOutcome). o.answer.event) first_is;
        one = ap (λ (o : StepOutcome). o.answer.event) second_is;
        done = ap (λ (o : StepOutcome). o.answer.event) third_is ∙ e.0;
        sp = ap (λ (o : StepOutcome). o.answer.state.regs.usp) third_is ∙ e.1;
      }

pub p11 : P11
p11 = pushed

pub known_steps : KnownSteps
known_steps =
    record {
      p1 = p1;
      p2 = p2;
      p3 = p3;
      p4 = known4;
      p5 = known5;
      p6 = known6;
      p7 = known7;
      p8 = known8;
      p9 = known9;
      p10 = known10;
      p11 = p11;
    }

-- Two programs that go on alike after each byte give the same step and the same run.
use Rattle.std.specs.Prelude.{Result, Ok, Err}
use Prim.Native.Nat.{ℕ, zero, suc, ◌<◌}
use mathlib.Core.Path.{◌≡◌, refl, ap, fun_ext}
use mathlib.Core.Bool.{Bool}
use Rattle.board.specs.declared.Fault.{Fault}
use Rattle.board.specs.declared.Fault.TheVariants.{Denied, Lacks}
use Rattle.board.specs.Program.{Board, Prog, read, State, Answer, read_byte, after, exec}
use Rattle.board.specs.Run.{Program, Ran, step, go_on, run}

pub data Same (B : Board) : Prog B → Prog B → Type 0 where
  alike : (program : Bool) (a : ℕ) (f g : ℕ → Prog B) → ((b : ℕ) → b < 256 → Same B (f b) (g b)) → Same B (read program a f) (read program a g)
  self : (p : Prog B) → Same B p p

module _ {B : Board} (bytes : (s : State B) (program : Bool) (a b : ℕ) → read_byte s program a ≡ Ok b → b < 256) where
  after_cong : (s : State B) (g : Result ℕ Fault) (f h : ℕ → Answer B) → ((b : ℕ) → g ≡ Ok b → f b ≡ h b) → after s g f ≡ after s g h
  unfolding after
  after_cong s (Ok b) f h e = e b refl
  after_cong s (Err (Denied i)) f h e = refl
  after_cong s (Err (Lacks p)) f h e = refl

  pub exec_cong : {p q : Prog B} (s : State B) → Same B p q → exec p s ≡ exec q s
  unfolding exec
  exec_cong s (alike k a f g h) =
      after_cong s (read_byte s k a) (λ b. exec (f b) s) (λ b. exec (g b) s) (λ b e. exec_cong s (h b (bytes s k a b e)))
  exec_cong s (self p) = refl

  module _ (x y : Program B) (h : (r : B.R) (c : B.C) → Same B (x r c) (y r c)) where
    pub step_cong : (s : State B) → step x s ≡ step y s
    unfolding step
    step_cong s = exec_cong s (h s.regs s.ctl)

    pub run_cong : (n : ℕ) (s : State B) → run x n s ≡ run y n s
    unfolding run
    run_cong zero s = refl
    run_cong (suc n) s =
        rw (step_cong s) (ap (λ (f : State B → Ran B). go_on (step y s).state (step y s).event f) (fun_ext (λ t. run_cong n t)))

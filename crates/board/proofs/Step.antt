-- One step in both machines: the same, or in the second a violation that names a withheld descriptor.
use Rattle.std.specs.Prelude.{Result, Ok, Err}
use Prim.Native.Nat.{ℕ}
use mathlib.Core.Path.{◌≡◌, refl, ap}
use mathlib.Core.Bool.{Bool, true, false, cond}
use mathlib.Core.List.{List, [], ◌∷◌}
use mathlib.Core.Option.{none}
use Rattle.mmu.specs.Translate.{latched}
use Rattle.board.specs.declared.Fault.{Fault}
use Rattle.board.specs.declared.Fault.TheVariants.{Denied, Lacks}
use Rattle.board.specs.Program.{Board, Write, Prog, read, done, govern, stop, violation, State, Answer, read_byte, write_to, faulted, after, touch, finish, writes, halted, exec}
use Rattle.board.specs.Withhold.{has, if_has, named}
use Rattle.board.proofs.Access.{veil, Veiled, latched_second, latched_both, Spared, Met, alike, held, read_met, write_met, touch_veiled}

-- a is the first machine's answer, from s; b the second's
pub data Sim (B : Board) (w : List ℕ) (s : State B) (a b : Answer B) : Type 0 where
  same : (n : ℕ) (es : List ℕ) → b ≡ record { state = veil a.state n es; event = a.event } →
      Veiled w a.state.mmu a.state.ds n es → named w a.event ≡ none → Sim B w s a b
  missed : (i : ℕ) → has w i ≡ true → (n : ℕ) (es : List ℕ) →
      b ≡ record { state = veil s n es; event = violation i (B.pc s.regs) } → Veiled w s.mmu s.ds n es → Sim B w s a b

module _ {B : Board} (w : List ℕ) (s : State B) (n : ℕ) (es : List ℕ) (v : Veiled w s.mmu s.ds n es) where
  after_alike : (f f' : ℕ → Answer B) (g : Result ℕ Fault) → Spared w g → ((b : ℕ) → Sim B w s (f b) (f' b)) →
      Sim B w s (after s g f) (after (veil s n es) g f')
  unfolding after faulted veil Spared named
  after_alike f f' (Ok b) h k = k b
  after_alike f f' (Err (Denied i)) h k =
      same (latched i n) es refl (latched_both w s.mmu s.ds n es i v) (ap (if_has i) h)
  after_alike f f' (Err (Lacks p)) h k = same n es refl v refl

  after_sim : (f f' : ℕ → Answer B) (g h : Result ℕ Fault) → Met w g h → ((b : ℕ) → Sim B w s (f b) (f' b)) →
      Sim B w s (after s g f) (after (veil s n es) h f')
  unfolding after faulted veil
  after_sim f f' g h (alike e q) k = rw e (after_alike f f' g q k)
  after_sim f f' g h (held i hi e) k =
      missed i hi (latched i n) es (ap (λ x. after (veil s n es) x f') e) (latched_second w s.mmu s.ds n es i v)

  writes_sim : (r : B.R) (xs : List Write) (fs gs : List ℕ) (m : B.M) → Veiled w s.mmu fs n gs →
      Sim B w s (writes s r xs fs m) (writes (veil s n es) r xs gs m)
  unfolding writes finish veil named
  writes_sim r [] fs gs m u = same n gs refl u refl
  writes_sim r (x ∷ xs) fs gs m u =
      after_sim (λ p. writes s r xs (touch s x fs) (B.store s.ctl m p x.byte))
      (λ p. writes (veil s n es) r xs (touch (veil s n es) x gs) (B.store s.ctl m p x.byte))
      (write_to s x) (write_to (veil s n es) x) (write_met w s n es v x)
      (λ p. writes_sim r xs (touch s x fs) (touch (veil s n es) x gs) (B.store s.ctl m p x.byte) (touch_veiled w s n es v.flags x fs gs u))

  pub exec_sim : (p : Prog B) → Sim B w s (exec p s) (exec p (veil s n es))
  unfolding exec veil named halted finish
  exec_sim (read k a f) =
      after_sim (λ b. exec (f b) s) (λ b. exec (f b) (veil s n es)) (read_byte s k a) (read_byte (veil s n es) k a)
      (read_met w s n es v k a) (λ b. exec_sim (f b))
  exec_sim (done r xs) = writes_sim r xs s.ds es s.mem v
  exec_sim (govern r c) = go (B.user s.ctl)
    where
      go : (b : Bool) → Sim B w s (cond b (halted s s.regs (B.privileged s.regs)) (finish s r c s.ds s.mem))
          (cond b (halted (veil s n es) s.regs (B.privileged s.regs)) (finish (veil s n es) r c es s.mem))
      go true = same n es refl v refl
      go false = same n es refl v refl
  exec_sim (stop r e) = same n es refl v refl

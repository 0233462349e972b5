-- A violation names one of the 32 descriptors: translation has no other number to give.
use Rattle.std.specs.Prelude.{Result, Ok, Err}
use Prim.Native.Nat.{ℕ, zero, suc, ◌<◌}
use mathlib.Core.Path.{◌≡◌}
use mathlib.Core.Bool.{Bool, true, false, cond}
use mathlib.Core.List.{List, [], ◌∷◌}
use mathlib.Core.Option.{Option, none, some}
use native.Mathlib.Omega.{arith}
use Rattle.mmu.specs.declared.Violated.{Violated}
use Rattle.mmu.specs.Translate.{mode_bits, separated, translating, index, number_of, barred, by_descriptor, placed, translate}
use Rattle.board.specs.declared.Fault.{Fault}
use Rattle.board.specs.declared.Fault.TheVariants.{Denied, Lacks}
use Rattle.board.specs.Program.{Board, Prog, read, done, govern, stop, Write, State, Event, completed, violation, absent, other, Answer, through, from_memory, if_room, in_user, read_byte, write_to, after, touch, finish, writes, halted, exec}
use Rattle.board.specs.Run.{Program, Ran, step, ended, later, go_on, run}

-- ---- translation

index_below : (apart program : Bool) (a : ℕ) → index apart program a < 16
unfolding index
index_below true true a = omega arith
index_below true false a = omega arith
index_below false program a = omega arith

number_below : (bits : ℕ) (user program : Bool) (a : ℕ) → number_of bits user program a < 32
unfolding number_of
number_below bits true program a = omega (arith, index_below (separated bits) program a)
number_below bits false program a = omega (arith, index_below (separated bits) program a)

PlaceBelow : Result ℕ Violated → Type 0
PlaceBelow (Ok p) = Unit
PlaceBelow (Err v) = v.descriptor < 32

either : (b : Bool) (i p : ℕ) → i < 32 → PlaceBelow (cond b (Err (record { descriptor = i })) (Ok p))
unfolding PlaceBelow
either true i p h = h
either false i p h = tt

chosen : (b : Bool) (x y : Result ℕ Violated) → PlaceBelow x → PlaceBelow y → PlaceBelow (cond b x y)
chosen true x y h k = h
chosen false x y h k = k

place_below : (control : ℕ) (user : Bool) (ds : List ℕ) (program write : Bool) (a : ℕ) → PlaceBelow (translate control user ds program write a)
unfolding PlaceBelow translate placed by_descriptor
place_below control user ds program write a =
    let bits : ℕ = mode_bits control user in
    chosen (translating bits) _ (Ok a) (either (barred write _) _ _ (number_below bits user program a)) tt

-- ---- accesses

GotBelow : Result ℕ Fault → Type 0
GotBelow (Ok b) = Unit
GotBelow (Err (Denied i)) = i < 32
GotBelow (Err (Lacks p)) = Unit

loaded : (p : ℕ) (x : Option ℕ) → GotBelow (from_memory p x)
unfolding GotBelow from_memory
loaded p (some b) = tt
loaded p none = tt

roomy : (p : ℕ) (b : Bool) → GotBelow (if_room p b)
unfolding GotBelow if_room
roomy p true = tt
roomy p false = tt

through_below : (f : ℕ → Result ℕ Fault) (x : Result ℕ Violated) → ((p : ℕ) → GotBelow (f p)) → PlaceBelow x → GotBelow (through f x)
unfolding through GotBelow PlaceBelow
through_below f (Ok p) h k = h p
through_below f (Err v) h k = k

-- ---- steps and runs

module _ {B : Board} where
  unfoldable pub EventBelow : Event B → Type 0
  EventBelow completed = Unit
  EventBelow (violation i a) = i < 32
  EventBelow (absent p) = Unit
  EventBelow (other e) = Unit

  after_below : (s : State B) (g : Result ℕ Fault) (f : ℕ → Answer B) → GotBelow g → ((b : ℕ) → EventBelow (f b).event) → EventBelow (after s g f).event
  unfolding after GotBelow EventBelow
  after_below s (Ok b) f h k = k b
  after_below s (Err (Denied i)) f h k = h
  after_below s (Err (Lacks p)) f h k = tt

  writes_below : (s : State B) (r : B.R) (xs : List Write) (ds : List ℕ) (m : B.M) → EventBelow (writes s r xs ds m).event
  unfolding writes finish EventBelow write_to
  writes_below s r [] ds m = tt
  writes_below s r (x ∷ xs) ds m =
      after_below s (write_to s x) _
      (through_below _ _ (λ p. roomy p _) (place_below s.mmu (in_user s) s.ds x.program true x.addr))
      (λ p. writes_below s r xs (touch s x ds) (B.store s.ctl m p x.byte))

  govern_below : (b : Bool) (s : State B) (r : B.R) (c : B.C) (e : B.E) → EventBelow (cond b (halted s s.regs e) (finish s r c s.ds s.mem)).event
  unfolding halted finish EventBelow
  govern_below true s r c e = tt
  govern_below false s r c e = tt

  exec_below : (p : Prog B) (s : State B) → EventBelow (exec p s).event
  unfolding exec halted EventBelow read_byte
  exec_below (read program a f) s =
      after_below s (read_byte s program a) _
      (through_below _ _ (λ p. loaded p _) (place_below s.mmu (in_user s) s.ds program false a))
      (λ b. exec_below (f b) s)
  exec_below (done r xs) s = writes_below s r xs s.ds s.mem
  exec_below (govern r c) s = govern_below (in_user s) s r c (B.privileged s.regs)
  exec_below (stop r e) s = tt

  module _ (prog : Program B) where
    pub step_below : (s : State B) → EventBelow (step prog s).event
    unfolding step
    step_below s = exec_below (prog s.regs s.ctl) s

    goes_below : (s : State B) (e : Event B) (f : State B → Ran B) → EventBelow e → ((t : State B) → EventBelow (f t).event) → EventBelow (go_on s e f).event
    unfolding go_on later ended EventBelow
    goes_below s completed f h k = k s
    goes_below s (violation i a) f h k = h
    goes_below s (absent p) f h k = tt
    goes_below s (other e) f h k = tt

    pub run_below : (n : ℕ) (s : State B) → EventBelow (run prog n s).event
    unfolding run ended EventBelow
    run_below zero s = tt
    run_below (suc n) s = goes_below (step prog s).state (step prog s).event (λ t. run prog n t) (step_below s) (λ t. run_below n t)

  pub named_below : (e : Event B) (i a : ℕ) → EventBelow e → e ≡ violation i a → i < 32
  unfolding EventBelow
  named_below e i a h p = rw p at h

-- What no step changes: the valid marks, memory's length, and that no bit is set that may not be.
use Rattle.std.specs.Prelude.{Option, Some, None, Result, Ok, Err}
use Prim.Native.Nat.{ℕ, zero, suc, ◌%◌}
use mathlib.Core.Path.{◌≡◌, refl, ◌∙◌}
use mathlib.Core.Bool.{Bool, true, false, cond}
use mathlib.Core.List.{List, [], ◌∷◌}
use lib.Bits.{bit_and}
use lib.Dec.{eqb, ltb}
use lib.ListN.{length, get_or, length-set}
use Rattle.mmu.specs.Translate.{mode_bits, translating, number_of, valid, set_modified, change, marked}
use Rattle.mmu.proofs.Marks.{valid_modified, get_or_change}
use Rattle.board.specs.declared.Fault.{Fault}
use Rattle.board.specs.declared.Fault.TheVariants.{Denied, Lacks}
use Rattle.board.specs.Program.{Prog, read, done, govern, stop, Write, State, Event, completed, violation, absent, other, Answer, in_user, write_to, read_byte, faulted, after, touch, finish, writes, halted, exec}
use Rattle.board.specs.Run.{step, ended, later, go_on, run}
use Rattle.decode.specs.Opening.{opening_of, after_opening, entered}
use Rattle.decode.specs.Entry.{bytes_in}
use Rattle.regs.specs.declared.Regs.{Regs}
use Rattle.regs.specs.declared.Control.{Control}
use Rattle.regs.specs.Change.{with_pc}
use Rattle.regs.specs.Select.{user_of}
use Rattle.plan.specs.declared.kinds.Ins.{Ins}
use Rattle.plan.specs.declared.kinds.Spot.{Spot}
use Rattle.plan.specs.declared.kinds.Early.{Early}
use Rattle.plan.specs.Places.{spot_of}
use Rattle.govern.specs.Govern.{govern_of}
use Rattle.execute.specs.Execute.{execute_of}
use Rattle.bus.specs.Board.{real}
use Rattle.bus.specs.Access.{next, joined, count}
use Rattle.cpu.specs.Program.{read_n, finished, ruled, worked, operated, went, early, judged, missing, ins_of, classed, formed, Rest, fourth, third, second, first, leading, program}
use Rattle.theorems.proofs.Allowed.{Fine, latched_allowed, govern_fine}

-- ── control registers that a program ends with ──

unfoldable Governs : Prog real → Type 0
Governs (read k a f) = (b : ℕ) → Governs (f b)
Governs (done r xs) = Unit {0}
Governs (govern r c) = Fine c
Governs (stop r e) = Unit {0}

either : (b : Bool) (p q : Prog real) → Governs p → Governs q → Governs (cond b p q)
either true p q x y = x
either false p q x y = y

many_governs : (n : ℕ) (k : Bool) (a : ℕ) (f : ℕ → Prog real) → ((v : ℕ) → Governs (f v)) → Governs (read_n n k a f)
unfolding read_n Governs
many_governs zero k a f h = h 0
many_governs (suc n) k a f h = λ b. many_governs n k (next a) (λ v. f (joined b v)) (λ v. h (joined b v))

module _ (r : Regs) (c : Control) (h : Fine c) where
  worked_governs : (i : Ins) (s : Spot) (v : ℕ) → Governs (worked r c i s v)
  unfolding worked ruled finished Governs
  worked_governs i s v =
      either (ltb i.op 24) (ruled (govern_of (with_pc i.next r) c i v))
      (finished (execute_of (with_pc i.next r) (user_of c) i s v)) (govern_fine (with_pc i.next r) c i v h) tt

  went_governs : (i : Ins) (e : Option Early) → Governs (went r c i e)
  unfolding went operated Governs
  went_governs i (Some e) = tt
  went_governs i None =
      let s : Spot = spot_of (user_of c) r i in
      many_governs (count s.n) s.program s.a _ (λ v. worked_governs i s _)

  formed_governs : (o b d at : ℕ) → Governs (formed r c o b d at)
  unfolding formed classed judged Governs
  formed_governs o b d at =
      let e : ℕ = entered o b in
      either (ltb e 2048) (stop r (missing r c e)) _ tt
      (many_governs (count (bytes_in e)) true at _ (λ n. went_governs (ins_of r o b d e at n) (early r c (ins_of r o b d e at n))))

module _ (f : Rest) (h : (o b d at : ℕ) → Governs (f o b d at)) where
  leading_governs : (pc : ℕ) → Governs (leading f pc)
  unfolding leading first second third fourth Governs
  leading_governs pc =
      λ b. either (eqb (opening_of (b % 256)) 0) _ _ (h 0 (b % 256) 0 (next pc))
      (λ k. either (eqb (after_opening (opening_of (b % 256)) (k % 256)) 0) _ _ (h _ _ _ _)
      (λ x. either (ltb (after_opening (opening_of (b % 256)) (k % 256)) 7) _ _ (λ y. h _ _ _ _) (h _ _ _ _)))

program_governs : (r : Regs) (c : Control) → Fine c → Governs (program r c)
unfolding program
program_governs r c h = leading_governs (formed r c) (formed_governs r c h) r.pc

-- ── what lasts ──

-- ds the descriptors at the start, n memory's length
pub record Lasting (ds : List ℕ) (n : ℕ) (c : Control) (control : ℕ) (es w : List ℕ) : Type 0 where
  pub ctl : Fine c
  pub mmu : bit_and control 0xcc1f ≡ control
  pub marks : (i : ℕ) → valid (get_or es i 0) ≡ valid (get_or ds i 0)
  pub long : length w ≡ n

abbrev pub Lasts : (ds : List ℕ) (n : ℕ) → State real → Type 0
Lasts ds n s = Lasting ds n s.ctl s.mmu s.ds s.mem

changed_valid : (a b : Bool) (d : ℕ) → valid (cond a (cond b (set_modified d) d) d) ≡ valid d
changed_valid true true d = valid_modified d
changed_valid true false d = refl
changed_valid false b d = refl

module _ (ds : List ℕ) (n : ℕ) (c : Control) (mmu : ℕ) where
  mark_lasts : (on : Bool) (i : ℕ) (es w : List ℕ) → Lasting ds n c mmu es w → Lasting ds n c mmu (cond on (change set_modified i es) es) w
  mark_lasts false i es w h = h
  mark_lasts true i es w h =
      record {
        ctl = h.ctl;
        mmu = h.mmu;
        marks = λ j. rw (get_or_change set_modified i es j) (changed_valid (eqb j i) (ltb i (length es)) (get_or es j 0) ∙ h.marks j);
        long = h.long;
      }

  store_lasts : (p b : ℕ) (es w : List ℕ) → Lasting ds n c mmu es w → Lasting ds n c mmu es (real.store c w p b)
  store_lasts p b es w h = record { ctl = h.ctl; mmu = h.mmu; marks = h.marks; long = length-set w p b ∙ h.long }

module _ (ds : List ℕ) (n : ℕ) (s : State real) (h : Lasts ds n s) where
  after_lasts : (g : Result ℕ Fault) (f : ℕ → Answer real) → ((b : ℕ) → Lasts ds n (f b).state) → Lasts ds n (after s g f).state
  unfolding after faulted
  after_lasts (Ok b) f k = k b
  after_lasts (Err (Denied i)) f k = record { ctl = h.ctl; mmu = latched_allowed i s.mmu h.mmu; marks = h.marks; long = h.long }
  after_lasts (Err (Lacks p)) f k = h

  pub writes_lasts : (r : Regs) (xs : List Write) (es w : List ℕ) → Lasting ds n s.ctl s.mmu es w → Lasts ds n (writes s r xs es w).state
  unfolding writes finish touch marked
  writes_lasts r [] es w k = k
  writes_lasts r (x ∷ xs) es w k =
      after_lasts (write_to s x) (λ p. writes s r xs (touch s x es) (real.store s.ctl w p x.byte))
      (λ p. writes_lasts r xs (touch s x es) (real.store s.ctl w p x.byte)
      (store_lasts ds n s.ctl s.mmu p x.byte (touch s x es) w
      (mark_lasts ds n s.ctl s.mmu (translating (mode_bits s.mmu (in_user s))) (number_of (mode_bits s.mmu (in_user s)) (in_user s) x.program x.addr) es w k)))

  ruled_lasts : (b : Bool) (r : Regs) (c : Control) → Fine c → Lasts ds n (cond b (halted s s.regs (real.privileged s.regs)) (finish s r c s.ds s.mem)).state
  unfolding halted finish
  ruled_lasts true r c f = h
  ruled_lasts false r c f = record { ctl = f; mmu = h.mmu; marks = h.marks; long = h.long }

  exec_lasts : (p : Prog real) → Governs p → Lasts ds n (exec p s).state
  unfolding exec Governs halted
  exec_lasts (read k a f) g = after_lasts (read_byte s k a) (λ b. exec (f b) s) (λ b. exec_lasts (f b) (g b))
  exec_lasts (done r xs) g = writes_lasts r xs s.ds s.mem h
  exec_lasts (govern r c) g = ruled_lasts (in_user s) r c g
  exec_lasts (stop r e) g = h

pub step_lasts : (ds : List ℕ) (n : ℕ) (s : State real) → Lasts ds n s → Lasts ds n (step program s).state
unfolding step
step_lasts ds n s h = exec_lasts ds n s h (program s.regs s.ctl) (program_governs s.regs s.ctl h.ctl)

pub run_lasts : (ds : List ℕ) (n k : ℕ) (s : State real) → Lasts ds n s → Lasts ds n (run program k s).state
unfolding run ended go_on later
run_lasts ds n zero s h = h
run_lasts ds n (suc k) s h =
    go (step program s).event (step_lasts ds n s h) (run_lasts ds n k (step program s).state (step_lasts ds n s h))
  where
    go : (e : Event real) → Lasts ds n (step program s).state → Lasts ds n (run program k (step program s).state).state →
        Lasts ds n (go_on (step program s).state e (λ t. run program k t)).state
    go completed x y = y
    go (violation i a) x y = x
    go (absent p) x y = x
    go (other e) x y = x

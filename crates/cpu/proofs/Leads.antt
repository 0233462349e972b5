-- The fetch of an opening sequence: what its program comes to, and a law for each way out of its functions.
use Prim.Native.Nat.{ℕ, ◌%◌}
use Rattle.std.specs.Prelude.{Result, Ok, Err}
use mathlib.Core.Path.{◌≡◌, refl, sym, ◌∙◌, ap}
use mathlib.Core.Bool.{Bool, true, false, cond}
use mathlib.Core.List.{List}
use native.Mathlib.Omega.{arith}
use lib.Dec.{eqb, ltb}
use borrow.Author.Tests.{eqb-true}
use Rattle.board.specs.Program as b
use Rattle.board.specs.declared.Fault.{Fault}
use Rattle.regs.specs.declared.Regs.{Regs}
use Rattle.regs.specs.declared.Control.{Control}
use Rattle.regs.specs.Select.{user_of}
use Rattle.decode.specs.Opening.{opening_of, after_opening, entered}
use Rattle.decode.specs.None.{formats_none}
use Rattle.bus.specs.Board.{real}
use Rattle.bus.specs.Access.{next, read_from}
use Rattle.bus.specs.Leave.{state_of, denial}
use Rattle.bus.proofs.Faults.{after_fault}
use Rattle.cpu.specs.declared.kinds.Lead.{Lead}
use Rattle.cpu.specs.Program.{Rest, fourth, third, second, first, leading}
use Rattle.cpu.specs.Lead.{code, lead_by, lead_fourth, lead_third, lead_second, lead_first, lead_of}

-- what follows a lead
unfoldable pub on_lead : b.State real → Result Lead Fault → ((o x d at : ℕ) → b.Answer real) → b.Answer real
on_lead s (Ok l) f = f l.opening l.code l.displacement l.at
on_lead s (Err e) f = denial s e

-- ── the program ──

module _ (s : b.State real) (k : (o x d at : ℕ) → b.Answer real) where
  by_lead : (g : Result ℕ Fault) (f : ℕ → b.Answer real) (l : ℕ → Result Lead Fault) → ((x : ℕ) → f x ≡ on_lead s (l x) k) →
      b.after s g f ≡ on_lead s (lead_by g l) k
  unfolding b.after lead_by on_lead
  by_lead (Ok x) f l h = h x
  by_lead (Err e) f l h = after_fault s e f

  either : (t : Bool) (x y : b.Prog real) (l m : Result Lead Fault) → b.exec x s ≡ on_lead s l k → b.exec y s ≡ on_lead s m k →
      b.exec (cond t x y) s ≡ on_lead s (cond t l m) k
  either true x y l m p q = p
  either false x y l m p q = q

module _ (r : Regs) (c : Control) (mmu : ℕ) (ds w : List ℕ) (f : Rest) where
  s : b.State real
  s = state_of r c mmu ds w

  k : (o x d at : ℕ) → b.Answer real
  k o x d at = b.exec (f o x d at) s

  -- one access of the fetch
  by_read : (a : ℕ) (h : ℕ → b.Prog real) (l : ℕ → Result Lead Fault) → ((x : ℕ) → b.exec (h x) s ≡ on_lead s (l x) k) →
      b.exec (b.read true a h) s ≡ on_lead s (lead_by (read_from (user_of c) mmu ds w true a) l) k
  unfolding b.exec b.read_byte read_from s
  by_read a h l p = by_lead s k (read_from (user_of c) mmu ds w true a) (λ x. b.exec (h x) s) l p

  exec_fourth : (a o d : ℕ) → b.exec (fourth f a o d) s ≡ on_lead s (lead_fourth (user_of c) mmu ds w a o d) k
  unfolding fourth lead_fourth
  exec_fourth a o d = by_read a (λ x. f o (x % 256) d (next a)) (λ x. code o (x % 256) d (next a)) (λ x. unfold on_lead k in refl)

  exec_third : (a o : ℕ) → b.exec (third f a o) s ≡ on_lead s (lead_third (user_of c) mmu ds w a o) k
  unfolding third lead_third
  exec_third a o =
      by_read a (λ x. cond (ltb o 7) (fourth f (next a) o (x % 256)) (f o (x % 256) 0 (next a)))
      (λ x. cond (ltb o 7) (lead_fourth (user_of c) mmu ds w (next a) o (x % 256)) (code o (x % 256) 0 (next a)))
      (λ x. either s k (ltb o 7) (fourth f (next a) o (x % 256)) (f o (x % 256) 0 (next a)) (lead_fourth (user_of c) mmu ds w (next a) o (x % 256)) (code o (x % 256) 0 (next a)) (exec_fourth (next a) o (x % 256)) (unfold on_lead k in refl))

  exec_second : (a o x : ℕ) → b.exec (second f a o x) s ≡ on_lead s (lead_second (user_of c) mmu ds w a o x) k
  unfolding second lead_second
  exec_second a o x =
      either s k (eqb (after_opening o x) 0) (f o x 0 a) (third f a (after_opening o x)) (code o x 0 a)
      (lead_third (user_of c) mmu ds w a (after_opening o x)) (unfold on_lead k in refl) (exec_third a (after_opening o x))

  exec_first : (a x : ℕ) → b.exec (first f a x) s ≡ on_lead s (lead_first (user_of c) mmu ds w a x) k
  unfolding first lead_first
  exec_first a x =
      either s k (eqb (opening_of x) 0) (f 0 x 0 a) (b.read true a (λ y. second f (next a) (opening_of x) (y % 256))) (code 0 x 0 a)
      (lead_by (read_from (user_of c) mmu ds w true a) (λ y. lead_second (user_of c) mmu ds w (next a) (opening_of x) (y % 256)))
      (unfold on_lead k in refl)
      (by_read a (λ y. second f (next a) (opening_of x) (y % 256)) (λ y. lead_second (user_of c) mmu ds w (next a) (opening_of x) (y % 256))
      (λ y. exec_second (next a) (opening_of x) (y % 256)))

  pub exec_leading : (pc : ℕ) →
      b.exec (leading f pc) (state_of r c mmu ds w) ≡
      on_lead (state_of r c mmu ds w) (lead_of (user_of c) mmu ds w pc) (λ o x d at. b.exec (f o x d at) (state_of r c mmu ds w))
  unfolding leading lead_of s k
  exec_leading pc =
      by_read pc (λ x. first f (next pc) (x % 256)) (λ x. lead_first (user_of c) mmu ds w (next pc) (x % 256))
      (λ x. exec_first (next pc) (x % 256))

-- ── a byte whose entry is an operation from 24 on opens nothing ──

module _ (x e : ℕ) (h : e ≡ entered 0 x) (f : ltb e 12288 ≡ false) where
  -- were it the byte y, which opens
  not_at : (y : ℕ) → ltb (entered 0 y) 12288 ≡ true → eqb x y ≡ false
  not_at y l = go (eqb x y) refl
    where
      go : (t : Bool) → eqb x y ≡ t → eqb x y ≡ false
      go false q = q
      go true q =
          let z : ◌≡◌ {A = Bool} true false = sym l ∙ ap (λ k. ltb (entered 0 k) 12288) (sym (eqb-true x y q)) ∙ ap (λ k. ltb k 12288) (sym h) ∙ f in
          let n : ◌≡◌ {A = ℕ} 0 1 = cc in absurd (omega arith)

  pub opens_nothing : (u : Bool) (mmu : ℕ) (ds w : List ℕ) (a : ℕ) → code 0 x 0 a ≡ lead_first u mmu ds w a x
  unfolding lead_first opening_of entered formats_none
  opens_nothing u mmu ds w a = rw (not_at 0xCB refl, not_at 0xED refl, not_at 0xDD refl, not_at 0xFD refl)

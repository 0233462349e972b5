-- The loop of `run_steps` against `run`: a law for each way on and out.
use Prim.Native.Nat.{ℕ, ◌+◌, ◌-◌, ◌≤◌, ◌<◌}
use mathlib.Core.Path.{◌≡◌, refl, sym, ◌∙◌, ap}
use mathlib.Core.Bool.{Bool, true, false}
use mathlib.Core.List.{List}
use native.Mathlib.Omega.{arith}
use native.Mathlib.Nat.{add-zero}
use lib.ListN.{length}
use Rattle.board.specs.Program as b
use Rattle.board.specs.Run as n
use Rattle.board.proofs.Runs as runs
use Rattle.regs.specs.declared.Regs.{Regs}
use Rattle.regs.specs.declared.Control.{Control}
use Rattle.bus.specs.declared.kinds.Turn.{Turn}
use Rattle.bus.specs.declared.kinds.Event.{Event}
use Rattle.bus.specs.declared.kinds.Event.TheVariants.{Completed, Violation, Absent, Stopped}
use Rattle.bus.specs.Board.{real}
use Rattle.bus.specs.Leave.{event_of, state_of, whole}
use Rattle.cpu.specs.Program.{program}
use Rattle.kept.proofs.Kept.{not_both}
use Rattle.steps.specs.declared.Ran.{Ran}
use Rattle.steps.specs.Ran.{ran_of, stops_at}

-- ── what holds at its test, and that a completed step keeps it ──

pub record Going (limit : ℕ) (s : b.State real) (r : Regs) (c : Control) (mmu : ℕ) (ds w : List ℕ) (k : ℕ) : Type 0 where
  pub bound : k ≤ limit
  pub len : length w ≡ length s.mem
  pub is : runs.Going program limit s k (state_of r c mmu ds w)

pub starts : (limit : ℕ) (r : Regs) (c : Control) (mmu : ℕ) (ds w : List ℕ) → Going limit (state_of r c mmu ds w) r c mmu ds w 0
starts limit r c mmu ds w = record { bound = omega arith; len = refl; is = runs.starts program limit (state_of r c mmu ds w) }

module _ (limit : ℕ) (s : b.State real) (r : Regs) (c : Control) (mmu : ℕ) (ds w : List ℕ) (k : ℕ) (g : Going limit s r c mmu ds w k) where
  pub again : (t : Turn) (es new : List ℕ) → k < limit → length new ≡ length w → whole t es new ≡ b.exec (program r c) (state_of r c mmu ds w) → t.event ≡ Completed →
      Going limit s t.regs t.ctl t.mmu es new (k + 1)
  unfolding n.step event_of
  again t es new h l e q =
      record {
        bound = omega arith;
        len = l ∙ g.len;
        is = runs.again program limit s k (state_of r c mmu ds w) (state_of t.regs t.ctl t.mmu es new) g.is h (ap (λ (x : Event). record { state = state_of t.regs t.ctl t.mmu es new; event = event_of x }) (sym q) ∙ e);
      }

-- ── the way out ──

module _ (limit : ℕ) (s : b.State real) (r : Regs) (c : Control) (mmu : ℕ) (ds w : List ℕ) (k : ℕ) (g : Going limit s r c mmu ds w k) where
  pub finishes : (x : Ran) → x ≡ record { machine = record { regs = r; ctl = c; mmu = mmu; ds = ds }; event = Completed; steps = k } → limit ≤ k → ran_of x w ≡ n.run program limit s
  unfolding event_of
  finishes x e h = rw e (runs.finishes program limit s k (state_of r c mmu ds w) g.is h)

  -- ── quick steps ──

  pub quickens : (q : Regs) (j : ℕ) (new : List ℕ) → n.run program (limit - k) (state_of r c mmu ds w) ≡ n.later j (n.run program (limit - k - j) (state_of q c mmu ds new)) →
      j ≤ limit - k → length new ≡ length w → Going limit s q c mmu ds new (k + j)
  quickens q j new e h l =
      record {
        bound = omega (arith, g.bound);
        len = l ∙ g.len;
        is = g.is ∙ ap (n.later k) e ∙ runs.later_later k j (n.run program (limit - k - j) (state_of q c mmu ds new)) ∙ ap (λ z. n.later (k + j) (n.run program z (state_of q c mmu ds new))) left;
      }
    where
      left : limit - k - j ≡ limit - (k + j)
      left = omega arith

  -- ── a step by its stages ──

  module _ (t : Turn) (es new : List ℕ) (h : k < limit) (q : whole t es new ≡ b.exec (program r c) (state_of r c mmu ds w)) (v : Bool) (ev : v ≡ stops_at t.event) where
    after : b.State real
    after = state_of t.regs t.ctl t.mmu es new

    pub breaks : (y : Ran) → y ≡ record { machine = record { regs = t.regs; ctl = t.ctl; mmu = t.mmu; ds = es }; event = t.event; steps = k } → v ≡ true → ran_of y new ≡ n.run program limit s
    unfolding after n.step
    breaks y e h2 =
        rw e (cut t.event (sym ev ∙ h2) ∙ ap (λ (y : b.Answer real). n.later k (n.go_on y.state y.event (n.run program (limit - (k + 1))))) q ∙
        sym (runs.opened program limit s k (state_of r c mmu ds w) g.is h))
      where
        cut : (v : Event) → stops_at v ≡ true → record { state = after; event = event_of v; steps = k } ≡ n.later k (n.go_on after (event_of v) (n.run program (limit - (k + 1))))
        cut Completed i = unfold stops_at in absurd (not_both (sym i))
        cut (Violation i a) y = unfold event_of n.go_on n.ended n.later in ap (λ z. record { state = after; event = b.violation i a; steps = z }) (sym (add-zero k))
        cut (Absent p) y = unfold event_of n.go_on n.ended n.later in ap (λ z. record { state = after; event = b.absent p; steps = z }) (sym (add-zero k))
        cut (Stopped e) y = unfold event_of n.go_on n.ended n.later in ap (λ z. record { state = after; event = b.other e; steps = z }) (sym (add-zero k))

    pub goes : v ≡ false → length new ≡ length w → Going limit s t.regs t.ctl t.mmu es new (k + 1)
    goes i l = again limit s r c mmu ds w k g t es new h l q (is_completed t.event (sym ev ∙ i))
      where
        is_completed : (v : Event) → stops_at v ≡ false → v ≡ Completed
        is_completed Completed i = refl
        is_completed (Violation j a) i = unfold stops_at in absurd (not_both i)
        is_completed (Absent p) i = unfold stops_at in absurd (not_both i)
        is_completed (Stopped e) i = unfold stops_at in absurd (not_both i)

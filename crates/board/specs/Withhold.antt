-- Demand 3, stated: withholding pages doesn't show.
-- The first run is `run`. For the second the host clears the valid bits of the descriptors in w; at each violation that names one of
-- them it makes that descriptor valid and resumes, with the steps left. In all else the two runs are the same.
use Rattle.std.specs.Prelude.{ℕ, zero, suc, ◌+◌, ◌-◌, ◌/◌, ◌≤◌, ◌<◌, ◌≢◌, ◌≡◌, Bool, true, false, cond, ◌||◌, List, [], ◌∷◌, eqb, length, get_or}
use Rattle.std.proofs.Math.Option.{Option, none, some}
use Rattle.mmu.specs.Translate.{valid, clear_valid, set_valid, change}
use Rattle.board.specs.Program.{Board, State, Event, completed, violation, absent, other}
use Rattle.board.specs.Run.{Program, Ran, step, run}

-- ── the second run ──

-- whether i is one of w
abbrev pub has : List ℕ → ℕ → Bool
has [] i = false
has (j ∷ w) i = eqb i j || has w i

abbrev pub without : ℕ → List ℕ → List ℕ
without i [] = []
without i (j ∷ w) = cond (eqb i j) (without i w) (j ∷ without i w)

abbrev pub clear_all : List ℕ → List ℕ → List ℕ
clear_all [] ds = ds
clear_all (i ∷ w) ds = clear_all w (change clear_valid i ds)

abbrev pub if_has : ℕ → Bool → Option ℕ
if_has i true = some i
if_has i false = none

module _ {B : Board} where
  unfoldable pub with_ds : State B → List ℕ → State B
  with_ds s ds = record { regs = s.regs; ctl = s.ctl; mmu = s.mmu; ds = ds; mem = s.mem }

  unfoldable pub withhold : List ℕ → State B → State B
  withhold w s = with_ds s (clear_all w s.ds)

  unfoldable pub make_valid : ℕ → State B → State B
  make_valid i s = with_ds s (change set_valid i s.ds)

  -- the descriptor still withheld that an event names
  unfoldable pub named : List ℕ → Event B → Option ℕ
  named w completed = none
  named w (violation i a) = if_has i (has w i)
  named w (absent p) = none
  named w (other e) = none

-- faults: how often a descriptor was made valid. left: those never needed.
pub record Paged (B : Board) : Type 0 where
  pub state : State B
  pub event : Event B
  pub steps : ℕ
  pub faults : ℕ
  pub left : List ℕ

module _ {B : Board} where
  unfoldable pub stopped : List ℕ → Ran B → Paged B
  stopped w r = record { state = r.state; event = r.event; steps = r.steps; faults = 0; left = w }

  unfoldable pub counting : ℕ → Paged B → Paged B
  counting j q =
      record { state = q.state; event = q.event; steps = j + q.steps; faults = 1 + q.faults; left = q.left }

  unfoldable pub resume : List ℕ → Ran B → Option ℕ → (ℕ → Paged B) → Paged B
  resume w r none f = stopped w r
  resume w r (some i) f = counting r.steps (f i)

  -- k bounds the resumptions: as many as withheld descriptors are enough (`over` below)
  unfoldable pub paged : Program B → (k limit : ℕ) → List ℕ → State B → Paged B
  paged prog zero n w s = stopped w (run prog n s)
  paged prog (suc k) n w s =
      resume w (run prog n s) (named w (run prog n s).event)
      (λ i. paged prog k (n - (run prog n s).steps) (without i w) (make_valid i (run prog n s).state))

-- ── the statement ──

abbrev pub hidden : Bool → ℕ → ℕ
hidden true d = clear_valid d
hidden false d = d

-- Only descriptors that are valid can be withheld.
abbrev pub AllValid : List ℕ → List ℕ → Type 0
AllValid w ds = (i : ℕ) → has w i ≡ true → valid (get_or ds i 0) ≡ true

-- s is of the first run, t of the second with w still withheld: all agrees but their valid bits and the last faulting descriptor.
pub record Agree (B : Board) (w : List ℕ) (s t : State B) : Type 0 where
  pub regs : t.regs ≡ s.regs
  pub ctl : t.ctl ≡ s.ctl
  pub mmu : t.mmu / 32 ≡ s.mmu / 32
  pub mem : t.mem ≡ s.mem
  pub len : length t.ds ≡ length s.ds
  pub ds : (i : ℕ) → get_or t.ds i 0 ≡ hidden (has w i) (get_or s.ds i 0)
  pub valid : AllValid w s.ds

-- The first run r and the second q end after as many steps with the same event, and agree. The second met at most as many faults more
-- as descriptors were withheld, and ended since its event names none of those left.
pub record Unseen (B : Board) (w : List ℕ) (r : Ran B) (q : Paged B) : Type 0 where
  pub steps : q.steps ≡ r.steps
  pub event : q.event ≡ r.event
  pub agree : Agree B q.left r.state q.state
  pub kept : (i : ℕ) → has q.left i ≡ true → has w i ≡ true
  pub few : q.faults + length q.left ≤ length w
  pub over : named q.left q.event ≡ none

abbrev pub Demand3 : (B : Board) → Program B → Type 0
Demand3 B prog =
    (limit : ℕ) (w : List ℕ) (s : State B) → AllValid w s.ds → (k : ℕ) → length w ≤ k →
    Unseen B w (run prog limit s) (paged prog k limit w (withhold w s))

-- ── and at every equal step count ──

-- each moment of the second run from s: after j completed steps, with v still withheld, the machine is t
pub data Moment (B : Board) (prog : Program B) (limit : ℕ) (w : List ℕ) (s : State B) : ℕ → List ℕ → State B → Type 0 where
  begun : Moment B prog limit w s 0 w s
  stepped : {j : ℕ} {v : List ℕ} {t : State B} → Moment B prog limit w s j v t → j < limit →
      (step prog t).event ≡ completed → Moment B prog limit w s (suc j) v (step prog t).state
  resumed : {j : ℕ} {v : List ℕ} {t : State B} (i a : ℕ) → Moment B prog limit w s j v t → j < limit →
      (step prog t).event ≡ violation i a → has v i ≡ true →
      Moment B prog limit w s j (without i v) (make_valid i (step prog t).state)

-- the first run r of j steps completed them, and agrees with t
pub record Level (B : Board) (j : ℕ) (v : List ℕ) (r : Ran B) (t : State B) : Type 0 where
  pub event : r.event ≡ completed
  pub steps : r.steps ≡ j
  pub agree : Agree B v r.state t

abbrev pub AtEachCount : (B : Board) → Program B → Type 0
AtEachCount B prog =
    (limit : ℕ) (w : List ℕ) (s : State B) → AllValid w s.ds → (j : ℕ) (v : List ℕ) (t : State B) →
    Moment B prog limit w (withhold w s) j v t → Level B j v (run prog j s) t

-- How the second run ends, in u with event e: at a moment with the limit reached, or by the event of the step tried at a moment.
pub data End (B : Board) (prog : Program B) (limit : ℕ) (w : List ℕ) (s : State B) (j : ℕ) (v : List ℕ) (u : State B) (e : Event B) : Type 0 where
  full : Moment B prog limit w s j v u → j ≡ limit → e ≡ completed → End B prog limit w s j v u e
  cut : (t : State B) → Moment B prog limit w s j v t → j < limit → u ≡ (step prog t).state → e ≡ (step prog t).event →
      e ≢ completed → End B prog limit w s j v u e

abbrev pub EndsAtMoment : (B : Board) → Program B → Type 0
EndsAtMoment B prog =
    (limit : ℕ) (w : List ℕ) (s : State B) (k : ℕ) →
    End B prog limit w s (paged prog k limit w s).steps (paged prog k limit w s).left
    (paged prog k limit w s).state (paged prog k limit w s).event

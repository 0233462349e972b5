-- Demand 3, stated over the definitions of the public calls: withholding pages doesn't show.
-- m is the first run's record, w its descriptors that are withheld from the second, mem the memory that both start with.
use Rattle.std.specs.Prelude.{ℕ, zero, suc, ◌-◌, ◌≤◌, ◌<◌, ◌≢◌, ◌≡◌, true, cond, List, eqb, length}
use Rattle.std.proofs.Math.Option.{Option, none, some}
use Rattle.board.specs.Program.{State, Event, completed, violation}
use Rattle.board.specs.Withhold.{has, without, clear_all, named, Paged, stopped, counting, AllValid, Unseen, Level}
use Rattle.regs.specs.declared.Machine.{Machine}
use Rattle.bus.specs.Board.{real}
use Rattle.cpu.specs.Machine.{machine_state}
use Rattle.host.specs.Host.{machine_in, Outcome, run_of, step_of}
use Rattle.valid.specs.Valid.{Made, make_valid}

-- "clear the valid marks of any w user descriptors that had them"
abbrev pub withheld : List ℕ → Machine → Machine
withheld w m = record { regs = m.regs; ctl = m.ctl; mmu = m.mmu; ds = clear_all w m.ds }

pub record Withheld (w : List ℕ) (m : Machine) : Type 0 where
  pub user : (i : ℕ) → has w i ≡ true → i < 16
  pub had : AllValid w m.ds

-- ── the second run: the public run and the public making valid, and no other call ──

-- refusal: of the call that ended it, 0 where it wasn't refused
pub record Hosted : Type 0 where
  pub refusal : ℕ
  pub paged : Paged real

unfoldable pub over_with : ℕ → List ℕ → Outcome → Hosted
over_with refusal w o = record { refusal = refusal; paged = stopped w o.ran }

-- one fault more, and the steps before it
unfoldable pub further : Outcome → Hosted → Hosted
further o h = record { refusal = h.refusal; paged = counting o.ran.steps h.paged }

-- r is what making valid answered
unfoldable pub once_made : List ℕ → Outcome → Made → (Machine → Hosted) → Hosted
once_made w o r f = cond (eqb r.refusal 0) (further o (f r.machine)) (over_with r.refusal w o)

unfoldable pub on_fault : List ℕ → Outcome → Option ℕ → (ℕ → Hosted) → Hosted
on_fault w o none f = over_with o.refusal w o
on_fault w o (some i) f = f i

-- "set a mark, and go on, exactly when a fault names a descriptor still withheld", with the steps that are left of the limit.
-- k bounds the resumptions; `over` of `Unseen` says that it isn't what ended the run.
unfoldable pub hosted : (k limit : ℕ) (w : List ℕ) (m : Machine) (mem : List ℕ) → Hosted
hosted zero n w m mem = over_with (run_of m mem n).refusal w (run_of m mem n)
hosted (suc k) n w m mem =
    on_fault w (run_of m mem n) (named w (run_of m mem n).ran.event)
    (λ i. once_made w (run_of m mem n) (make_valid (machine_in (run_of m mem n).ran.state) i)
    (λ t. hosted k (n - (run_of m mem n).ran.steps) (without i w) t (run_of m mem n).ran.state.mem))

-- Both are refused alike; the second completes the same steps and ends in the same event with its data, with at most as many faults more
-- as descriptors were withheld; and all agrees but marks still withheld and the last faulting descriptor (`Agree` in `Unseen`).
pub record Alike (w : List ℕ) (first : Outcome) (second : Hosted) : Type 0 where
  pub refusal : second.refusal ≡ first.refusal
  pub unseen : Unseen real w first.ran second.paged

abbrev pub Doesn'tShow : Type 0
Doesn'tShow =
    (m : Machine) (mem : List ℕ) (limit : ℕ) (w : List ℕ) → Withheld w m → (k : ℕ) → length w ≤ k →
    Alike w (run_of m mem limit) (hosted k limit w (withheld w m) mem)

-- ── "at every equal step count" ──

-- each moment of a second run that works step by step: after j completed steps, with v still withheld, the record t and the memory
pub data Moment (limit : ℕ) (w : List ℕ) (m : Machine) (mem : List ℕ) : ℕ → List ℕ → Machine → List ℕ → Type 0 where
  begun : Moment limit w m mem 0 w (withheld w m) mem
  stepped : {j : ℕ} {v : List ℕ} {t : Machine} {now : List ℕ} → Moment limit w m mem j v t now → j < limit →
      (step_of t now).refusal ≡ 0 → (step_of t now).answer.event ≡ completed →
      Moment limit w m mem (suc j) v (machine_in (step_of t now).answer.state) (step_of t now).answer.state.mem
  resumed : {j : ℕ} {v : List ℕ} {t : Machine} {now : List ℕ} (i a : ℕ) → Moment limit w m mem j v t now → j < limit →
      (step_of t now).refusal ≡ 0 → (step_of t now).answer.event ≡ violation i a → has v i ≡ true →
      (make_valid (machine_in (step_of t now).answer.state) i).refusal ≡ 0 →
      Moment limit w m mem j (without i v) (make_valid (machine_in (step_of t now).answer.state) i).machine
      (step_of t now).answer.state.mem

-- The first run, of j steps, completes them, and agrees with each moment of the second that has j steps.
abbrev pub EachCount : Type 0
EachCount =
    (m : Machine) (mem : List ℕ) (limit : ℕ) (w : List ℕ) → Withheld w m → (run_of m mem limit).refusal ≡ 0 →
    (j : ℕ) (v : List ℕ) (t : Machine) (now : List ℕ) → Moment limit w m mem j v t now →
    Level real j v (run_of m mem j).ran (machine_state t now)

-- How the second run ends, in u with event e: at a moment with the limit reached, or by the event of the step tried at a moment.
pub data End (limit : ℕ) (w : List ℕ) (m : Machine) (mem : List ℕ) (j : ℕ) (v : List ℕ) (u : State real) (e : Event real) : Type 0 where
  full : Moment limit w m mem j v (machine_in u) u.mem → j ≡ limit → e ≡ completed → End limit w m mem j v u e
  cut : (t : Machine) (now : List ℕ) → Moment limit w m mem j v t now → j < limit → (step_of t now).refusal ≡ 0 →
      u ≡ (step_of t now).answer.state → e ≡ (step_of t now).answer.event → e ≢ completed → End limit w m mem j v u e

-- So the moments are those of the loop of public calls above.
abbrev pub EndsAtMoment : Type 0
EndsAtMoment =
    (m : Machine) (mem : List ℕ) (limit : ℕ) (w : List ℕ) → Withheld w m → (run_of m mem limit).refusal ≡ 0 → (k : ℕ) →
    let p : Paged real = (hosted k limit w (withheld w m) mem).paged in
    End limit w m mem p.steps p.left p.state p.event

pub record Demand3 : Type 0 where
  pub doesn't_show : Doesn'tShow
  pub each_count : EachCount
  pub ends : EndsAtMoment

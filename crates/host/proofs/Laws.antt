-- A law for each way out of the public step and run, over plain values.
use Prim.Native.Nat.{ℕ}
use mathlib.Core.Path.{◌≡◌, refl, ap}
use mathlib.Core.List.{List}
use lib.ListN.{length}
use Rattle.std.specs.Prelude.{Result, Ok, Err}
use Rattle.board.specs.Program as b
use Rattle.board.specs.Run as n
use Rattle.regs.specs.declared.Machine.{Machine}
use Rattle.bus.specs.Board.{real}
use Rattle.legal.specs.declared.refusal.Refusal.{Refusal}
use Rattle.legal.specs.Refusal.{number_of}
use Rattle.legal.proofs.Numbers.{not_0}
use Rattle.steps.specs.declared.Ran as code
use Rattle.cpu.specs.Program.{program}
use Rattle.cpu.specs.Machine.{machine_state}
use Rattle.steps.specs.Ran.{ran_of}
use Rattle.host.specs.Host.{refusal_of, ran, run_of, stepped, step_of}

-- a run of one step is that step
module _ {B : b.Board} (prog : n.Program B) where
  -- an answer without the count
  abbrev pub uncounted : n.Ran B → b.Answer B
  uncounted r = record { state = r.state; event = r.event }

  went : (t : b.State B) (e : b.Event B) → uncounted (n.go_on t e (λ u. n.run prog 0 u)) ≡ record { state = t; event = e }
  unfolding n.go_on n.later n.run n.ended
  went t b.completed = refl
  went t (b.violation i a) = refl
  went t (b.absent p) = refl
  went t (b.other e) = refl

  pub run_one : (s : b.State B) → uncounted (n.run prog 1 s) ≡ n.step prog s
  unfolding n.run
  run_one s = went (n.step prog s).state (n.step prog s).event

module _ (m : Machine) (w : List ℕ) where
  pub refused_run : (budget : ℕ) (k : Refusal) → number_of k ≡ refusal_of m (length w) → ran (Err (record { refusal = k; machine = m })) w ≡ run_of m w budget
  unfolding run_of
  refused_run budget k e = rw (← e, not_0 k)

  pub ran_on : (budget : ℕ) (a : code.Ran) (new : List ℕ) → 0 ≡ refusal_of m (length w) →
      ran_of a new ≡ n.run program budget (machine_state m w) →
      ran (Ok a) new ≡ run_of m w budget
  unfolding run_of
  ran_on budget a new e p = rw (← e, ← p)

  pub refused_step : (k : Refusal) → number_of k ≡ refusal_of m (length w) → stepped (Err (record { refusal = k; machine = m })) w ≡ step_of m w
  unfolding step_of
  refused_step k e = rw (← e, not_0 k)

  pub step_on : (a : code.Ran) (new : List ℕ) → 0 ≡ refusal_of m (length w) →
      ran_of a new ≡ n.run program 1 (machine_state m w) →
      stepped (Ok (record { machine = a.machine; event = a.event })) new ≡ step_of m w
  unfolding step_of
  step_on a new e p =
      rw (← e, ← run_one program (machine_state m w)) (ap (λ (x : n.Ran real). record { refusal = 0; answer = uncounted program x }) p)

-- Saving status and taking the new one: document 01, with sections 6.4.2 to 6.6 of the manual (lines 7704 to 7813).
use Rattle.std.specs.Prelude.{ℕ, ◌+◌, ◌*◌, ◌/◌, Bool, true, false, cond, List, [], ◌∷◌, ◌++◌, Result, Ok, Err}
use Rattle.std.proofs.Math.Option.{Option, none, some}
use Rattle.regs.specs.declared.Control.{Control}
use Rattle.regs.specs.declared.Machine.{Machine}
use Rattle.regs.specs.Change.{with_pc, with_ssp, load_msr}
use Rattle.plan.specs.Kinds.{plus}
use Rattle.board.specs.Program as b
use Rattle.bus.specs.Board.{real, load_at}
use Rattle.bus.specs.Leave.{state_of, two_writes}
use Rattle.legal.specs.declared.refusal.Refused.{Refused}
use Rattle.legal.specs.Refusal.{number_of}

-- an answer: 0 or the refusal's number, and the machine
pub record Delivered : Type 0 where
  pub refusal : ℕ
  pub machine : Machine

-- the answer, and memory afterwards
pub record Outcome : Type 0 where
  pub answer : Delivered
  pub memory : List ℕ

abbrev pub delivered : Machine → List ℕ → Outcome
delivered m w = record { answer = record { refusal = 0; machine = m }; memory = w }

-- a refusal hands the record back, and no byte changes
abbrev pub refusal : ℕ → Machine → List ℕ → Outcome
refusal k m w = record { answer = record { refusal = k; machine = m }; memory = w }

abbrev pub outcome : Result Machine Refused → List ℕ → Outcome
outcome (Ok t) w = delivered t w
outcome (Err x) w = refusal (number_of x.refusal) x.machine w

-- ── saving status (6.4.2, line 7704) ──

-- each word goes to SP - 2, by data, low byte first
unfoldable pub pushes : (sp : ℕ) → List ℕ → List b.Write
pushes sp [] = []
pushes sp (v ∷ vs) = two_writes false (plus sp 65534) v ++ pushes (plus sp 65534) vs

-- SP after them
unfoldable pub lowered : (sp : ℕ) → List ℕ → ℕ
lowered sp [] = sp
lowered sp (v ∷ vs) = lowered (plus sp 65534) vs

-- the machine in system mode: MSR's user bit is clear
abbrev pub system : Machine → List ℕ → b.State real
system m w = state_of m.regs (load_msr 0 m.ctl) m.mmu m.ds w

-- All are checked in order; then bytes are stored and the translated pages marked.
unfoldable pub pushed : Machine → List ℕ → List ℕ → b.Answer real
pushed m w vs =
    b.writes (system m w) (with_ssp (lowered m.regs.ssp vs) m.regs) (pushes m.regs.ssp vs) m.ds w

-- ── new status (6.5, line 7755) ──

-- the pointer's upper 12 bits are bits 23 to 12 of the physical address (line 7772)
abbrev pub vector_at : Control → (offset : ℕ) → ℕ
vector_at c offset = c.vector / 16 * 4096 + offset

unfoldable pub both : Option ℕ → Option ℕ → Option ℕ
both (some l) (some h) = some (l + h * 256)
both (some l) none = none
both none h = none

-- a word at a physical address, low byte first, where there is memory for both bytes
unfoldable pub word_at : List ℕ → ℕ → Option ℕ
word_at w p = both (load_at w p) (load_at w (p + 1))

-- an MSR value, then a PC value (line 7757); s is what the pushes left
unfoldable pub entered : Machine → List ℕ → b.State real → (msr pc : Option ℕ) → Outcome
entered m w s (some msr) (some pc) =
    delivered (record { regs = with_pc pc s.regs; ctl = load_msr msr m.ctl; mmu = m.mmu; ds = s.ds }) s.mem
entered m w s (some msr) none = refusal 9 m w
entered m w s none pc = refusal 9 m w

unfoldable pub all_passed : b.Event real → Bool
all_passed b.completed = true
all_passed (b.violation i a) = false
all_passed (b.absent p) = false
all_passed (b.other e) = false

-- t is what the pushes came to: a fault while status is saved is fatal (6.6, line 7809)
unfoldable pub vectored : Machine → List ℕ → (p : ℕ) → b.Answer real → Outcome
vectored m w p t =
    cond (all_passed t.event)
    (entered m w t.state (word_at t.state.mem p) (word_at t.state.mem (p + 2)))
    (refusal 9 m w)

-- ── the whole ──

unfoldable pub saved : Machine → List ℕ → (offset : ℕ) → List ℕ → Outcome
saved m w offset vs = vectored m w (vector_at m.ctl offset) (pushed m w vs)

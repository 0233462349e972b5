-- What follows in the user's own words.
use Rattle.std.specs.Prelude.{ℕ, ◌+◌, ◌≤◌, ◌≡◌, true, List, [], ◌∷◌, length, get_or}
use Rattle.regs.specs.declared.Machine.{Machine}
use Rattle.legal.specs.Legal.{allowed_bits}
use Rattle.bus.specs.declared.kinds.Event.{Event}
use Rattle.host.specs.Host.{machine_in, Outcome, run_of, step_of}
use Rattle.valid.specs.Valid.{make_valid}
use Rattle.deliver.specs.Deliver.{deliver_of}
use Rattle.form.specs.Form.{read_form}
use Rattle.theorems.specs.Withhold.{withheld, Withheld, Hosted, hosted}
use Rattle.theorems.specs.Runs.{followed}

-- ── of demand 3 ──

-- The bytes in memory after a run are the same, at each address, whichever pages were withheld: w, or none.
abbrev pub SameBytes : Type 0
SameBytes =
    (m : Machine) (mem : List ℕ) (limit : ℕ) (w : List ℕ) → Withheld w m → (p : ℕ) →
    get_or (hosted (length w) limit w (withheld w m) mem).paged.state.mem p 0 ≡ get_or (run_of m mem limit).ran.state.mem p 0

-- Withholding w and withholding v come to the same.
pub record Same (x y : Hosted) : Type 0 where
  pub refusal : x.refusal ≡ y.refusal
  pub steps : x.paged.steps ≡ y.paged.steps
  pub event : x.paged.event ≡ y.paged.event
  pub regs : x.paged.state.regs ≡ y.paged.state.regs
  pub ctl : x.paged.state.ctl ≡ y.paged.state.ctl
  pub mem : x.paged.state.mem ≡ y.paged.state.mem

abbrev pub Whichever : Type 0
Whichever =
    (m : Machine) (mem : List ℕ) (limit : ℕ) (w v : List ℕ) → Withheld w m → Withheld v m →
    Same (hosted (length w) limit w (withheld w m) mem) (hosted (length v) limit v (withheld v m) mem)

-- No page is made valid twice: there are no more faults than pages.
abbrev pub OnceEach : Type 0
OnceEach =
    (m : Machine) (mem : List ℕ) (limit : ℕ) (w : List ℕ) → Withheld w m → (k : ℕ) → length w ≤ k →
    (hosted k limit w (withheld w m) mem).paged.faults ≤ length w

-- ── of demand 2 ──

abbrev pub total : List ℕ → ℕ
total [] = 0
total (n ∷ ns) = n + total ns

-- runs with these budgets, each on what the one before it left, up to the first event other than 0
abbrev pub in_pieces : List ℕ → Machine → List ℕ → Outcome
in_pieces [] m w = run_of m w 0
in_pieces (n ∷ ns) m w = followed (run_of m w n) (λ t v. in_pieces ns t v)

-- A host may cut a run wherever it likes.
abbrev pub CutAnywhere : Type 0
CutAnywhere = (ns : List ℕ) (m : Machine) (w : List ℕ) → run_of m w (total ns) ≡ in_pieces ns m w

-- ── of demand 1 ──

-- A record that was read, refused or not, and worked by these calls alone never meets refusal 2.
pub record NeverTwo : Type 0 where
  pub read : (s : List ℕ) → allowed_bits (read_form s).machine ≡ true
  pub step : (m : Machine) (w : List ℕ) → allowed_bits m ≡ true → allowed_bits (machine_in (step_of m w).answer.state) ≡ true
  pub run : (m : Machine) (w : List ℕ) (n : ℕ) → allowed_bits m ≡ true → allowed_bits (machine_in (run_of m w n).ran.state) ≡ true
  pub making_valid : (m : Machine) (n : ℕ) → allowed_bits m ≡ true → allowed_bits (make_valid m n).machine ≡ true
  pub deliver : (m : Machine) (w : List ℕ) (e : Event) → allowed_bits m ≡ true → allowed_bits (deliver_of m w e).answer.machine ≡ true

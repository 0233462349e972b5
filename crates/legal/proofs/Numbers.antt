-- No refusal has number 0, and no two have one number.
use Rattle.std.specs.Prelude.{◌≡◌, ℕ, eqb, cond, false, refl, Result, Ok, Err}
use Rattle.std.proofs.Common.{sym, ◌∙◌, ap}
use Rattle.regs.specs.declared.Machine.{Machine}
use Rattle.legal.specs.declared.refusal.Refused.{Refused}
use Rattle.legal.specs.declared.refusal.Refusal.{Refusal}
use Rattle.legal.specs.declared.refusal.Refusal.TheVariants.{MemoryLength, ReservedBit, BufferLength, Version, Padding, NoDescriptor, AlreadyValid, Undeliverable, Fatal, FrameCount}
use Rattle.legal.specs.Refusal.{number_of, refused_by}

pub not_0 : (k : Refusal) → eqb (number_of k) 0 ≡ false
not_0 MemoryLength = refl
not_0 ReservedBit = refl
not_0 BufferLength = refl
not_0 Version = refl
not_0 Padding = refl
not_0 NoDescriptor = refl
not_0 AlreadyValid = refl
not_0 Undeliverable = refl
not_0 Fatal = refl
not_0 FrameCount = refl

-- the refusal of a number
abbrev pub numbered : ℕ → Refusal
numbered n =
    cond (eqb n 1) MemoryLength
    (cond (eqb n 2) ReservedBit
    (cond (eqb n 3) BufferLength
    (cond (eqb n 4) Version
    (cond (eqb n 5) Padding
    (cond (eqb n 6) NoDescriptor
    (cond (eqb n 7) AlreadyValid (cond (eqb n 8) Undeliverable (cond (eqb n 9) Fatal FrameCount))))))))

pub numbered_back : (k : Refusal) → numbered (number_of k) ≡ k
numbered_back MemoryLength = refl
numbered_back ReservedBit = refl
numbered_back BufferLength = refl
numbered_back Version = refl
numbered_back Padding = refl
numbered_back NoDescriptor = refl
numbered_back AlreadyValid = refl
numbered_back Undeliverable = refl
numbered_back Fatal = refl
numbered_back FrameCount = refl

-- an answer by its number, and what it carries where that is 0
abbrev pub answer_in : {A : Type 0} → ℕ → A → Result A Refusal
answer_in n a = cond (eqb n 0) (Ok a) (Err (numbered n))

pub refused_back : {A : Type 0} (k : Refusal) (a : A) → answer_in (number_of k) a ≡ Err k
refused_back k a = rw (not_0 k, numbered_back k)

by_number : (r : Result (Unit {0}) Refusal) → answer_in (refused_by r) tt ≡ r
by_number (Ok x) = refl
by_number (Err k) = refused_back k tt

-- answers that carry nothing else are one where they are refused by one number
pub once : (r s : Result (Unit {0}) Refusal) → refused_by r ≡ refused_by s → r ≡ s
once r s e = sym (by_number r) ∙ ap (λ (n : ℕ). answer_in n tt) e ∙ by_number s

-- an answer of a call on a record, by its number and the record
abbrev pub recorded : {A : Type 0} → ℕ → Machine → A → Result A Refused
recorded n m a = cond (eqb n 0) (Ok a) (Err (record { refusal = numbered n; machine = m }))

pub record_back : {A : Type 0} (x : Refused) (a : A) → recorded (number_of x.refusal) x.machine a ≡ Err x
record_back x a = rw (not_0 x.refusal, numbered_back x.refusal)

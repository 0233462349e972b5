-- Document 01's refusal numbers.
use Rattle.std.specs.Prelude.{ℕ, Result, Ok, Err}
use Rattle.legal.specs.declared.refusal.Refusal.{Refusal}
use Rattle.legal.specs.declared.refusal.Refusal.TheVariants.{MemoryLength, ReservedBit, BufferLength, Version, Padding, NoDescriptor, AlreadyValid, Undeliverable, Fatal, FrameCount}

abbrev pub number_of : Refusal → ℕ
number_of MemoryLength = 1
number_of ReservedBit = 2
number_of BufferLength = 3
number_of Version = 4
number_of Padding = 5
number_of NoDescriptor = 6
number_of AlreadyValid = 7
number_of Undeliverable = 8
number_of Fatal = 9
number_of FrameCount = 10

-- what an answer is refused by; 0 is no refusal
abbrev pub refused_by : {A : Type 0} → Result A Refusal → ℕ
refused_by (Ok a) = 0
refused_by (Err k) = number_of k

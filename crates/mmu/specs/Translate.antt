-- From logical to physical: the memory unit of the manual's chapter 7 (lines 7817 to 7990), held to document 01.
-- Truth values: user (else system), program (else data), write (else read). Numbers of descriptors: Table 7-1.
use Rattle.std.specs.Prelude.{ℕ, ◌+◌, ◌*◌, ◌-◌, ◌/◌, ◌%◌, Bool, true, false, cond, List, eqb, get_or, set, Result, Ok, Err}
use Rattle.mmu.specs.declared.Violated.{Violated}

-- the bit of a weight
abbrev pub bit : (weight x : ℕ) → Bool
bit weight x = eqb (x / weight % 2) 1

-- ── MMU control ──

-- The enable bits of the mode in force, as a number of two bits: UTE 8000h, UPD 4000h, STE 0800h, SPD 0400h (7898 to 7904).
unfoldable pub mode_bits : (control : ℕ) (user : Bool) → ℕ
mode_bits control user = cond user (control / 0x4000 % 4) (control / 0x0400 % 4)

abbrev pub translating : (bits : ℕ) → Bool
translating bits = bit 2 bits

abbrev pub separated : (bits : ℕ) → Bool
separated bits = eqb (bits % 2) 1

-- the last faulting descriptor, in the lowest five bits (PFI, 7908)
abbrev pub latched : (i control : ℕ) → ℕ
latched i control = control / 32 * 32 + i % 32

-- ── descriptors ──

-- V (7865), WP (7863)
abbrev pub valid : (d : ℕ) → Bool
valid d = bit 8 d

abbrev pub protected : (d : ℕ) → Bool
protected d = bit 4 d

-- an access violation: the page is invalid, or it is protected and written (7842)
unfoldable pub barred : (write : Bool) (d : ℕ) → Bool
barred write d = cond (valid d) (cond write (protected d) false) true

abbrev pub set_modified : (d : ℕ) → ℕ
set_modified d = d / 2 * 2 + 1

abbrev pub set_valid : (d : ℕ) → ℕ
set_valid d = d + 8 * (1 - d / 8 % 2)

abbrev pub clear_valid : (d : ℕ) → ℕ
clear_valid d = d - 8 * (d / 8 % 2)

-- descriptor i becomes f of itself
abbrev pub change : (f : ℕ → ℕ) (i : ℕ) (ds : List ℕ) → List ℕ
change f i ds = set ds i (f (get_or ds i 0))

-- ── translation ──

-- The index of four bits: the address's highest four (7873);
-- separated, its highest three below the program/data signal (7882).
unfoldable pub index : (apart program : Bool) (a : ℕ) → ℕ
index apart program a = cond apart (cond program 8 0 + a / 8192 % 8) (a / 4096 % 16)

-- user descriptors are 0 to 15, system descriptors 16 to 31 (Table 7-1, 7914)
unfoldable pub number_of : (bits : ℕ) (user program : Bool) (a : ℕ) → ℕ
number_of bits user program a = cond user 0 16 + index (separated bits) program a

-- The frame field, bits 15 to 4, above the low 12 bits (7873); separated, its upper 11 bits above the low 13 (7882).
unfoldable pub physical : (apart : Bool) (d a : ℕ) → ℕ
physical apart d a = cond apart (d / 32 * 8192 + a % 8192) (d / 16 * 4096 + a % 4096)

-- by descriptor d, whose number is n
unfoldable pub by_descriptor : (apart : Bool) (n d : ℕ) (write : Bool) (a : ℕ) → Result ℕ Violated
by_descriptor apart n d write a = cond (barred write d) (Err (record { descriptor = n })) (Ok (physical apart d a))

-- translation off: the address passes through, zeros above it (7846)
unfoldable pub placed : (bits : ℕ) (user : Bool) (ds : List ℕ) (program write : Bool) (a : ℕ) → Result ℕ Violated
placed bits user ds program write a =
    cond (translating bits)
    (by_descriptor (separated bits) (number_of bits user program a) (get_or ds (number_of bits user program a) 0) write a)
    (Ok a)

unfoldable pub translate : (control : ℕ) (user : Bool) (ds : List ℕ) (program write : Bool) (a : ℕ) → Result ℕ Violated
translate control user ds program write a = placed (mode_bits control user) user ds program write a

-- M: a page written is marked, where addresses are translated (7859, 7898)
unfoldable pub marked : (bits : ℕ) (user program : Bool) (a : ℕ) (ds : List ℕ) → List ℕ
marked bits user program a ds = cond (translating bits) (change set_modified (number_of bits user program a) ds) ds

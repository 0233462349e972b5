-- The privileged instructions that change control registers or the user stack pointer: operations 16 to 23. Lines are those of section 5.6's pages.
use Rattle.std.specs.Prelude.{ℕ, ◌-◌, ◌/◌, ◌%◌, cond, List, [], ◌∷◌, eqb, ltb, get_or}
use Rattle.std.specs.Int.Bits.{bit_and, bit_or}
use Rattle.regs.specs.declared.Regs.{Regs}
use Rattle.regs.specs.declared.Control.{Control}
use Rattle.regs.specs.Change.{with_pc, with_ssp, with_usp, load_msr, load_tcr, load_iopage, load_limit, load_vector}
use Rattle.regs.specs.Select.{low, index_of, put_index}
use Rattle.plan.specs.declared.kinds.Ins.{Ins}
use Rattle.plan.specs.declared.kinds.Governed.{Governed}
use Rattle.plan.specs.Kinds.{plus, byte, word}

abbrev pub ending : Regs → Control → Governed
ending r c = record { regs = r; ctl = c }

-- the mask byte of DI and EI: bit i stands for MSR's enable i, of which there are seven; bit 7 is ignored
abbrev pub masked : Ins → ℕ
masked i = byte i.arg % 128

-- if mask(i) = 1 then MSR(i) ← 0
unfoldable pub disabled : ℕ → Control → Control
disabled n c = load_msr (bit_and c.msr (0xFFFF - n)) c

-- if mask(i) = 1 then MSR(i) ← 1
unfoldable pub enabled : ℕ → Control → Control
enabled n c = load_msr (bit_or c.msr n) c

-- DI, line 2766: without a mask all seven
unfoldable pub di_of : Regs → Control → Governed
di_of r c = ending r (disabled 0x7F c)

-- EI, line 3091: without a mask all seven
unfoldable pub ei_of : Regs → Control → Governed
ei_of r c = ending r (enabled 0x7F c)

-- DI mask, line 2775
unfoldable pub di_n : Regs → Control → Ins → Governed
di_n r c i = ending r (disabled (masked i) c)

-- EI mask, line 3098
unfoldable pub ei_n : Regs → Control → Ins → Governed
ei_n r c i = ending r (enabled (masked i) c)

-- the control registers by their addresses, line 4353; d where there is none. A byte register is read with zero above it
unfoldable pub control_at : ℕ → Control → ℕ → ℕ
control_at k c d =
    cond (eqb k 0x00) c.msr
    (cond (eqb k 0x04) c.limit
    (cond (eqb k 0x06) c.vector
    (cond (eqb k 0x08) c.iopage
    (cond (eqb k 0x10) c.tcr d))))

-- the same registers loaded: bits that may not be set are stored as zero
unfoldable pub put_control_at : ℕ → ℕ → Control → Control
put_control_at k v c =
    cond (eqb k 0x00) (load_msr v c)
    (cond (eqb k 0x04) (load_limit v c)
    (cond (eqb k 0x06) (load_vector v c)
    (cond (eqb k 0x08) (load_iopage v c)
    (cond (eqb k 0x10) (load_tcr v c) c))))

-- LDCTL XX,(C), line 4380: the address is in C
unfoldable pub ldctl_xx_c : Regs → Control → Ins → Governed
ldctl_xx_c r c i = ending (put_index i.opening (control_at (low r.bc) c (index_of i.opening r)) r) c

-- LDCTL (C),XX, line 4382
unfoldable pub ldctl_c_xx : Regs → Control → Ins → Governed
ldctl_c_xx r c i = ending r (put_control_at (low r.bc) (index_of i.opening r) c)

-- LDCTL XX,USP and LDCTL USP,XX, lines 4384 and 4386: bit 3 of the operation code is 0 and 1
unfoldable pub ldctl_usp : Regs → Control → Ins → Governed
ldctl_usp r c i =
    cond (eqb (i.code / 8 % 2) 0) (ending (put_index i.opening r.usp r) c) (ending (with_usp (index_of i.opening r) r) c)

-- RETIL, line 5990: four bytes are popped from the system stack, MSR first and then PC (6004)
unfoldable pub retil_of : Regs → Control → ℕ → Governed
retil_of r c v = ending (with_pc (word (v / 65536)) (with_ssp (plus r.ssp 4) r)) (load_msr (word v) c)

-- operations 16 to 23 in their order; no other governs
abbrev pub governings : Regs → Control → Ins → ℕ → List Governed
governings r c i v =
    di_of r c ∷ ei_of r c ∷ di_n r c i ∷ ei_n r c i ∷ ldctl_xx_c r c i ∷ ldctl_c_xx r c i ∷ ldctl_usp r c i ∷ retil_of r c v ∷ []

unfoldable pub governing_by : ℕ → Regs → Control → Ins → ℕ → Governed
governing_by k r c i v = get_or (governings r c i v) k (ending r c)

unfoldable pub govern_of : Regs → Control → Ins → ℕ → Governed
govern_of r c i v = cond (ltb i.op 16) (ending r c) (governing_by (i.op - 16) r c i v)

-- AND, OR and XOR of bytes, the eight operations on the accumulator by their code, and the instructions on A or C alone.
-- Lines are those of section 5.6's pages.
use Rattle.std.specs.Prelude.{ℕ, ◌-◌, ◌%◌, Bool, true, false, not, List, [], ◌∷◌, eqb, leb, get_or}
use Rattle.std.specs.Int.Bits.{bit_and, bit_or, bit_xor}
use Rattle.std.specs.Int.Count.{ones}
use Rattle.sums.specs.declared.Flags.{Flags}
use Rattle.sums.specs.Flag.{packed, unpacked, pair_of}
use Rattle.sums.specs.Sums.{add_of, adc_of, sub_of, sbc_of, cp_of}

-- the number of ones is even
abbrev pub even : ℕ → Bool
even n = eqb (ones n % 2) 0

-- S, Z and parity of a result, N clear, H and C as given
abbrev pub result_flags : Bool → Bool → ℕ → Flags
result_flags h c r = record { s = leb 128 r; z = eqb r 0; h = h; v = even r; n = false; c = c }

-- AND, line 2096, sets H; OR, line 5324, and XOR, line 7219, clear it
unfoldable pub and_of : ℕ → ℕ → ℕ → ℕ
and_of a b f = pair_of f (record { value = bit_and a b; flags = result_flags true false (bit_and a b) })

unfoldable pub or_of : ℕ → ℕ → ℕ → ℕ
or_of a b f = pair_of f (record { value = bit_or a b; flags = result_flags false false (bit_or a b) })

unfoldable pub xor_of : ℕ → ℕ → ℕ → ℕ
xor_of a b f = pair_of f (record { value = bit_xor a b; flags = result_flags false false (bit_xor a b) })

-- the operations of the codes 0 to 6; 7 is CP
abbrev pub alus : ℕ → ℕ → ℕ → List ℕ
alus a b f = add_of a b f ∷ adc_of a b f ∷ sub_of a b f ∷ sbc_of a b f ∷ and_of a b f ∷ xor_of a b f ∷ or_of a b f ∷ []

unfoldable pub alu_of : ℕ → ℕ → ℕ → ℕ → ℕ
alu_of k a b f = get_or (alus a b f) k (cp_of a b f)

-- CPL, line 2585: H and N set, the rest stays
abbrev cpl_flags : Flags → Flags
cpl_flags x = record { s = x.s; z = x.z; h = true; v = x.v; n = true; c = x.c }

unfoldable pub cpl_of : ℕ → ℕ → ℕ
cpl_of a f = pair_of f (record { value = 255 - a; flags = cpl_flags (unpacked f) })

-- SCF, line 6839: H and N clear, C set
abbrev scf_flags : Flags → Flags
scf_flags x = record { s = x.s; z = x.z; h = false; v = x.v; n = false; c = true }

unfoldable pub scf_of : ℕ → ℕ
scf_of f = packed f (scf_flags (unpacked f))

-- CCF, line 2275: H is what C was, N clear, C turned over
abbrev ccf_flags : Flags → Flags
ccf_flags x = record { s = x.s; z = x.z; h = x.c; v = x.v; n = false; c = not x.c }

unfoldable pub ccf_of : ℕ → ℕ
ccf_of f = packed f (ccf_flags (unpacked f))

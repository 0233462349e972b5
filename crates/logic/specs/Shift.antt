-- Rotates, shifts and single bits of a byte. Bit 7 is a / 128, the bits below it are a % 128; bit 0 is a % 2, those above it a / 2.
-- Lines are those of section 5.6's pages.
use Rattle.std.specs.Prelude.{ℕ, ◌+◌, ◌-◌, ◌*◌, ◌/◌, ◌%◌, ◌^◌, true, false, List, [], ◌∷◌, eqb, leb, get_or}
use Rattle.std.specs.Int.Bits.{bit_and, bit_or}
use Rattle.sums.specs.declared.Flags.{Flags}
use Rattle.sums.specs.declared.Flagged.{Flagged}
use Rattle.sums.specs.Flag.{bit, packed, unpacked, pair_of, keep_szv}
use Rattle.logic.specs.Logic.{result_flags}

-- one place to the left: i comes in at bit 0, bit 7 goes to C
abbrev pub left_with : ℕ → ℕ → Flagged ℕ
left_with i a = record { value = a % 128 * 2 + i; flags = result_flags false (eqb (a / 128) 1) (a % 128 * 2 + i) }

-- one place to the right: i comes in at bit 7, bit 0 goes to C
abbrev pub right_with : ℕ → ℕ → Flagged ℕ
right_with i a = record { value = i * 128 + a / 2; flags = result_flags false (eqb (a % 2) 1) (i * 128 + a / 2) }

-- TSET, line 7159: S from bit 7, the other flags stay, all bits set
abbrev pub tset : ℕ → Flags → Flagged ℕ
tset a old =
    record {
      value = 0xFF;
      flags = record { s = leb 128 a; z = old.z; h = old.h; v = old.v; n = old.n; c = old.c };
    }

-- bits 5 to 3 of the operation code, 0 to 6; 7 is SRL, line 6982
abbrev pub turns : ℕ → Flags → List (Flagged ℕ)
turns a old =
    left_with (a / 128) a  -- RLC, line 6200
    ∷ right_with (a % 2) a  -- RRC, line 6451
    ∷ left_with (bit old.c) a  -- RL, line 6096
    ∷ right_with (bit old.c) a  -- RR, line 6341
    ∷ left_with 0 a  -- SLA, line 6855
    ∷ right_with (a / 128) a  -- SRA, line 6906
    ∷ tset a old
    ∷ []

unfoldable pub turn_of : ℕ → ℕ → Flags → Flagged ℕ
turn_of k a old = get_or (turns a old) k (right_with 0 a)

unfoldable pub rotate_of : ℕ → ℕ → ℕ → ℕ
rotate_of k a f = pair_of f (turn_of k a (unpacked f))

-- RLCA, line 6249; RRCA, line 6508; RLA, line 6153; RRA, line 6396: the same of the accumulator, with S, Z and P kept
abbrev of_a : Flags → Flagged ℕ → Flagged ℕ
of_a old x = record { value = x.value; flags = keep_szv old x.flags }

unfoldable pub rotate_a_of : ℕ → ℕ → ℕ → ℕ
rotate_a_of k a f = pair_of f (of_a (unpacked f) (turn_of k a (unpacked f)))

-- BIT, line 2165: Z where bit n is zero, H set, N clear, the rest stays
abbrev bit_flags : ℕ → ℕ → Flags → Flags
bit_flags n a x = record { s = x.s; z = eqb (a / 2 ^ (n % 8) % 2) 0; h = true; v = x.v; n = false; c = x.c }

unfoldable pub bit_test_of : ℕ → ℕ → ℕ → ℕ
bit_test_of n a f = packed f (bit_flags n a (unpacked f))

-- RES, line 5867; SET, line 6849
unfoldable pub res_of : ℕ → ℕ → ℕ
res_of n a = bit_and a (255 - 2 ^ (n % 8))

unfoldable pub set_of : ℕ → ℕ → ℕ
set_of n a = bit_or a (2 ^ (n % 8))

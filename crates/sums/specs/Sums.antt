-- The adding and subtracting instructions, from operands and the old F to the result and the new F. Lines are those of section 5.6's pages.
use Rattle.std.specs.Prelude.{ℕ, ◌+◌, ◌*◌, not, ◌==◌}
use Rattle.sums.specs.declared.WithF.{WithF}
use Rattle.sums.specs.Width.{add_value, sub_value, extended}
use Rattle.sums.specs.Flag.{bit, packed, unpacked, pair_of, word_of, add_flags, sub_flags, neg_flags, added, subbed, keep_c, keep_szv}

-- the carry flag of f, as a number
abbrev pub carry_of : ℕ → ℕ
carry_of f = bit (unpacked f).c

-- ADC, line 1691; ADD, line 1891
unfoldable pub adc_of : ℕ → ℕ → ℕ → ℕ
adc_of a b f = pair_of f (added 8 a b (carry_of f))

unfoldable pub add_of : ℕ → ℕ → ℕ → ℕ
add_of a b f = pair_of f (added 8 a b 0)

-- CP, line 2286: the accumulator stays
unfoldable pub cp_of : ℕ → ℕ → ℕ → ℕ
cp_of a b f = a * 256 + packed f (sub_flags 8 a b 0)

-- DEC, line 2729; INC, line 3521: C stays
unfoldable pub dec_of : ℕ → ℕ → ℕ
dec_of a f = pair_of f (record { value = sub_value 8 a 1 0; flags = keep_c (unpacked f) (sub_flags 8 a 1 0) })

unfoldable pub inc_of : ℕ → ℕ → ℕ
inc_of a f = pair_of f (record { value = add_value 8 a 1 0; flags = keep_c (unpacked f) (add_flags 8 a 1 0) })

-- NEG A, line 5294: V where the accumulator was not 80h, as printed
unfoldable pub neg_of : ℕ → ℕ → ℕ
neg_of a f = pair_of f (record { value = sub_value 8 0 a 0; flags = neg_flags 8 (not (a == 0x80)) a })

-- SBC, line 6641; SUB, line 7031
unfoldable pub sbc_of : ℕ → ℕ → ℕ → ℕ
sbc_of a b f = pair_of f (subbed 8 a b (carry_of f))

unfoldable pub sub_of : ℕ → ℕ → ℕ → ℕ
sub_of a b f = pair_of f (subbed 8 a b 0)

-- ADC of words, line 1759
unfoldable pub adcw_of : ℕ → ℕ → ℕ → WithF ℕ
adcw_of a b f = word_of f (added 16 a b (carry_of f))

-- ADD XX,A, line 1830: the accumulator b, its sign extended; all six flags
unfoldable pub add_a_of : ℕ → ℕ → ℕ → WithF ℕ
add_a_of a b f = word_of f (added 16 a (extended 8 b) 0)

-- ADD XX,RR, line 1962: S, Z and V stay
unfoldable pub add_hl_of : ℕ → ℕ → ℕ → WithF ℕ
add_hl_of a b f = word_of f (record { value = add_value 16 a b 0; flags = keep_szv (unpacked f) (add_flags 16 a b 0) })

-- ADDW, line 2037
unfoldable pub addw_of : ℕ → ℕ → ℕ → WithF ℕ
addw_of a b f = word_of f (added 16 a b 0)

-- CPW, line 2596
unfoldable pub cpw_of : ℕ → ℕ → ℕ → ℕ
cpw_of a b f = packed f (sub_flags 16 a b 0)

-- NEG HL, line 5307: V where HL was 8000h
unfoldable pub negw_of : ℕ → ℕ → WithF ℕ
negw_of a f = word_of f (record { value = sub_value 16 0 a 0; flags = neg_flags 16 (a == 0x8000) a })

-- SBC of words, line 6711; SUBW, line 7097
unfoldable pub sbcw_of : ℕ → ℕ → ℕ → WithF ℕ
sbcw_of a b f = word_of f (subbed 16 a b (carry_of f))

unfoldable pub subw_of : ℕ → ℕ → ℕ → WithF ℕ
subw_of a b f = word_of f (subbed 16 a b 0)

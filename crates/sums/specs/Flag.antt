-- The flag register F: six flags, and bits 5 and 3, which stay. The flags of sums and differences at any width.
use Rattle.std.specs.Prelude.{ℕ, ◌+◌, ◌*◌, ◌/◌, ◌%◌, Bool, true, false, not, ◌==◌}
use Rattle.sums.specs.declared.Flags.{Flags}
use Rattle.sums.specs.declared.Flagged.{Flagged}
use Rattle.sums.specs.declared.WithF.{WithF}
use Rattle.sums.specs.Width.{sign, add_value, add_carry, add_half, add_over, sub_value, sub_carry, sub_half, sub_over}

abbrev pub bit : Bool → ℕ
bit true = 1
bit false = 0

-- S 80h, Z 40h, H 10h, P/V 04h, N 02h, C 01h over the old f, of which bits 5 and 3 stay
abbrev pub packed : ℕ → Flags → ℕ
packed f x =
    bit x.s * 128 + bit x.z * 64 + f / 32 % 2 * 32 + bit x.h * 16 + f / 8 % 2 * 8 + bit x.v * 4 + bit x.n * 2 + bit x.c

abbrev pub unpacked : ℕ → Flags
unpacked f =
    record {
      s = (f / 128 % 2 == 1);
      z = (f / 64 % 2 == 1);
      h = (f / 16 % 2 == 1);
      v = (f / 4 % 2 == 1);
      n = (f / 2 % 2 == 1);
      c = (f % 2 == 1);
    }

-- a result and its flags over the old f: a byte above F, as A stands above F in AF; a word beside F
abbrev pub pair_of : ℕ → Flagged ℕ → ℕ
pair_of f x = x.value * 256 + packed f x.flags

abbrev pub word_of : {A : Type 0} → ℕ → Flagged A → WithF A
word_of f x = record { value = x.value; f = packed f x.flags }

-- the flags of a + b + c and of a - b - c
abbrev pub add_flags : ℕ → ℕ → ℕ → ℕ → Flags
add_flags k a b c =
    record {
      s = sign k (add_value k a b c);
      z = (add_value k a b c == 0);
      h = add_half k a b c;
      v = add_over k a b c;
      n = false;
      c = add_carry k a b c;
    }

abbrev pub sub_flags : ℕ → ℕ → ℕ → ℕ → Flags
sub_flags k a b c =
    record {
      s = sign k (sub_value k a b c);
      z = (sub_value k a b c == 0);
      h = sub_half k a b c;
      v = sub_over k a b c;
      n = true;
      c = sub_carry k a b c;
    }

-- the result and the flags together
abbrev pub added : ℕ → ℕ → ℕ → ℕ → Flagged ℕ
added k a b c = record { value = add_value k a b c; flags = add_flags k a b c }

abbrev pub subbed : ℕ → ℕ → ℕ → ℕ → Flagged ℕ
subbed k a b c = record { value = sub_value k a b c; flags = sub_flags k a b c }

-- flags that an instruction keeps: C alone; S, Z and V
abbrev pub keep_c : Flags → Flags → Flags
keep_c old x = record { s = x.s; z = x.z; h = x.h; v = x.v; n = x.n; c = old.c }

abbrev pub keep_szv : Flags → Flags → Flags
keep_szv old x = record { s = old.s; z = old.z; h = x.h; v = old.v; n = x.n; c = x.c }

-- flags of a negation, by the pages' own lines for V and C: C where the operand was not zero
abbrev pub neg_flags : ℕ → Bool → ℕ → Flags
neg_flags k v a =
    record {
      s = sign k (sub_value k 0 a 0);
      z = (sub_value k 0 a 0 == 0);
      h = sub_half k 0 a 0;
      v = v;
      n = true;
      c = not (a == 0);
    }

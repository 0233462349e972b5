-- Document 01, "Known steps": version 1 and all other bits zero is the reset record with one frame; forms of 100 and 102 bytes are refusal 3.
use mathlib.Core.Path.{◌≡◌, refl}
use mathlib.Core.List.{List, ◌∷◌}
use Prim.Native.Nat.{ℕ}
use native.Mathlib.Omega.{arith}
use lib.ListN.{length, replicate}
use Rattle.pack.specs.Pack.{total, join_from, cut, number, unpack}
use Rattle.legal.specs.Legal.{allowed_bits, reset_record}
use Rattle.form.specs.Form.{widths, machine_of, refused, restored, read_fields, read_form}
use Rattle.form.proofs.Tests.{length_3}

pub all_zero : read_form (1 ∷ replicate 100 0) ≡ record { refusal = 0; machine = reset_record; frames = 1 }
unfolding read_form read_fields restored machine_of allowed_bits unpack number cut join_from total widths
all_zero = refl

pub one_short : (s : List ℕ) → length s ≡ 100 → read_form s ≡ refused 3
one_short s h = length_3 s (λ e. omega arith)

pub one_long : (s : List ℕ) → length s ≡ 102 → read_form s ≡ refused 3
one_long s h = length_3 s (λ e. omega arith)

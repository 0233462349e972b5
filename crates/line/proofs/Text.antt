-- A text over the first bytes of a buffer, piece by piece.
use Prim.Native.Nat.{ℕ, ◌+◌}
use mathlib.Core.Path.{◌≡◌, refl, sym, ◌∙◌}
use mathlib.Core.List.{List, [], ◌++◌, append_assoc}
use lib.ListN.{length, drop, replicate, length-append}
use lib.Seq.{take_at, drop-append-add, drop-drop}
use Rattle.pack.specs.Pack.{pasted}
use Rattle.line.specs.Line.{Over}

pub begun : {old : List ℕ} {n : ℕ} → n ≡ 0 → old ≡ replicate 32 0 → Over [] (replicate 32 0) n old
begun {old} {n} e h = record { long = e; spelt = h }

pub more : {t old new last : List ℕ} {at r : ℕ} → Over t old at new → (s : List ℕ) →
    r ≡ at + length s → last ≡ pasted new at s → Over (t ++ s) old r last
more {t} {old} {new} {last} {at} {r} o s e h =
    record {
      long = e ∙ rw o.long (sym (length-append t s));
      spelt =
          h
          ∙ rw (
            o.spelt,
            o.long,
            take_at t (drop (length t) old) (length t) refl,
            drop-append-add t (drop (length t) old) (length s),
            drop-drop (length s) (length t) old,
            length-append t s,
            append_assoc t s (drop (length t + length s) old),
          );
    }

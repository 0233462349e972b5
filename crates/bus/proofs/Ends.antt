-- Writes that go through, over plain values: for places of bytes that are known.
use Rattle.std.proofs.Common.{◌≡◌, ℕ, ◌/◌, ◌%◌, ◌<◌, Bool, true, false, ltb, List, length, set, sym, refl, ap, ◌∙◌, arith, ltb-true}
use Rattle.std.specs.Prelude.{Result, Ok, Err}
use Rattle.mmu.specs.declared.Violated.{Violated}
use Rattle.mmu.specs.Translate.{mode_bits, translate, marked}
use Rattle.board.specs.declared.Fault.{Fault}
use Rattle.board.specs.Program as b
use Rattle.regs.specs.declared.Regs.{Regs}
use Rattle.regs.specs.declared.Control.{Control}
use Rattle.regs.specs.Select.{user_of}
use Rattle.bus.specs.Board.{real}
use Rattle.bus.specs.Access.{next, room_for}
use Rattle.bus.specs.Leave.{state_of, one_write, two_writes}
use Rattle.bus.specs.Write.{kept, Wrote}

module _ (u : Bool) (mmu : ℕ) (ds w : List ℕ) where
  -- where a byte at a goes
  room : Bool → ℕ → Result ℕ Fault
  room k a = room_for u mmu ds (length w) k a

  mark : Bool → ℕ → List ℕ → List ℕ
  mark k a es = marked (mode_bits mmu u) u k a es

  went_at : (s : b.State real) (x g : Result ℕ Fault) (p : ℕ) (f : ℕ → b.Answer real) → g ≡ x → g ≡ Ok p → f p ≡ b.after s x f
  unfolding b.after
  went_at s x g p f e h = ap (λ y. b.after s y f) (sym h ∙ e)

  one_end : b.State real → Regs → Control → Bool → ℕ → ℕ → ℕ → b.Answer real
  one_end s q c k a v x = b.finish s q c (mark k a ds) (set w x v)

  one_is : (r q : Regs) (c : Control) (k : Bool) (a v : ℕ) → user_of c ≡ u →
      b.writes (state_of r c mmu ds w) q (one_write k a v) ds w ≡ b.after (state_of r c mmu ds w) (room k a) (λ x. one_end (state_of r c mmu ds w) q c k a v x)
  unfolding b.writes b.write_to room_for b.touch room mark one_end
  one_is r q c k a v e = rw e

  pub wrote_1 : (k : Bool) (a v p m : ℕ) (g : Result ℕ Fault) (es : List ℕ) → m ≡ mode_bits mmu u → g ≡ room_for u mmu ds (length w) k a → g ≡ Ok p →
      es ≡ marked m u k a ds → Wrote u mmu (one_write k a v) (Ok tt) ds w es (set w p v)
  unfolding room mark one_end kept
  wrote_1 k a v p m g es n y h j =
      record {
        ends = λ r q c e. rw (j, n) (went_at (state_of r c mmu ds w) (room k a) g p (λ x. one_end (state_of r c mmu ds w) q c k a v x) y h) ∙ sym (one_is r q c k a v e);
        descriptors = refl;
        memory = refl;
      }

  two_end : b.State real → Regs → Control → Bool → ℕ → ℕ → ℕ → ℕ → b.Answer real
  two_end s q c k a v p x = b.finish s q c (mark k (next a) (mark k a ds)) (set (set w p (v % 256)) x (v / 256))

  two_is : (r q : Regs) (c : Control) (k : Bool) (a v : ℕ) → user_of c ≡ u →
      b.writes (state_of r c mmu ds w) q (two_writes k a v) ds w ≡
      b.after (state_of r c mmu ds w) (room k a) (λ p. b.after (state_of r c mmu ds w) (room k (next a)) (λ x. two_end (state_of r c mmu ds w) q c k a v p x))
  unfolding b.writes b.write_to room_for b.touch room mark two_end
  two_is r q c k a v e = rw e

  two_first : (r q : Regs) (c : Control) (k : Bool) (a v p : ℕ) (g : Result ℕ Fault) → user_of c ≡ u → g ≡ room k a → g ≡ Ok p →
      b.after (state_of r c mmu ds w) (room k (next a)) (λ x. two_end (state_of r c mmu ds w) q c k a v p x) ≡ b.writes (state_of r c mmu ds w) q (two_writes k a v) ds w
  two_first r q c k a v p g e y h =
      went_at (state_of r c mmu ds w) (room k a) g p (λ p. b.after (state_of r c mmu ds w) (room k (next a)) (λ x. two_end (state_of r c mmu ds w) q c k a v p x)) y h ∙ sym (two_is r q c k a v e)

  pub wrote_2 : (k : Bool) (a v p z f m : ℕ) (g h : Result ℕ Fault) (es fs : List ℕ) → m ≡ mode_bits mmu u → g ≡ room_for u mmu ds (length w) k a → g ≡ Ok p → z ≡ next a →
      h ≡ room_for u mmu ds (length w) k z → h ≡ Ok f → es ≡ marked m u k a ds → fs ≡ marked m u k z es →
      Wrote u mmu (two_writes k a v) (Ok tt) ds w fs (set (set w p (v % 256)) f (v / 256))
  unfolding room mark two_end kept
  wrote_2 k a v p z f m g h es fs n y x t i o j l =
      record {
        ends = λ r q c e. rw (l, j, n, t) (went_at (state_of r c mmu ds w) (room k (next a)) h f (λ x. two_end (state_of r c mmu ds w) q c k a v p x) (i ∙ ap (λ j. room k j) t) o) ∙ two_first r q c k a v p g e y x;
        descriptors = refl;
        memory = refl;
      }

-- ── places within memory ──

room_in : (p n x : ℕ) (t : Bool) → ltb x n ≡ t → b.if_room x t ≡ Ok p → p < n
unfolding b.if_room
room_in p n x true h e = let y : x ≡ p = cc in rw (← y) (ltb-true x n h)
room_in p n x false h e = let z : ◌≡◌ {A = ℕ} 0 1 = cc in absurd (omega arith)

through_in : (p n : ℕ) (x : Result ℕ Violated) → b.through (λ y. b.if_room y (ltb y n)) x ≡ Ok p → p < n
unfolding b.through
through_in p n (Ok x) e = room_in p n x (ltb x n) refl e
through_in p n (Err v) e = let z : ◌≡◌ {A = ℕ} 0 1 = cc in absurd (omega arith)

pub within : (u : Bool) (mmu : ℕ) (ds : List ℕ) (n : ℕ) (k : Bool) (a p : ℕ) (g : Result ℕ Fault) → g ≡ room_for u mmu ds n k a → g ≡ Ok p → p < n
unfolding room_for
within u mmu ds n k a p g e h = through_in p n (translate mmu u ds k true a) (sym e ∙ h)

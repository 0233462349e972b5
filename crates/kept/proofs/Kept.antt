-- What a kept page answers, and how the table comes to be right. All over plain values.
use Rattle.std.specs.Prelude.{Ok, Err}
use Prim.Native.Nat.{ℕ, ◌+◌, ◌*◌, ◌/◌, ◌%◌, ◌<◌, ◌≤◌}
use mathlib.Core.Path.{◌≡◌, refl, sym, ap}
use mathlib.Core.Bool.{Bool, true, false, cond}
use mathlib.Core.List.{List}
use native.Mathlib.Omega.{arith}
use borrow.Author.Tests.{eqb-false, eq-eqb, ne_eqb, lt-ltb}
use lib.Dec.{eqb}
use lib.ListN.{length, get_or, set}
use lib.Seq.{set-get_or}
use Rattle.mmu.specs.declared.Violated.{Violated}
use Rattle.mmu.specs.Translate.{mode_bits, translating, separated, barred, index, number_of, physical, by_descriptor, placed, translate, marked, set_modified}
use Rattle.board.specs.Program.{through, from_memory, if_room}
use Rattle.bus.specs.Board.{load_at}
use Rattle.bus.specs.Access.{next, read_from, room_for, joined, got_many}
use Rattle.bus.specs.Leave.{one_write, two_writes}
use Rattle.bus.specs.Write.{Wrote}
use Rattle.bus.proofs.Reading.{one_read, all_read}
use Rattle.bus.proofs.Ends.{wrote_1, wrote_2}
use Rattle.kept.specs.Kept.{for_program, for_write, Placed, Right, Inside, Lies, Reads, Writes}

-- ── an address and its page's first ──

index_page : (apart program : Bool) (q a : ℕ) → a / 4096 ≡ q → index apart program (q * 4096) ≡ index apart program a
unfolding index
index_page true program q a h = let e : q * 4096 / 8192 ≡ a / 8192 = omega arith in rw e
index_page false program q a h = let e : q * 4096 / 4096 ≡ a / 4096 = omega arith in rw e

pub number_page : (bits : ℕ) (user program : Bool) (q a : ℕ) → a / 4096 ≡ q → number_of bits user program (q * 4096) ≡ number_of bits user program a
unfolding number_of
number_page bits user program q a h = rw (index_page (separated bits) program q a h)

physical_page : (apart : Bool) (d q a : ℕ) → a / 4096 ≡ q → physical apart d a ≡ physical apart d (q * 4096) + a % 4096
unfolding physical
physical_page true d q a h = omega arith
physical_page false d q a h = omega arith

page_go : (t b apart : Bool) (n : Violated) (d q a e : ℕ) → a / 4096 ≡ q → cond t (cond b (Err n) (Ok (physical apart d (q * 4096)))) (Ok (q * 4096)) ≡ Ok e →
    cond t (cond b (Err n) (Ok (physical apart d a))) (Ok a) ≡ Ok (e + a % 4096)
page_go true true apart n d q a e h g = let z : ◌≡◌ {A = ℕ} 0 1 = cc in absurd (omega arith)
page_go true false apart n d q a e h g = let x : physical apart d (q * 4096) ≡ e = cc in ap (λ x. Ok x) (rw (physical_page apart d q a h, x))
page_go false b apart n d q a e h g = let x : q * 4096 ≡ e = cc in let y : a ≡ e + a % 4096 = omega arith in ap Ok y

-- translation of a page's first address decides all of them
pub page : (bits : ℕ) (user : Bool) (ds : List ℕ) (program write : Bool) (q a e : ℕ) → a / 4096 ≡ q →
    placed bits user ds program write (q * 4096) ≡ Ok e → placed bits user ds program write a ≡ Ok (e + a % 4096)
unfolding placed by_descriptor
page bits user ds program write q a e h g =
    page_go (translating bits) (barred write (get_or ds (number_of bits user program a) 0)) (separated bits) (record { descriptor = number_of bits user program a }) (get_or ds (number_of bits user program a) 0) q a e h (rw (number_page bits user program q a h) at g)

-- ── reads ──

pub reads : (kept w : List ℕ) (user : Bool) (mmu : ℕ) (ds : List ℕ) (k a : ℕ) → Right kept user mmu ds → Inside kept (length w) → k < 48 →
    for_write k ≡ false → eqb (get_or kept k 0) 1 ≡ false → a < 65536 → a / 4096 ≡ k % 16 →
    read_from user mmu ds w (for_program k) a ≡ Ok (get_or w (get_or kept k 0 + a % 4096) 0)
unfolding read_from through from_memory load_at
reads kept w user mmu ds k a right inside h f e l p =
    let t : translate mmu user ds (for_program k) false a ≡ Ok (get_or kept k 0 + a % 4096) = rw (← f) ((right k h e).at a l p) in
    let i : get_or kept k 0 + 4096 ≤ length w = inside k h e in
    let s : get_or kept k 0 + a % 4096 < length w = omega arith in
    rw (t, lt-ltb (get_or kept k 0 + a % 4096) (length w) s)

data Two (t : Bool) : Type 0 where
  yes! : t ≡ true → Two t
  no! : t ≡ false → Two t

two : (t : Bool) → Two t
two true = yes! refl
two false = no! refl

-- the seat of an address, for reads by data
read_seat : (a : ℕ) → a < 65536 → (for_program (a / 4096) ≡ false) × (for_write (a / 4096) ≡ false)
read_seat a l =
    (ne_eqb (a / 4096 / 16) 1 (λ e. omega arith), ne_eqb (a / 4096 / 16) 2 (λ e. omega arith))

module _ (kept w : List ℕ) (a : ℕ) (l : a < 65536) (inside : Inside kept (length w)) (t : eqb (get_or kept (a / 4096) 0) 1 ≡ false) where
  module _ (user : Bool) (mmu : ℕ) (ds : List ℕ) (right : Right kept user mmu ds) where
    data_read : (c p : ℕ) → c < 65536 → c / 4096 ≡ a / 4096 → p ≡ get_or kept (a / 4096) 0 + c % 4096 → read_from user mmu ds w false c ≡ Ok (get_or w p 0)
    data_read c p m q e =
        let k : a / 4096 < 48 = omega arith in
        let s : c / 4096 ≡ a / 4096 % 16 = omega arith in
        let r : read_from user mmu ds w (for_program (a / 4096)) c ≡ Ok (get_or w (get_or kept (a / 4096) 0 + c % 4096) 0) =
        reads kept w user mmu ds (a / 4096) c right inside k (read_seat a l).1 t m s in
        rw e (rw (read_seat a l).0 at r)

    pub byte_is : (p b v : ℕ) → p ≡ get_or kept (a / 4096) 0 + a % 4096 → b ≡ get_or w p 0 → v ≡ joined b 0 → got_many 1 user mmu ds w false a ≡ Ok v
    byte_is p b v e f j = sym (one_read user mmu ds w false a (get_or w p 0) v (Ok (get_or w p 0)) (sym (data_read a p l refl e)) refl (rw f at j))

    pub word_is : (p b c u v : ℕ) → eqb (a % 4096) 4095 ≡ false → p ≡ get_or kept (a / 4096) 0 + a % 4096 → b ≡ get_or w p 0 → c ≡ get_or w (p + 1) 0 →
        u ≡ joined c 0 → v ≡ joined b u → got_many 2 user mmu ds w false a ≡ Ok v
    word_is p b c u v n e f g i j =
        let m : a % 4096 < 4095 = omega (arith, eqb-false (a % 4096) 4095 n) in
        let o : next a < 65536 = omega arith in
        let q : next a / 4096 ≡ a / 4096 = omega arith in
        let x : p + 1 ≡ get_or kept (a / 4096) 0 + next a % 4096 = omega arith in
        let y : Ok u ≡ got_many 1 user mmu ds w false (next a) =
        one_read user mmu ds w false (next a) c u (Ok c) (rw g (sym (data_read (next a) (p + 1) o q x))) refl i in
        sym (all_read 1 user mmu ds w false a b (next a) u v (Ok b) (Ok u) (rw f (sym (data_read a p l refl e))) refl refl y refl j)

-- ── writes ──

write_seat : (a : ℕ) → a < 65536 → (for_program (a / 4096 + 32) ≡ false) × (for_write (a / 4096 + 32) ≡ true)
write_seat a l =
    (ne_eqb ((a / 4096 + 32) / 16) 1 (λ e. omega arith), eq-eqb ((a / 4096 + 32) / 16) 2 (omega arith))

-- a page that is marked is not changed by a mark
unmarked_go : (t : Bool) (ds : List ℕ) (n : ℕ) → (t ≡ true → get_or ds n 0 % 2 ≡ 1) → cond t (set ds n (set_modified (get_or ds n 0))) ds ≡ ds
unmarked_go true ds n h =
    let o : get_or ds n 0 % 2 ≡ 1 = h refl in
    let m : set_modified (get_or ds n 0) ≡ get_or ds n 0 = omega arith in
    rw m (set-get_or ds n 0)
unmarked_go false ds n h = refl

unmarked : (bits : ℕ) (user : Bool) (ds : List ℕ) (a : ℕ) → (translating bits ≡ true → get_or ds (number_of bits user false a) 0 % 2 ≡ 1) → ds ≡ marked bits user false a ds
unfolding marked
unmarked bits user ds a h = sym (unmarked_go (translating bits) ds (number_of bits user false a) h)

module _ (kept w : List ℕ) (a : ℕ) (l : a < 65536) (inside : Inside kept (length w)) (t : eqb (get_or kept (a / 4096 + 32) 0) 1 ≡ false) where
  pub write_in : (p x : ℕ) → p ≡ get_or kept (a / 4096 + 32) 0 + x → x < 4096 → p < length w
  write_in p x e h =
      let k : a / 4096 + 32 < 48 = omega arith in
      let i : get_or kept (a / 4096 + 32) 0 + 4096 ≤ length w = inside (a / 4096 + 32) k t in
      omega arith

  module _ (user : Bool) (mmu : ℕ) (ds : List ℕ) (right : Right kept user mmu ds) where
    place : Placed user mmu ds (a / 4096 + 32) (get_or kept (a / 4096 + 32) 0)
    place = let k : a / 4096 + 32 < 48 = omega arith in right (a / 4096 + 32) k t

    room_at : (c p : ℕ) → c < 65536 → c / 4096 ≡ a / 4096 → p ≡ get_or kept (a / 4096 + 32) 0 + c % 4096 → Ok p ≡ room_for user mmu ds (length w) false c
    unfolding room_for through if_room
    room_at c p m q e =
        let s : c / 4096 ≡ (a / 4096 + 32) % 16 = omega arith in
        let z : c % 4096 < 4096 = omega arith in
        let i : p < length w = write_in p (c % 4096) e z in
        let r : translate mmu user ds (for_program (a / 4096 + 32)) (for_write (a / 4096 + 32)) c ≡ Ok (get_or kept (a / 4096 + 32) 0 + c % 4096) = place.at c m s in
        let x : translate mmu user ds false true c ≡ Ok p = rw (e, ← (write_seat a l).0, ← (write_seat a l).1) r in
        rw (x, lt-ltb p (length w) i)

    stays : (c : ℕ) → c < 65536 → c / 4096 ≡ a / 4096 → ds ≡ marked (mode_bits mmu user) user false c ds
    stays c m q =
        let s : c / 4096 ≡ (a / 4096 + 32) % 16 = omega arith in
        unmarked (mode_bits mmu user) user ds c (place.marked (write_seat a l).1 c m s)

    pub one_put : (p b : ℕ) → p ≡ get_or kept (a / 4096 + 32) 0 + a % 4096 → Wrote user mmu (one_write false a b) (Ok tt) ds w ds (set w p b)
    one_put p b e = wrote_1 user mmu ds w false a b p (mode_bits mmu user) (Ok p) ds refl (room_at a p l refl e) refl (stays a l refl)

    pub two_put : (p v : ℕ) → eqb (a % 4096) 4095 ≡ false → p ≡ get_or kept (a / 4096 + 32) 0 + a % 4096 →
        Wrote user mmu (two_writes false a v) (Ok tt) ds w ds (set (set w p (v % 256)) (p + 1) (v / 256))
    two_put p v n e =
        let m : a % 4096 < 4095 = omega (arith, eqb-false (a % 4096) 4095 n) in
        let o : next a < 65536 = omega arith in
        let q : next a / 4096 ≡ a / 4096 = omega arith in
        let x : p + 1 ≡ get_or kept (a / 4096 + 32) 0 + next a % 4096 = omega arith in
        wrote_2 user mmu ds w false a v p (next a) (p + 1) (mode_bits mmu user) (Ok p) (Ok (p + 1)) ds ds refl (room_at a p l refl e) refl refl
        (room_at (next a) (p + 1) o q x) refl (stays a l refl) (stays (next a) o q)

-- ── what the functions cite ──

pub not_both : true ≡ false → ⊥
not_both h = let z : ◌≡◌ {A = ℕ} 0 1 = cc in omega arith

module _ (kept w : List ℕ) (a p : ℕ) (l : a < 65536) (inside : Inside kept (length w)) where
  for_reads : (n : ℕ) → Lies kept (0 + a / 4096) a n p → Lies kept (a / 4096) a n p
  for_reads n h = let e : 0 + a / 4096 ≡ a / 4096 = omega arith in rw e at h

  for_writes : (n : ℕ) → Lies kept (32 + a / 4096) a n p → Lies kept (a / 4096 + 32) a n p
  for_writes n h = let e : 32 + a / 4096 ≡ a / 4096 + 32 = omega arith in rw e at h

  pub byte_read : Lies kept (0 + a / 4096) a 1 p → (v : ℕ) → v ≡ get_or w p 0 → v < 256 → Reads kept w 1 a v
  unfolding joined
  byte_read h v e s user mmu ds right =
      let g = for_reads 1 h in
      byte_is kept w a l inside g.some user mmu ds right p v v g.place e (omega arith)

  pub word_read : Lies kept (0 + a / 4096) a 2 p → (b c v : ℕ) → b ≡ get_or w p 0 → c ≡ get_or w (p + 1) 0 → b < 256 → c < 256 → v ≡ b + c * 256 →
      Reads kept w 2 a v
  unfolding joined
  word_read h b c v f g s t e user mmu ds right =
      let q = for_reads 2 h in
      word_is kept w a l inside q.some user mmu ds right p b c c v (ne_eqb (a % 4096) 4095 (λ n. omega (arith, q.room))) q.place f g (omega arith) (omega arith)

  pub byte_put : Lies kept (32 + a / 4096) a 1 p → (b : ℕ) → Writes kept (one_write false a b) w (set w p b)
  byte_put h b user mmu ds right =
      let g = for_writes 1 h in
      one_put kept w a l inside g.some user mmu ds right p b g.place

  pub word_put : Lies kept (32 + a / 4096) a 2 p → (v : ℕ) → Writes kept (two_writes false a v) w (set (set w p (v % 256)) (p + 1) (v / 256))
  word_put h v user mmu ds right =
      let g = for_writes 2 h in
      two_put kept w a l inside g.some user mmu ds right p v (ne_eqb (a % 4096) 4095 (λ n. omega (arith, g.room))) g.place

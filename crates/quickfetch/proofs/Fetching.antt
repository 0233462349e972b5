-- The quick fetch is the fetch: a law for each way out of its functions, over plain values.
use Prim.Native.Nat.{ℕ, ◌+◌, ◌-◌, ◌/◌, ◌%◌, ◌≤◌, ◌<◌}
use mathlib.Core.Path.{◌≡◌, refl, sym, ◌∙◌, ap}
use mathlib.Core.Bool.{Bool, true, false, cond}
use mathlib.Core.List.{List}
use native.Mathlib.Omega.{arith}
use native.Mathlib.Nat.{add-zero}
use borrow.Author.Tests.{eqb-true, ltb-true, ne_eqb}
use lib.Dec.{eqb, ltb}
use lib.ListN.{get_or}
use Rattle.decode.specs.Opening.{opening_of, after_opening, entered}
use Rattle.decode.specs.Dd.{formats_dd}
use Rattle.decode.specs.Fd.{formats_fd}
use Rattle.bus.specs.Access.{next, read_from}
use Rattle.cpu.specs.declared.kinds.Lead.{Lead}
use Rattle.board.specs.declared.Fault.{Fault}
use Rattle.cpu.specs.Lead as lead
use Rattle.cpu.specs.Lead.{lead_by, lead_fourth, lead_third, lead_second, lead_first, lead_of}
use Rattle.cpu.proofs.Leads.{opens_nothing}
use Rattle.kept.specs.Kept.{Right}
use Rattle.kept.proofs.Kept.{not_both}
use Rattle.std.specs.Prelude.{Option, Some, None, Result}
use Rattle.served.specs.declared.kinds.Code.{Code}
use Rattle.served.specs.Served.{Stands}
use Rattle.quickfetch.specs.Fetch.{IsSite, Leads}
use Rattle.served.proofs.Bytes.{one}

-- ── openings ──

-- a second byte whose entry is an operation from 24 on opens nothing
module _ (o b : ℕ) (f : ltb (entered o b) 12288 ≡ false) where
  -- were it y after x, which opens
  not_at : (x y : ℕ) → ltb (entered x y) 12288 ≡ true → eqb o x ≡ true → eqb b y ≡ true → ⊥
  not_at x y l i j = not_both (sym l ∙ ap (λ k. ltb (entered k y) 12288) (sym (eqb-true o x i)) ∙ ap (λ k. ltb (entered o k) 12288) (sym (eqb-true b y j)) ∙ f)

  none_of : (i j k : Bool) (m n : ℕ) → (i ≡ true → j ≡ true → ⊥) → (i ≡ true → k ≡ true → ⊥) → (z : ℕ) → z ≡ 0 → cond i (cond j m (cond k n 0)) z ≡ 0
  none_of true true k m n h g z e = absurd (h refl refl)
  none_of true false true m n h g z e = absurd (g refl refl)
  none_of true false false m n h g z e = refl
  none_of false j k m n h g z e = e

  opens_none : after_opening o b ≡ 0
  unfolding after_opening entered formats_dd formats_fd
  opens_none =
      none_of (eqb o 3) (eqb b 0xCB) (eqb b 0xED) 5 7 (not_at 3 0xCB refl) (not_at 3 0xED refl) _
      (none_of (eqb o 4) (eqb b 0xCB) (eqb b 0xED) 6 8 (not_at 4 0xCB refl) (not_at 4 0xED refl) 0 refl)

small_of : (i j k l : Bool) → ltb 4 (cond i 1 (cond j 2 (cond k 3 (cond l 4 0)))) ≡ false
small_of true j k l = refl
small_of false true k l = refl
small_of false false true l = refl
small_of false false false true = refl
small_of false false false false = refl

pub opening_small : (o b : ℕ) → o ≡ opening_of b → ltb 4 o ≡ false
unfolding opening_of
opening_small o b e = rw e (small_of (eqb b 0xCB) (eqb b 0xED) (eqb b 0xDD) (eqb b 0xFD))

-- ── the site of an instruction ──

abbrev pub LeadBy : Type 0
LeadBy = (user : Bool) (mmu : ℕ) (ds : List ℕ) → Result Lead Fault

pub passes : (kept w : List ℕ) (l m : LeadBy) (x : Option Code) → Leads kept w l x → ((user : Bool) (mmu : ℕ) (ds : List ℕ) → Right kept user mmu ds → m user mmu ds ≡ l user mmu ds) →
    Leads kept w m x
passes kept w l m None s h = s
passes kept w l m (Some q) s h = (s.0, λ user mmu ds R. h user mmu ds R ∙ s.1 user mmu ds R)

module _ (kept w : List ℕ) (pc p : ℕ) (S : IsSite kept w pc p) where
  same_page : (j : ℕ) → j ≤ 4 → (pc + j) / 4096 ≡ pc / 4096
  same_page j h = omega (arith, S.room)

  placed : (j : ℕ) → j ≤ 4 → p + j ≡ get_or kept (16 + pc / 4096) 0 + (pc + j) % 4096
  placed j h = omega (arith, S.room, S.place)

  stands : (j : ℕ) → j ≤ 4 → Stands kept (pc + j) (p + j)
  stands j h =
      record {
        some = rw (same_page j h) S.some;
        place = rw (same_page j h) (placed j h);
        room = omega (arith, S.room);
        page = omega (arith, S.page, same_page j h);
      }

  following : (j : ℕ) → j ≤ 4 → next (pc + j) ≡ pc + (j + 1)
  following j h = omega (arith, S.room, S.page)

  known : (l : LeadBy) (x : Option Code) (e o b j : ℕ) → x ≡ Some (record { e = e; o = o; b = b; at = pc + j; p = p + j }) → j ≤ 4 →
      e ≡ entered o b → (ltb 4 o ≡ true → 2 ≤ j) →
      ((user : Bool) (mmu : ℕ) (ds : List ℕ) → Right kept user mmu ds → l user mmu ds ≡ lead.code o b (cond (ltb 4 o) (get_or w (p + j - 2) 0) 0) (pc + j)) → Leads kept w l x
  known l x e o b j ex h ee hb hl =
      rw ex (record { inside = S.inside; entry = ee; stands = stands j h; back = λ t. omega (arith, hb t) }, hl)

  module _ (user : Bool) (mmu : ℕ) (ds : List ℕ) (R : Right kept user mmu ds) where
    by_byte : (j : ℕ) → j ≤ 4 → (f : ℕ → Result Lead Fault) → lead_by (read_from user mmu ds w true (pc + j)) f ≡ f (get_or w (p + j) 0)
    unfolding lead_by
    by_byte j h f = ap (λ g. lead_by g f) (one kept w user mmu ds R S.inside (pc / 4096) S.some S.page (pc + j) (p + j) (same_page j h) (placed j h))

  -- ── the fourth byte ──

  module _ (o b : ℕ) (h7 : ltb o 7 ≡ true) (h4 : ltb 4 o ≡ true) (hb : b ≡ get_or w (p + 3) 0) (lb : b < 256) where
    third_is : (user : Bool) (mmu : ℕ) (ds : List ℕ) → Right kept user mmu ds → lead_third user mmu ds w (pc + 2) o ≡ lead.code o b (cond (ltb 4 o) (get_or w (p + 4 - 2) 0) 0) (pc + 4)
    unfolding lead_third lead_fourth
    third_is user mmu ds R =
        by_byte user mmu ds R 2 (omega arith) _ ∙
        rw (h7, following 2 (omega arith)) (by_byte user mmu ds R 3 (omega arith) _ ∙ rw (h4, following 3 (omega arith), ← hb, tops, drops, back))
      where
        tops : b % 256 ≡ b
        tops = omega arith

        drops : get_or w (p + 2) 0 % 256 ≡ get_or w (p + 2) 0
        drops = omega (arith, S.bytes (p + 2))

        back : p + 4 - 2 ≡ p + 2
        back = omega arith

    pub at_fourth : (e : ℕ) (x : Option Code) → e ≡ entered o b → x ≡ Some (record { e = e; o = o; b = b; at = pc + 4; p = p + 4 }) →
        Leads kept w (λ user mmu ds. lead_third user mmu ds w (pc + 2) o) x
    at_fourth e x ee ex = known (λ user mmu ds. lead_third user mmu ds w (pc + 2) o) x e o b 4 ex (omega arith) ee (λ t. omega arith) third_is

  -- ── two opening bytes ──

  pub at_third : (o b n : ℕ) (x : Option Code) → n ≡ after_opening o b → ltb 4 n ≡ true → Leads kept w (λ user mmu ds. lead_third user mmu ds w (pc + 2) n) x →
      Leads kept w (λ user mmu ds. lead_second user mmu ds w (pc + 2) o b) x
  unfolding lead_second
  at_third o b n x e h s = passes kept w _ (λ user mmu ds. lead_second user mmu ds w (pc + 2) o b) x s (λ user mmu ds R. rw (← e, some))
    where
      some : eqb n 0 ≡ false
      some = ne_eqb n 0 (λ z. omega (arith, ltb-true 4 n h))

  pub at_second : (o b e : ℕ) (x : Option Code) → ltb 4 o ≡ false → e ≡ entered o b → ltb e 12288 ≡ false →
      x ≡ Some (record { e = e; o = o; b = b; at = pc + 2; p = p + 2 }) → Leads kept w (λ user mmu ds. lead_second user mmu ds w (pc + 2) o b) x
  unfolding lead_second
  at_second o b e x h ee f ex =
      known (λ user mmu ds. lead_second user mmu ds w (pc + 2) o b) x e o b 2 ex (omega arith) ee (λ t. omega arith) (λ user mmu ds R. rw (opens_none o b (rw ee at f), h))

  -- ── the first byte ──

  pub at_opened : (b o k : ℕ) (x : Option Code) → o ≡ opening_of b → eqb o 0 ≡ false → k ≡ get_or w (p + 1) 0 → k < 256 →
      Leads kept w (λ user mmu ds. lead_second user mmu ds w (pc + 2) o k) x → Leads kept w (λ user mmu ds. lead_first user mmu ds w (pc + 1) b) x
  unfolding lead_first
  at_opened b o k x e h hk lk s =
      passes kept w _ (λ user mmu ds. lead_first user mmu ds w (pc + 1) b) x s
      (λ user mmu ds R. rw (← e, h) (by_byte user mmu ds R 1 (omega arith) _ ∙ rw (following 1 (omega arith), ← hk, tops)))
    where
      tops : k % 256 ≡ k
      tops = omega arith

  module _ (b : ℕ) (hb : b ≡ get_or w (p + 0) 0) (lb : b < 256) where
    first_is : (user : Bool) (mmu : ℕ) (ds : List ℕ) → Right kept user mmu ds → lead_of user mmu ds w pc ≡ lead_first user mmu ds w (pc + 1) b
    unfolding lead_of
    first_is user mmu ds R = ap (λ a. lead_by (read_from user mmu ds w true a) (λ b. lead_first user mmu ds w (next pc) (b % 256))) (sym (add-zero pc)) ∙ by_byte user mmu ds R 0 (omega arith) _ ∙ rw (here, tops, after)
      where
        here : get_or w (p + 0) 0 ≡ b
        here = sym hb

        tops : b % 256 ≡ b
        tops = omega arith

        after : next pc ≡ pc + 1
        after = omega (arith, S.room, S.page)

    pub at_opening : (x : Option Code) → Leads kept w (λ user mmu ds. lead_first user mmu ds w (pc + 1) b) x → Leads kept w (λ user mmu ds. lead_of user mmu ds w pc) x
    at_opening x s = passes kept w _ (λ user mmu ds. lead_of user mmu ds w pc) x s first_is

    pub at_first : (e : ℕ) (x : Option Code) → e ≡ entered 0 b → ltb e 12288 ≡ false → x ≡ Some (record { e = e; o = 0; b = b; at = pc + 1; p = p + 1 }) →
        Leads kept w (λ user mmu ds. lead_of user mmu ds w pc) x
    at_first e x ee f ex =
        known (λ user mmu ds. lead_of user mmu ds w pc) x e 0 b 1 ex (omega arith) ee (λ t. absurd (not_both (sym t)))
        (λ user mmu ds R. first_is user mmu ds R ∙ sym (opens_nothing b e ee f user mmu ds w (pc + 1)))

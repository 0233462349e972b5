-- One access in both machines: the same, or in the second a violation that names a withheld descriptor.
use Rattle.std.specs.Prelude.{Result, Ok, Err}
use Prim.Native.Nat.{ℕ, ◌/◌}
use mathlib.Core.Path.{◌≡◌, refl, sym, ◌∙◌, ap}
use mathlib.Core.Bool.{Bool, true, false, cond}
use mathlib.Core.List.{List}
use mathlib.Core.Option.{Option, none, some}
use lib.Dec.{ltb, eqb}
use lib.ListN.{length, get_or, length-set}
use Rattle.mmu.specs.Translate.{mode_bits, translating, separated, valid, barred, physical, number_of, by_descriptor, placed, translate, set_modified, change, marked, latched}
use Rattle.mmu.specs.declared.Violated.{Violated}
use Rattle.mmu.proofs.Marks.{valid_clear, clear_modified, valid_modified, get_or_change, latched_kept, mode_same}
use Rattle.board.specs.declared.Fault.{Fault}
use Rattle.board.specs.declared.Fault.TheVariants.{Denied, Lacks}
use Rattle.board.specs.Program.{Board, Write, State, through, from_memory, if_room, read_byte, write_to, touch}
use Rattle.board.specs.Withhold.{has, hidden, AllValid}

-- ── the second machine beside the first ──

-- its own MMU control n and descriptors es, all else the first's
module _ {B : Board} where
  unfoldable pub veil : State B → ℕ → List ℕ → State B
  veil s n es = record { regs = s.regs; ctl = s.ctl; mmu = n; ds = es; mem = s.mem }

pub record Veiled (w : List ℕ) (m : ℕ) (ds : List ℕ) (n : ℕ) (es : List ℕ) : Type 0 where
  pub flags : n / 32 ≡ m / 32
  pub len : length es ≡ length ds
  pub each : (i : ℕ) → get_or es i 0 ≡ hidden (has w i) (get_or ds i 0)
  pub valid : AllValid w ds

module _ (w : List ℕ) (m : ℕ) (ds : List ℕ) (n : ℕ) (es : List ℕ) (i : ℕ) (v : Veiled w m ds n es) where
  -- the last faulting descriptor written in the second alone, and in both
  pub latched_second : Veiled w m ds (latched i n) es
  latched_second =
      record { flags = latched_kept i n ∙ v.flags; len = v.len; each = v.each; valid = v.valid }

  pub latched_both : Veiled w (latched i m) ds (latched i n) es
  latched_both =
      record {
        flags = latched_kept i n ∙ v.flags ∙ sym (latched_kept i m);
        len = v.len;
        each = v.each;
        valid = v.valid;
      }

-- ── translation ──

-- no withheld descriptor is named
Free : List ℕ → Result ℕ Violated → Type 0
Free w (Ok p) = Unit {0}
Free w (Err v) = has w v.descriptor ≡ false

data Seen (w : List ℕ) (x y : Result ℕ Violated) : Type 0 where
  alike : y ≡ x → Free w x → Seen w x y
  held : (i : ℕ) → has w i ≡ true → y ≡ Err (record { descriptor = i }) → Seen w x y

free : (w : List ℕ) (i : ℕ) (b : Bool) (p : ℕ) → has w i ≡ false → Free w (cond b (Err (record { descriptor = i })) (Ok p))
unfolding Free
free w i true p h = h
free w i false p h = tt

placed_seen : (w : List ℕ) (on apart : Bool) (i d e : ℕ) (write : Bool) (a : ℕ) → e ≡ hidden (has w i) d →
    Seen w (cond on (by_descriptor apart i d write a) (Ok a)) (cond on (by_descriptor apart i e write a) (Ok a))
unfolding by_descriptor barred Free
placed_seen w false apart i d e write a h = alike refl tt
placed_seen w true apart i d e write a h = go (has w i) refl
  where
    go : (b : Bool) → has w i ≡ b → Seen w (by_descriptor apart i d write a) (by_descriptor apart i e write a)
    go true p = held i p (rw (h, p, valid_clear d) refl)
    go false p = alike (rw (h, p) refl) (free w i (barred write d) (physical apart d a) p)

translate_seen : (w : List ℕ) (user : Bool) (m n : ℕ) (ds es : List ℕ) (program write : Bool) (a : ℕ) → Veiled w m ds n es →
    Seen w (translate m user ds program write a) (translate n user es program write a)
unfolding translate placed
translate_seen w user m n ds es program write a v =
    rw (mode_same m n user v.flags)
    (placed_seen w (translating bits) (separated bits) i (get_or ds i 0) (get_or es i 0) write a (v.each i))
  where
    bits : ℕ
    bits = mode_bits m user

    i : ℕ
    i = number_of bits user program a

-- ── access ──

unfoldable pub Spared : List ℕ → Result ℕ Fault → Type 0
Spared w (Ok b) = Unit {0}
Spared w (Err (Denied i)) = has w i ≡ false
Spared w (Err (Lacks p)) = Unit {0}

pub data Met (w : List ℕ) (g h : Result ℕ Fault) : Type 0 where
  alike : h ≡ g → Spared w g → Met w g h
  held : (i : ℕ) → has w i ≡ true → h ≡ Err (Denied i) → Met w g h

loaded : (w : List ℕ) (p : ℕ) (o : Option ℕ) → Spared w (from_memory p o)
unfolding from_memory Spared
loaded w p none = tt
loaded w p (some b) = tt

roomy : (w : List ℕ) (p : ℕ) (b : Bool) → Spared w (if_room p b)
unfolding if_room Spared
roomy w p true = tt
roomy w p false = tt

spared : (w : List ℕ) (f : ℕ → Result ℕ Fault) → ((p : ℕ) → Spared w (f p)) → (x : Result ℕ Violated) → Free w x → Spared w (through f x)
unfolding through Free Spared
spared w f hf (Ok p) h = hf p
spared w f hf (Err v) h = h

met : (w : List ℕ) (f : ℕ → Result ℕ Fault) → ((p : ℕ) → Spared w (f p)) → (x y : Result ℕ Violated) → Seen w x y → Met w (through f x) (through f y)
unfolding through
met w f hf x y (alike e h) = alike (ap (through f) e) (spared w f hf x h)
met w f hf x y (held i h e) = held i h (ap (through f) e)

module _ {B : Board} (w : List ℕ) (s : State B) (n : ℕ) (es : List ℕ) (v : Veiled w s.mmu s.ds n es) where
  pub read_met : (program : Bool) (a : ℕ) → Met w (read_byte s program a) (read_byte (veil s n es) program a)
  unfolding read_byte veil
  read_met program a =
      met w (λ p. from_memory p (B.load s.ctl s.mem p)) (λ p. loaded w p (B.load s.ctl s.mem p)) _ _
      (translate_seen w (B.user s.ctl) s.mmu n s.ds es program false a v)

  pub write_met : (x : Write) → Met w (write_to s x) (write_to (veil s n es) x)
  unfolding write_to veil
  write_met x =
      met w (λ p. if_room p (B.room s.ctl s.mem p)) (λ p. roomy w p (B.room s.ctl s.mem p)) _ _
      (translate_seen w (B.user s.ctl) s.mmu n s.ds es x.program true x.addr v)

-- ── modified bits ──

hidden_modified : (b : Bool) (d : ℕ) → hidden b (set_modified d) ≡ set_modified (hidden b d)
hidden_modified true d = clear_modified d
hidden_modified false d = refl

cond_hidden : (b c h : Bool) (d : ℕ) →
    cond b (cond c (set_modified (hidden h d)) (hidden h d)) (hidden h d) ≡ hidden h (cond b (cond c (set_modified d) d) d)
cond_hidden true true h d = sym (hidden_modified h d)
cond_hidden true false h d = refl
cond_hidden false c h d = refl

cond_valid : (b c : Bool) (d : ℕ) → valid d ≡ true → valid (cond b (cond c (set_modified d) d) d) ≡ true
cond_valid true true d h = valid_modified d ∙ h
cond_valid true false d h = h
cond_valid false c d h = h

marked_veiled : (w : List ℕ) (m : ℕ) (ds : List ℕ) (n : ℕ) (es : List ℕ) (on : Bool) (i : ℕ) → Veiled w m ds n es →
    Veiled w m (cond on (change set_modified i ds) ds) n (cond on (change set_modified i es) es)
marked_veiled w m ds n es false i v = v
marked_veiled w m ds n es true i v =
    record {
      flags = v.flags;
      len = length-set es i (set_modified (get_or es i 0)) ∙ v.len ∙ sym (length-set ds i (set_modified (get_or ds i 0)));
      each =
          λ j. rw (get_or_change set_modified i es j, get_or_change set_modified i ds j, v.len, v.each j)
          (cond_hidden (eqb j i) (ltb i (length ds)) (has w j) (get_or ds j 0));
      valid =
          λ j h. rw (get_or_change set_modified i ds j) (cond_valid (eqb j i) (ltb i (length ds)) (get_or ds j 0) (v.valid j h));
    }

module _ {B : Board} where
  pub touch_veiled : (w : List ℕ) (s : State B) (n : ℕ) (es : List ℕ) → n / 32 ≡ s.mmu / 32 → (x : Write) (fs gs : List ℕ) →
      Veiled w s.mmu fs n gs → Veiled w s.mmu (touch s x fs) n (touch (veil s n es) x gs)
  unfolding touch marked veil
  touch_veiled w s n es h x fs gs u =
      rw (mode_same s.mmu n (B.user s.ctl) h) (marked_veiled w s.mmu fs n gs (translating bits) (number_of bits (B.user s.ctl) x.program x.addr) u)
    where
      bits : ℕ
      bits = mode_bits s.mmu (B.user s.ctl)

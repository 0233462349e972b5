-- The known step: without translation each byte goes to its own address.
use Rattle.std.specs.Prelude.{Ok}
use Prim.Native.Nat.{ℕ, ◌+◌, ◌/◌, ◌%◌, ◌<◌, ◌≤◌}
use mathlib.Core.Path.{◌≡◌, refl, sym, ◌∙◌, ap}
use mathlib.Core.Bool.{false}
use mathlib.Core.List.{List, [], ◌∷◌}
use native.Mathlib.Omega.{arith}
use borrow.Author.Tests.{lt-ltb}
use lib.ListN.{length, get_or, set, length-set}
use lib.Seq.{get_or-set_same, get_or-set_other}
use Rattle.regs.specs.declared.Machine.{Machine}
use Rattle.mmu.specs.Translate.{bit, translate, placed}
use Rattle.mmu.proofs.Known.{translating_is}
use Rattle.plan.specs.declared.kinds.Stop.TheVariants.{Call}
use Rattle.board.specs.Program.{through, if_room}
use Rattle.bus.specs.declared.kinds.Event.TheVariants.{Stopped}
use Rattle.bus.specs.Access.{next, room_for}
use Rattle.std.specs.Prelude.{Some}
use Rattle.saves.specs.Saves.{Outcome, delivered, vector_at, saved}
use Rattle.saves.specs.declared.pushing.Word.{Word}
use Rattle.saves.specs.Words.{word_of, both_places, word_for, words_for, all_marking, all_storing, last_at, marked_word, stored_word, entering}
use Rattle.saves.proofs.Stack.{stored_length, done}
use Rattle.deliver.specs.Deliver.{stopped, trap_of, taken, deliver_of}
use Rattle.deliver.specs.Known.{six, Called, SystemCall}

-- ── bytes of a word that was stored ──

low_byte : (p q v : ℕ) (w : List ℕ) → p < q → q < length w → get_or (stored_word p q v w) p 0 ≡ v % 256
unfolding stored_word
low_byte p q v w h n =
    get_or-set_other (set w p (v % 256)) q p (v / 256) 0 (λ e. omega arith) ∙ get_or-set_same w p (v % 256) 0 (omega arith)

high_byte : (p q v : ℕ) (w : List ℕ) → q < length w → get_or (stored_word p q v w) q 0 ≡ v / 256
unfolding stored_word
high_byte p q v w n = get_or-set_same (set w p (v % 256)) q (v / 256) 0 (rw (length-set w p (v % 256)) n)

-- a byte above the word
above : (p q v : ℕ) (w : List ℕ) (j : ℕ) → p < q → q < j → get_or (stored_word p q v w) j 0 ≡ get_or w j 0
unfolding stored_word
above p q v w j h k =
    get_or-set_other (set w p (v % 256)) q j (v / 256) 0 (λ e. omega arith) ∙
    get_or-set_other w p j (v % 256) 0 (λ e. omega arith)

-- ── no translation ──

room_off : (mmu : ℕ) (ds : List ℕ) (n a : ℕ) → bit 0x0800 mmu ≡ false → a < n → room_for false mmu ds n false a ≡ Ok a
unfolding room_for translate placed through if_room
room_off mmu ds n a off h = rw (translating_is mmu false ∙ off, lt-ltb a n h)

word_off : (mmu : ℕ) (ds : List ℕ) (n a v : ℕ) → bit 0x0800 mmu ≡ false → a < n → next a < n →
    word_for mmu ds n a v ≡ Some (word_of a a (next a) v)
unfolding word_for both_places
word_off mmu ds n a v off h k = rw (room_off mmu ds n a off h, room_off mmu ds n (next a) off k)

module _ (m : Machine) (w : List ℕ) (to : ℕ) (long : 0x2000 ≤ length w) (room : vector_at m.ctl 0x50 + 3 < length w)
    (sp : m.regs.ssp ≡ 0x2000) (off : bit 0x0800 m.mmu ≡ false) where
  once : List ℕ
  once = stored_word 0x1FFE 0x1FFF to w

  twice : List ℕ
  twice = stored_word 0x1FFC 0x1FFD m.ctl.msr once

  stored : List ℕ
  stored = stored_word 0x1FFA 0x1FFB 0x1234 twice

  marks : List ℕ
  marks = marked_word m.mmu 0x1FFA (marked_word m.mmu 0x1FFC (marked_word m.mmu 0x1FFE m.ds))

  word : (a v : ℕ) → a < 0x1FFF → word_for m.mmu m.ds (length w) a v ≡ Some (word_of a a (next a) v)
  word a v h = word_off m.mmu m.ds (length w) a v off (omega arith) (omega arith)

  abbrev words : List Word
  words = word_of 0x1FFE 0x1FFE 0x1FFF to ∷ word_of 0x1FFC 0x1FFC 0x1FFD m.ctl.msr ∷ word_of 0x1FFA 0x1FFA 0x1FFB 0x1234 ∷ []

  placed_all : words_for m.mmu m.ds (length w) m.regs.ssp (to ∷ m.ctl.msr ∷ 0x1234 ∷ []) ≡ Some words
  unfolding words_for
  placed_all = rw (sp, word 0x1FFE to (omega arith), word 0x1FFC m.ctl.msr (omega arith), word 0x1FFA 0x1234 (omega arith))

  saves : delivered (entering m marks stored 0x1FFA (vector_at m.ctl 0x50)) stored ≡ saved m w 0x50 (to ∷ m.ctl.msr ∷ 0x1234 ∷ [])
  unfolding once twice stored marks all_marking all_storing last_at
  saves = done m w 0x50 (vector_at m.ctl 0x50) (to ∷ m.ctl.msr ∷ 0x1234 ∷ []) refl room words placed_all

  once_long : length once ≡ length w
  unfolding once
  once_long = stored_length 0x1FFE 0x1FFF to w

  twice_long : length twice ≡ length w
  unfolding twice
  twice_long = stored_length 0x1FFC 0x1FFD m.ctl.msr once ∙ once_long

  holds : six stored ≡ 0x34 ∷ 0x12 ∷ m.ctl.msr % 256 ∷ m.ctl.msr / 256 ∷ to % 256 ∷ to / 256 ∷ []
  unfolding once twice stored
  holds =
      rw (
        low_byte 0x1FFA 0x1FFB 0x1234 twice (omega arith) (omega (arith, twice_long)),
        high_byte 0x1FFA 0x1FFB 0x1234 twice (omega (arith, twice_long)),
        above 0x1FFA 0x1FFB 0x1234 twice 0x1FFC (omega arith) (omega arith),
        above 0x1FFA 0x1FFB 0x1234 twice 0x1FFD (omega arith) (omega arith),
        above 0x1FFA 0x1FFB 0x1234 twice 0x1FFE (omega arith) (omega arith),
        above 0x1FFA 0x1FFB 0x1234 twice 0x1FFF (omega arith) (omega arith),
        low_byte 0x1FFC 0x1FFD m.ctl.msr once (omega arith) (omega (arith, once_long)),
        high_byte 0x1FFC 0x1FFD m.ctl.msr once (omega (arith, once_long)),
        above 0x1FFC 0x1FFD m.ctl.msr once 0x1FFE (omega arith) (omega arith),
        above 0x1FFC 0x1FFD m.ctl.msr once 0x1FFF (omega arith) (omega arith),
        low_byte 0x1FFE 0x1FFF to w (omega arith) (omega arith),
        high_byte 0x1FFE 0x1FFF to w (omega arith),
      )

  shown : (o : Outcome) → delivered (entering m marks stored 0x1FFA (vector_at m.ctl 0x50)) stored ≡ o → Called m to o
  unfolding entering
  shown o e =
      record {
        taken = sym (ap (λ (x : Outcome). x.answer.refusal) e);
        sp = sym (ap (λ (x : Outcome). x.answer.machine.regs.ssp) e);
        bytes = sym (ap (λ (x : Outcome). six x.memory) e) ∙ holds;
      }

pub system_call : SystemCall
unfolding deliver_of taken trap_of stopped
system_call m w to framed allowed long room sp off =
    shown m w to long room sp off (deliver_of m w (Stopped (Call 0x1234 to)))
    (rw (framed, allowed) (saves m w to long room sp off))

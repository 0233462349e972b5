-- What the private functions of delivery answer: a word with its two places, words pushed, a word read, the new status.
use Rattle.std.specs.Prelude.{ℕ, ◌+◌, ◌*◌, ◌/◌, ◌%◌, ◌<◌, false, List, [], ◌∷◌, get_or, set, Option, Some, None, Result, Ok, Err, All}
use Rattle.regs.specs.declared.Machine.{Machine}
use Rattle.regs.specs.Change.{with_pc, with_ssp, load_msr}
use Rattle.mmu.specs.Translate.{mode_bits, marked}
use Rattle.board.specs.declared.Fault.{Fault}
use Rattle.bus.specs.Access.{next, room_for}
use Rattle.plan.specs.Kinds.{plus}
use Rattle.saves.specs.declared.pushing.Word.{Word}
use Rattle.saves.specs.Saves.{Outcome, pushed, vectored}

abbrev pub word_of : (at low high value : ℕ) → Word
word_of at low high value = record { at = at; low = low; high = high; value = value }

unfoldable pub both_places : (at value : ℕ) → Result ℕ Fault → Result ℕ Fault → Option Word
both_places at v (Ok p) (Ok q) = Some (word_of at p q v)
both_places at v (Ok p) (Err f) = None
both_places at v (Err f) h = None

-- a word that is pushed at a, with its bytes' places: system mode, data
unfoldable pub word_for : (mmu : ℕ) (ds : List ℕ) (size a value : ℕ) → Option Word
word_for mmu ds size a v =
    both_places a v (room_for false mmu ds size false a) (room_for false mmu ds size false (next a))

-- a word before those that are left, where all are there
abbrev pub onto : Option Word → Option (List Word) → Option (List Word)
onto None r = None
onto (Some x) None = None
onto (Some x) (Some xs) = Some (x ∷ xs)

unfoldable pub words_for : (mmu : ℕ) (ds : List ℕ) (size sp : ℕ) → List ℕ → Option (List Word)
words_for mmu ds size sp [] = Some []
words_for mmu ds size sp (v ∷ vs) =
    onto (word_for mmu ds size (plus sp 65534) v) (words_for mmu ds size (plus sp 65534) vs)

unfoldable pub marked_word : (mmu a : ℕ) → List ℕ → List ℕ
marked_word mmu a ds =
    marked (mode_bits mmu false) false false (next a) (marked (mode_bits mmu false) false false a ds)

unfoldable pub stored_word : (p q v : ℕ) → List ℕ → List ℕ
stored_word p q v w = set (set w p (v % 256)) q (v / 256)

-- what pushing a word leaves of descriptors and of memory
abbrev pub marking : (mmu : ℕ) → Word → List ℕ → List ℕ
marking mmu x ds = marked_word mmu x.at ds

abbrev pub storing : Word → List ℕ → List ℕ
storing x w = stored_word x.low x.high x.value w

-- .. and what pushing words one after another leaves, with SP
unfoldable pub all_marking : (mmu : ℕ) → List Word → List ℕ → List ℕ
all_marking mmu [] ds = ds
all_marking mmu (x ∷ xs) ds = all_marking mmu xs (marking mmu x ds)

unfoldable pub all_storing : List Word → List ℕ → List ℕ
all_storing [] w = w
all_storing (x ∷ xs) w = all_storing xs (storing x w)

unfoldable pub last_at : ℕ → List Word → ℕ
last_at sp [] = sp
last_at sp (x ∷ xs) = last_at x.at xs

-- each byte's place is below n
abbrev pub InMemory : (n : ℕ) → List Word → Type 0
InMemory n xs = All (λ x. (x.low < n) × (x.high < n)) xs

abbrev pub word_in : List ℕ → ℕ → ℕ
word_in w i = get_or w i 0 + get_or w (i + 1) 0 * 256

unfoldable pub entering : Machine → (ds w : List ℕ) (sp i : ℕ) → Machine
entering m ds w sp i =
    record {
      regs = with_pc (word_in w (i + 2)) (with_ssp sp m.regs);
      ctl = load_msr (word_in w i) m.ctl;
      mmu = m.mmu;
      ds = ds;
    }

-- a delivery by the vector at i
abbrev pub saved_at : Machine → List ℕ → (i : ℕ) → List ℕ → Outcome
saved_at m w i vs = vectored m w i (pushed m w vs)

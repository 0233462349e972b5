-- Accesses over plain values: a byte read, room for a byte to be written, several bytes as one number.
use Rattle.std.specs.Prelude.{ℕ, zero, suc, ◌+◌, ◌*◌, ◌%◌, Bool, true, false, List, [], ◌∷◌, nat_lt, slice_index_or, Result, Ok, Err}
use Rattle.mmu.specs.Translate.{translate}
use Rattle.board.specs.declared.Fault.{Fault}
use Rattle.board.specs.Program.{through, from_memory, if_room}
use Rattle.bus.specs.Board.{load_at}

-- logical addresses wrap at 65,536
abbrev pub next : ℕ → ℕ
next a = (a + 1) % 65536

-- an access after another
unfoldable pub and_then : Result ℕ Fault → (ℕ → Result ℕ Fault) → Result ℕ Fault
and_then (Ok b) f = f b
and_then (Err e) f = Err e

unfoldable pub read_from : (user : Bool) (mmu : ℕ) (ds w : List ℕ) (program : Bool) (a : ℕ) → Result ℕ Fault
read_from user mmu ds w program a = through (λ p. from_memory p (load_at w p)) (translate mmu user ds program false a)

-- size: memory's length
unfoldable pub room_for : (user : Bool) (mmu : ℕ) (ds : List ℕ) (size : ℕ) (program : Bool) (a : ℕ) → Result ℕ Fault
room_for user mmu ds size program a = through (λ p. if_room p (nat_lt p size)) (translate mmu user ds program true a)

-- b, and above it the number of the bytes that follow; no number has more than four bytes
unfoldable pub joined : ℕ → ℕ → ℕ
joined b v = b % 256 + v % 16777216 * 256

-- no instruction has, and none reads, more than four bytes in a row
abbrev pub counts : List ℕ
counts = 0 ∷ 1 ∷ 2 ∷ 3 ∷ []

unfoldable pub count : ℕ → ℕ
count n = slice_index_or counts n 4

-- n bytes at following logical addresses, each translated by itself, low byte first
unfoldable pub got_many : (n : ℕ) (user : Bool) (mmu : ℕ) (ds w : List ℕ) (program : Bool) (a : ℕ) → Result ℕ Fault
got_many zero user mmu ds w program a = Ok 0
got_many (suc n) user mmu ds w program a =
    and_then (read_from user mmu ds w program a)
    (λ b. and_then (got_many n user mmu ds w program (next a)) (λ v. Ok (joined b v)))

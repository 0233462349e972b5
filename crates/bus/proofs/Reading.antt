-- A byte read, and then the rest.
use Rattle.std.proofs.Common.{◌≡◌, ℕ, suc, Bool, List}
use Rattle.std.specs.Prelude.{Result, Ok}
use Rattle.board.specs.declared.Fault.{Fault}
use Rattle.bus.specs.Access.{next, read_from, got_many, joined, and_then}

pub all_read : (n : ℕ) (u : Bool) (mmu : ℕ) (ds w : List ℕ) (k : Bool) (a b q v r : ℕ) (g h : Result ℕ Fault) → g ≡ read_from u mmu ds w k a → g ≡ Ok b → q ≡ next a →
    h ≡ got_many n u mmu ds w k q → h ≡ Ok v → r ≡ joined b v → Ok r ≡ got_many (suc n) u mmu ds w k a
unfolding got_many and_then
all_read n u mmu ds w k a b q v r g h e x s y z j = rw (← e, x, ← s, ← y, z, j)

pub one_read : (u : Bool) (mmu : ℕ) (ds w : List ℕ) (k : Bool) (a b r : ℕ) (g : Result ℕ Fault) →
    g ≡ read_from u mmu ds w k a → g ≡ Ok b → r ≡ joined b 0 → Ok r ≡ got_many 1 u mmu ds w k a
unfolding got_many and_then
one_read u mmu ds w k a b r g e p x = rw (← e, p, x)

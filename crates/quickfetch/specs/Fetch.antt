-- What the quick fetch of a code promises, stage by stage.
use Rattle.std.specs.Prelude.{ℕ, ◌+◌, ◌/◌, ◌%◌, ◌<◌, ◌≤◌, ◌≡◌, Bool, false, List, Option, IfSome, eqb, length, get_or, Result}
use Rattle.cpu.specs.declared.kinds.Lead.{Lead}
use Rattle.board.specs.declared.Fault.{Fault}
use Rattle.cpu.specs.Lead as lead
use Rattle.kept.specs.Kept.{Right, Inside}
use Rattle.served.specs.declared.kinds.Code.{Code}
use Rattle.served.specs.Served.{Fetched, before}

-- p is the physical address of the instruction at pc, all of whose bytes lie in one page that is kept for program
pub record IsSite (kept w : List ℕ) (pc p : ℕ) : Type 0 where
  pub inside : Inside kept (length w)
  pub some : eqb (get_or kept (16 + pc / 4096) 0) 1 ≡ false
  pub place : p ≡ get_or kept (16 + pc / 4096) 0 + pc % 4096
  pub room : pc % 4096 ≤ 4080
  pub page : pc / 4096 ≤ 15
  pub bytes : (k : ℕ) → get_or w k 0 < 256

-- a code is the lead that l comes to wherever the table is right
abbrev pub Leads : (kept w : List ℕ) (l : (user : Bool) (mmu : ℕ) (ds : List ℕ) → Result Lead Fault) (x : Option Code) → Type 0
Leads kept w l x =
    IfSome x (λ q. Fetched kept w q × ((user : Bool) (mmu : ℕ) (ds : List ℕ) → Right kept user mmu ds → l user mmu ds ≡ lead.code q.o q.b (before q w) q.at))

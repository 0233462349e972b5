-- A fault ends the step, whatever was to follow.
use Rattle.std.proofs.Common.{◌≡◌, ℕ, refl}
use Rattle.std.specs.Prelude.{Err}
use Rattle.board.specs.declared.Fault.{Fault}
use Rattle.board.specs.declared.Fault.TheVariants.{Denied, Lacks}
use Rattle.board.specs.Program as b
use Rattle.bus.specs.Board.{real}
use Rattle.bus.specs.Leave.{denial}

pub after_fault : (s : b.State real) (e : Fault) (f : ℕ → b.Answer real) → b.after s (Err e) f ≡ denial s e
unfolding denial b.after
after_fault s (Denied i) f = refl
after_fault s (Lacks p) f = refl

-- Where a result and its F go. A byte stands above its F, as A does in AF; a word stands beside it.
use Rattle.std.specs.Prelude.{ℕ}
use Rattle.regs.specs.declared.Regs.{Regs}
use Rattle.regs.specs.Change.{with_hl}
use Rattle.regs.specs.Select.{high, low, put_byte, with_f}
use Rattle.sums.specs.declared.WithF.{WithF}
use Rattle.plan.specs.declared.kinds.Spot.{Spot}
use Rattle.plan.specs.declared.kinds.Done.{Done}
use Rattle.plan.specs.Kinds.{quiet, stores}

-- into the register k under the opening o; into the operand's place; into HL
unfoldable pub into_r : Regs → ℕ → ℕ → ℕ → Done
into_r r o k x = quiet (put_byte o k (high x) (with_f (low x) r))

unfoldable pub into_m : Regs → Spot → ℕ → Done
into_m r s x = stores (with_f (low x) r) s (high x)

unfoldable pub into_hl : Regs → WithF ℕ → Done
into_hl r x = quiet (with_hl x.value (with_f x.f r))

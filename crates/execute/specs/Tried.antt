-- Execution without the four that have to do with the alternate registers: EX AF,AF' (37), EXX (38), JAF (104), JAR (105).
use Rattle.std.specs.Prelude.{ℕ, ◌+◌, ◌-◌, Bool, cond, ◌||◌, eqb, ltb, Option, Some, None}
use Rattle.regs.specs.declared.Regs.{Regs}
use Rattle.plan.specs.declared.kinds.Ins.{Ins}
use Rattle.plan.specs.declared.kinds.Spot.{Spot}
use Rattle.plan.specs.declared.kinds.Done.{Done}
use Rattle.plan.specs.Kinds.{quiet}
use Rattle.execute.specs.Execute.{execute_by}

-- whether an operation is one of them
unfoldable pub swaps : (op : ℕ) → Bool
swaps op = eqb op 37 || eqb op 38 || eqb op 104 || eqb op 105

unfoldable pub tried_by : ℕ → Regs → (user : Bool) → Ins → Spot → ℕ → Option Done
tried_by k r u i s v = cond (swaps (k + 24)) None (Some (execute_by k r u i s v))

unfoldable pub tried_of : Regs → (user : Bool) → Ins → Spot → ℕ → Option Done
tried_of r u i s v = cond (ltb i.op 24) (Some (quiet r)) (tried_by (i.op - 24) r u i s v)

-- `execute::swap` meets its contract.
use Rattle.execute.specs.Execute.{execute_of, execute_by}
use Rattle.execute.proofs.Swaps.{no_swap, jaf_is, jar_is}
use Rattle.load16.specs.Exchange.{ex_af, exx_of}
use Rattle.execute.proofs.swap.Goals as goal

pub returns-in-37 : goal.returns-in-37
unfolding execute_of execute_by ex_af exx_of
returns-in-37 c = λ e u s v. simp (c.ex_af.ensures, c.regs_of.ensures, c.in-37.is)

pub returns-in-38 : goal.returns-in-38
unfolding execute_of execute_by ex_af exx_of
returns-in-38 c = λ e u s v. simp (c.exx.ensures, c.regs_of-in-38.ensures, c.in-38.is)

pub returns-in-104 : goal.returns-in-104
returns-in-104 c = λ e u s v. jaf_is _ _ _ _ _ _ _ c.regs_of-in-104.ensures c.in-104.is c.jaf.ensures

pub returns-in-105 : goal.returns-in-105
returns-in-105 c = λ e u s v. jar_is _ _ _ _ _ _ _ c.regs_of-in-105.ensures c.in-105.is c.jar.ensures

pub returns-in_default : goal.returns-in_default
returns-in_default c = λ e u s v. absurd (no_swap _ c.in_default.in_default-own.rest.0.0.0.1 c.in_default.in_default-own.rest.0.0.1 c.in_default.in_default-own.rest.0.1 c.in_default.in_default-own.rest.1 e)

-- `cpu::step::work` meets its contract.
use borrow.Author.Tests.{le-ltb, lt-ltb}
use mathlib.Core.Path.{sym, ◌∙◌}
use Rattle.std.proofs.lemmas.Result.{err_from_is_err_and}
use Rattle.cpu.specs.Turns.{came}
use Rattle.cpu.proofs.Ways.{work_rules, work_swap, work_fault, work_end}
use Rattle.cpu.proofs.step.work.Goals as goal

pub returns-then-rules : goal.returns-then-rules
unfolding came
returns-then-rules c = work_rules _ _ _ _ _ _ _ _ _ _ _ c.with_pc-past.ensures (lt-ltb _ _ c.if-rules.true) c.govern.ensures c.rule.ensures

pub returns-in_default : goal.returns-in_default
unfolding came
returns-in_default c =
    rw c.completed.ensures
    (work_swap _ _ _ _ _ _ _ _ _ _ c.args.x.in_mode c.with_pc-past.ensures (le-ltb _ _ c.if-rules.false) _ (sym c.execute.ensures ∙ c.in_default.is) c.swap.ensures)

pub returns-in_err-write_out : goal.returns-in_err-write_out
unfolding came
returns-in_err-write_out c =
    let p = err_from_is_err_and c.from_residual.result c.from_residual.ensures.1 in
    rw (p.1, p.2)
    (work_fault _ _ _ _ _ _ _ _ _ _ c.args.x.in_mode c.with_pc-past.ensures (le-ltb _ _ c.if-rules.false) _ (sym c.execute.ensures ∙ c.in-Some.is) _ _ _ c.write_out.ensures _ c.in_err-write_out.was)

pub returns : goal.returns
unfolding came
returns c =
    rw c.completed-2.ensures
    (work_end _ _ _ _ _ _ _ _ _ _ c.args.x.in_mode c.with_pc-past.ensures (le-ltb _ _ c.if-rules.false) _ (sym c.execute.ensures ∙ c.in-Some.is) _ _ _ c.write_out.ensures _ c.in_ok-write_out.was)

-- `cpu::step::judge` meets its contract.
use mathlib.Core.Path.{sym, ◌∙◌}
use Rattle.std.proofs.lemmas.Result.{err_from_is_err_and}
use Rattle.cpu.specs.Turns.{came}
use Rattle.cpu.proofs.Ways.{judge_ends, judge_on, operate_fault, operate_on}
use Rattle.cpu.proofs.step.judge.Goals as goal

pub returns-in-Some : goal.returns-in-Some
unfolding came
returns-in-Some c = rw (c.stopped.ensures, c.with_pc.ensures) (judge_ends _ _ _ _ _ _ _ (sym c.early_end.ensures ∙ c.in-Some.is))

pub returns-in_err-v : goal.returns-in_err-v
unfolding came
returns-in_err-v c =
    let p = err_from_is_err_and c.from_residual.result c.from_residual.ensures.1 in
    rw (p.1, p.2)
    (judge_on _ _ _ _ _ _ _ _ _ _ c.early_end.ensures c.in_default.is c.args.x.in_mode c.spot_of-s.ensures
    (operate_fault _ _ _ _ _ _ _ _ (rw c.args.x.in_mode at (sym c.read_number.ensures ∙ c.in_err-v.was))))

pub returns : goal.returns
returns c =
    judge_on _ _ _ _ _ _ _ _ _ _ c.early_end.ensures c.in_default.is c.args.x.in_mode c.spot_of-s.ensures
    (operate_on _ _ _ _ _ _ _ _ _ _ (rw c.args.x.in_mode at c.read_number.ensures) c.in_ok-v.was c.work.ensures)

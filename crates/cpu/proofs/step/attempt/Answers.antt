-- `cpu::step::attempt` meets its contract.
use borrow.Author.Tests.{le-ltb, lt-ltb}
use mathlib.Core.Path.{sym, ap, ◌∙◌}
use Rattle.std.proofs.lemmas.Result.{err_from_is_err_and}
use Rattle.bus.specs.Leave.{whole}
use Rattle.cpu.specs.Turns.{came}
use Rattle.cpu.proofs.Ways.{turn_code, turn_fault, form_ends, form_fault, form_on}
use Rattle.cpu.proofs.step.attempt.Goals as goal

pub returns-in_err-l : goal.returns-in_err-l
unfolding came
returns-in_err-l c =
    let p = err_from_is_err_and c.from_residual.result c.from_residual.ensures.1 in
    rw (p.1, p.2) (turn_fault _ _ _ _ _ _ (rw (← c.args.x.in_mode) (sym c.lead_of.ensures ∙ c.in_err-l.was)))

pub returns-then-missing : goal.returns-then-missing
unfolding came
returns-then-missing c =
    turn_code _ _ _ _ _ _ _ (rw c.args.x.in_mode at (sym c.lead_of.ensures ∙ c.in_ok-l.was))
    (ap (λ t. whole t c.args.ds.now c.args.w.now) c.stopped.ensures ∙
    form_ends _ _ _ _ _ _ _ _ _ _ _ c.entry-e.ensures (lt-ltb _ _ c.if-missing.true) c.missing_of.ensures)

pub returns-in_err-n : goal.returns-in_err-n
unfolding came
returns-in_err-n c =
    let p = err_from_is_err_and c.from_residual-in_err-n.result c.from_residual-in_err-n.ensures.1 in
    rw (p.1, p.2)
    (turn_code _ _ _ _ _ _ _ (rw c.args.x.in_mode at (sym c.lead_of.ensures ∙ c.in_ok-l.was))
    (form_fault _ _ _ _ _ _ _ _ _ _ _ c.entry-e.ensures (le-ltb _ _ c.if-missing.false)
    (rw (c.args.x.in_mode, c.bytes_of.ensures) at (sym c.read_number.ensures ∙ c.in_err-n.was))))

pub returns : goal.returns
returns c =
    turn_code _ _ _ _ _ _ _ (rw c.args.x.in_mode at (sym c.lead_of.ensures ∙ c.in_ok-l.was))
    (form_on _ _ _ _ _ _ _ _ _ _ _ _ _ _ _ c.entry-e.ensures (le-ltb _ _ c.if-missing.false) c.bytes_of.ensures
    (rw c.args.x.in_mode at c.read_number.ensures) c.in_ok-n.was c.ins_of-i.ensures c.judge.ensures)

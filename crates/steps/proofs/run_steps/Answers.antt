-- `steps::run_steps` meets its contract.
use mathlib.Core.Path.{sym, ◌∙◌}
use Rattle.steps.proofs.Kept.{right_now, inside_now}
use Rattle.steps.proofs.Loop.{starts, finishes, quickens, breaks, goes}
use Rattle.steps.proofs.run_steps.Goals as goal

pub loop-n-init : goal.loop-n-init
loop-n-init c = (starts _ _ _ _ _ _, c.new-held.ensures)

pub returns-then-over : goal.returns-then-over
returns-then-over c = breaks _ _ _ _ _ _ _ _ c.loop-n.invariant.0 _ _ _ c.loop-n-test.true c.step-t.ensures _ c.stops-over.ensures _ c.ended.ensures c.if-over.true

pub quick-y-requires : goal.quick-y-requires
quick-y-requires c =
    let g = goes _ _ _ _ _ _ _ _ c.loop-n.invariant.0 _ _ _ c.loop-n-test.true c.step-t.ensures _ c.stops-over.ensures c.if-over.false c.w-1.given in
    record { inside = inside_now _ _ _ _ _ c.refresh.new.self.stands _ (c.refresh.ensures.size ∙ c.loop-n.invariant.1 ∙ sym g.len) }

pub loop-n-preserved-then-n-budget : goal.loop-n-preserved-then-n-budget
loop-n-preserved-then-n-budget c =
    let g = goes _ _ _ _ _ _ _ _ c.loop-n.invariant.0 _ _ _ c.loop-n-test.true c.step-t.ensures _ c.stops-over.ensures c.if-over.false c.w-1.given in
    let right = right_now _ _ _ _ _ c.refresh.new.self.stands _ _ _ _ _ c.refresh.ensures.user c.refresh.ensures.bits c.refresh.ensures.ds c.of-mode.result.enabled c.of-mode.ensures.control_value in (
      quickens _ _ _ _ _ _ _ _ g _ _ _ (c.quick-y.ensures.w_value _ _ _ (c.of-mode.ensures.user_value ∙ c.user.ensures) right) c.quick-y.ensures.steps_le_limit c.w-then-n-budget-1.given,
      c.refresh.ensures.size ∙ c.loop-n.invariant.1,
    )

pub loop-n-preserved : goal.loop-n-preserved
loop-n-preserved c = (goes _ _ _ _ _ _ _ _ c.loop-n.invariant.0 _ _ _ c.loop-n-test.true c.step-t.ensures _ c.stops-over.ensures c.if-over.false c.w-1.given, c.loop-n.invariant.1)

pub returns : goal.returns
returns c = finishes _ _ _ _ _ _ _ _ c.loop-n.invariant.0 _ c.ended-2.ensures c.loop-n-test.false

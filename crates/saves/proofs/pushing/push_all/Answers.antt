use Rattle.std.proofs.Common.{sym, ◌∙◌, ap}
use Rattle.std.specs.Prelude.{drop, ◌+◌, List, ℕ}
use Rattle.saves.specs.Words.{all_marking, all_storing}
use Rattle.saves.proofs.Words.{next_at, next_marking, next_storing, end_at, end_marking, end_storing}
use Rattle.saves.proofs.pushing.push_all.Goals as goal

pub loop-x-preserved : goal.loop-x-preserved
loop-x-preserved c =
    let xs = c.args.xs.now in
    let i = c.loop-x.x-index in
    let v = c.loop-x.invariant in
    record {
      sp = v.sp ∙ next_at xs i c.loop-x-test.true c.loop-x.last;
      ds =
          v.ds ∙ next_marking xs i c.loop-x-test.true c.args.control c.loop-x.ds ∙
          ap (λ (ds : List ℕ). all_marking c.args.control (drop (i + 1) xs) ds) (sym c.push.ensures.ds_after);
      w =
          v.w ∙ next_storing xs i c.loop-x-test.true c.loop-x.w ∙
          ap (λ (w : List ℕ). all_storing (drop (i + 1) xs) w) (sym c.push.ensures.w_after);
    }

pub returns : goal.returns
returns c =
    let xs = c.args.xs.now in
    let i = c.loop-x.x-index in
    let v = c.loop-x.invariant in
    record {
      sp_after = sym (v.sp ∙ end_at xs i c.loop-x-test.false c.loop-x.last);
      ds_after = sym (v.ds ∙ end_marking xs i c.loop-x-test.false c.args.control c.loop-x.ds);
      w_after = sym (v.w ∙ end_storing xs i c.loop-x-test.false c.loop-x.w);
    }

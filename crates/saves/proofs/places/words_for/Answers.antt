use Rattle.std.proofs.Common.{refl, sym, ◌∙◌, ◌≡◌, length, length-set, rules, arith}
use Rattle.std.proofs.Math.ListN.{length-replicate}
use Rattle.saves.proofs.Words.{before, next, lost, whole}
use Rattle.saves.proofs.places.words_for.Goals as goal

pub loop-i-init : goal.loop-i-init
unfolding before
loop-i-init g c =
    let long : length c.args.values ≡ g.row.N = search rules in record { found = refl; long = length-replicate _ _ ∙ sym long }

pub returns-in_err-xs : goal.returns-in_err-xs
returns-in_err-xs g c =
    let long : length c.args.values ≡ g.row.N = search rules in
    c.from_residual.ensures ∙
    sym (c.loop-i.invariant.found ∙
    lost _ _ _ c.args.values c.loop-i.i _ c.loop-i.xs _ (omega (arith, c.loop-i-test.true, long)) c.plus16-at.ensures (sym (c.in_err-xs.was) ∙ c.word_for.ensures))

pub loop-i-preserved : goal.loop-i-preserved
loop-i-preserved g c =
    let long : length c.args.values ≡ g.row.N = search rules in
    let v = c.loop-i.invariant in
    record {
      found =
          v.found ∙
          next _ _ _ c.args.values c.loop-i.i _ c.loop-i.xs _ _ (omega (arith, c.loop-i-test.true, long))
          (omega (arith, c.loop-i-test.true, long, v.long)) c.plus16-at.ensures (sym c.in_ok-xs.was ∙ c.word_for.ensures);
      long = length-set _ _ _ ∙ v.long;
    }

pub returns : goal.returns
returns g c =
    let long : length c.args.values ≡ g.row.N = search rules in
    let v = c.loop-i.invariant in
    sym (v.found ∙
    whole _ _ _ c.args.values c.loop-i.i _ c.loop-i.xs (omega (arith, c.loop-i-test.false, long)) (omega (arith, c.loop-i-test.false, long, v.long)))

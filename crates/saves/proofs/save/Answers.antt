use Rattle.std.proofs.Common.{sym, ◌∙◌}
use Rattle.saves.proofs.Stack.{outside, unplaced, done, all_fit}
use Rattle.saves.proofs.save.Goals as goal

pub returns-then-i-w : goal.returns-then-i-w
returns-then-i-w g c = rw c.beside.ensures (outside _ _ _ _ _ c.vector_at-i.ensures.value c.if-i-w.true)

pub returns-in_default : goal.returns-in_default
returns-in_default g c =
    rw c.beside-in_default.ensures
    (unplaced _ _ _ _ _ c.vector_at-i.ensures.value (sym c.words_for.ensures ∙ c.in_default.is))

pub push_all-sp-requires : goal.push_all-sp-requires
push_all-sp-requires g c = all_fit _ _ _ _ _ _ (sym c.words_for.ensures ∙ c.in-Some.is)

pub returns : goal.returns
returns g c =
    let e = done _ _ _ _ _ c.vector_at-i.ensures.value c.if-i-w.false c.in-Some.xs (sym c.words_for.ensures ∙ c.in-Some.is) in
    rw (c.enter-next.ensures, c.push_all-sp.ensures.sp_after, c.push_all-sp.ensures.ds_after, c.push_all-sp.ensures.w_after) e

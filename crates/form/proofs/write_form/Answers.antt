-- `write_form`: each refusal leaves the buffer alone; what is written is the form.
use borrow.Author.Rules.{rules}
use mathlib.Core.Path.{sym, subst, ◌∙◌}
use Rattle.pack.specs.Pack.{total, size, Fit}
use Rattle.legal.specs.Held.{Held}
use Rattle.form.specs.Form.{widths}
use Rattle.form.proofs.Facts.{table, fields_fit}
use Rattle.form.proofs.Tests.{none_1, many_1, bits_2, room_3, form_0}
use Rattle.form.proofs.write_form.Goals as goal

pub returns-then-frames-lt1 : goal.returns-then-frames-lt1
returns-then-frames-lt1 c = none_1 _ _ _ c.if-frames-lt1.true

pub returns-then-frames-gt-MOST_FRAMES : goal.returns-then-frames-gt-MOST_FRAMES
returns-then-frames-gt-MOST_FRAMES c = many_1 _ _ _ (search rules) c.if-frames-gt-MOST_FRAMES.true

pub returns-then-not-allowed : goal.returns-then-not-allowed
returns-then-not-allowed c = bits_2 _ _ _ (search rules) (search rules) _ c.allowed.ensures c.if-not-allowed.true

pub returns-then-out-lt-LENGTH : goal.returns-then-out-lt-LENGTH
returns-then-out-lt-LENGTH c =
    room_3 _ _ _ (search rules) (search rules) (sym c.allowed.ensures ∙ c.if-not-allowed.false) c.if-out-lt-LENGTH.true

pub put_all-requires : goal.put_all-requires
unfolding widths size total
put_all-requires c =
    let m = c.args.m in
    let h : Held m = search rules in
    let ok = sym c.allowed.ensures ∙ c.if-not-allowed.false in (
      table,
      subst (Fit widths) (sym c.fields-vs.ensures) (fields_fit m h c.args.frames ok (search rules) (search rules)),
      c.if-out-lt-LENGTH.false,
    )

pub returns : goal.returns
unfolding widths size total
returns c =
    form_0 _ _ _ (search rules) (search rules) (sym c.allowed.ensures ∙ c.if-not-allowed.false) c.if-out-lt-LENGTH.false _ _
    c.fields-vs.ensures c.put_all.ensures

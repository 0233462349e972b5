-- `read_form`: a form of 101 bytes answers as its fields do.
use mathlib.Core.Path.{refl, ap, sym, ◌∙◌}
use Rattle.pack.specs.Pack.{total, size}
use Rattle.form.specs.Form.{widths, read_fields}
use Rattle.form.proofs.Facts.{table}
use Rattle.form.proofs.Tests.{length_3, length_fine}
use Rattle.form.proofs.read_form.Goals as goal

pub returns-then-s-ne-LENGTH : goal.returns-then-s-ne-LENGTH
returns-then-s-ne-LENGTH c = c.refuse.ensures ∙ sym (length_3 _ c.if-s-ne-LENGTH.true)

pub get_all-requires : goal.get_all-requires
unfolding widths size total
get_all-requires c = (table, c.if-s-ne-LENGTH.false, refl)

pub returns : goal.returns
unfolding widths
returns c = c.read_fields.ensures ∙ ap read_fields c.get_all.ensures ∙ sym (length_fine _ c.if-s-ne-LENGTH.false)

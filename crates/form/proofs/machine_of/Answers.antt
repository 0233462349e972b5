-- `machine_of`: thirty-two descriptors copied over as many are those.
use borrow.Author.Rules.{rules}
use mathlib.Core.Path.{◌≡◌, ap, ◌∙◌}
use lib.ListN.{length}
use Rattle.form.specs.Form.{machine_of, machine_with}
use Rattle.form.proofs.Tests.{whole_part}
use Rattle.form.proofs.machine_of.Goals as goal

pub returns : goal.returns
unfolding machine_of
returns c =
    let v = c.args.v in
    let long : length v ≡ 56 = search rules in
    c.machine_with.ensures ∙ ap (machine_with v) (c.copy_into.ensures ∙ whole_part v long)

-- `fields`: the first twenty-three values, then the descriptors, over zeros.
use borrow.Author.Rules.{rules}
use native.Mathlib.Omega.{arith}
use mathlib.Core.Path.{sym}
use Rattle.legal.specs.Held.{Held}
use Rattle.form.specs.Form.{fields_of}
use Rattle.form.proofs.fields.Goals as goal

pub slice_bounds-copy_into-end-4 : goal.slice_bounds-copy_into-end-4
slice_bounds-copy_into-end-4 c = let h : Held c.args.m = search rules in sym h.long

pub copy_into-requires-2 : goal.copy_into-requires-2
copy_into-requires-2 c = let h : Held c.args.m = search rules in omega (arith, h.long)

pub returns : goal.returns
unfolding fields_of
returns c =
    let h : Held c.args.m = search rules in
    rw (c.copy_into-2.ensures, c.copy_into.ensures, c.first_fields-first.ensures, h.long)

use borrow.Author.Rules.{rules}
use mathlib.Core.Path.{◌∙◌, ap}
use mathlib.Core.List.{List, []}
use Prim.Native.Nat.{ℕ}
use lib.ListN.{get_or}
use Rattle.decode.proofs.Table.{entered_at, entered_past}
use Rattle.decode.proofs.entry_in.Goals as goal

pub returns-then-o-gt8 : goal.returns-then-o-gt8
returns-then-o-gt8 c = entered_past c.args.o c.args.b (search rules)

pub returns : goal.returns
returns c =
    let o = c.args.o in
    let b = c.args.b in
    ap (λ (t : List (List ℕ)). get_or (get_or t o []) b 0) c.requires ∙ entered_at o b (search rules)

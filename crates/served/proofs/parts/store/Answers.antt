-- `served::parts::store` meets its contract.
use Rattle.std.proofs.Common.{◌≡◌, rules, false}
use Rattle.bus.specs.Leave.{listed}
use Rattle.served.proofs.Serving.{no_writes}
use Rattle.served.proofs.parts.store.Goals as goal

pub returns-in-Nothing-clause-wrote : goal.returns-in-Nothing-clause-wrote
unfolding listed
returns-in-Nothing-clause-wrote c = rw c.in-Nothing.is (no_writes _ _)

pub returns-in-One-false-default-default-clause-wrote : goal.returns-in-One-false-default-default-clause-wrote
unfolding listed
returns-in-One-false-default-default-clause-wrote c =
    let x = c.in-One-false-default-default in
    let e : x.field-0 ≡ false = search rules in
    rw (x.is, e, ← x.a-is, ← x.b-is) c.put_one.ensures.wrote

pub returns-in-Two-false-default-default-clause-wrote : goal.returns-in-Two-false-default-default-clause-wrote
unfolding listed
returns-in-Two-false-default-default-clause-wrote c =
    let x = c.in-Two-false-default-default in
    let e : x.field-0 ≡ false = search rules in
    rw (x.is, e, ← x.a-is, ← x.v-is) c.put_two.ensures.wrote

-- `served::step::end` meets its contract.
use Rattle.std.proofs.Common.{refl, rules}
use Rattle.served.proofs.Serving.{does}
use Rattle.served.proofs.step.end.Goals as goal

pub returns : goal.returns
returns g c =
    does _ _ _ _ _ _ c.requires.fetched c.args.b _ _ c.requires.begins c.with_pc.ensures (search rules) (c.requires.works _ _ _ _ _ refl c.f-d.ensures) c.in_ok-store.ensures.wrote

-- `quickfetch::Site::opened` meets its contract.
use borrow.Author.Tests.{ne_eqb}
use Rattle.std.proofs.Common.{rules}
use Rattle.quickfetch.proofs.Fetching.{at_opened, opening_small}
use Rattle.quickfetch.proofs.Site.opened.Goals as goal

pub second-requires : goal.second-requires
second-requires c = opening_small _ _ c.opening_of-o.ensures

pub returns : goal.returns
returns c = at_opened _ _ _ _ c.args.self.now.is_site _ _ _ _ c.opening_of-o.ensures (ne_eqb _ _ c.if-o-eq0.false) c.byte.ensures (search rules) c.second.ensures

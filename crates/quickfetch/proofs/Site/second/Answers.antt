-- `quickfetch::Site::second` meets its contract.
use borrow.Author.Tests.{le-ltb}
use Rattle.quickfetch.proofs.Fetching.{at_second}
use Rattle.quickfetch.proofs.Site.second.Goals as goal

pub returns : goal.returns
returns c = at_second _ _ _ _ c.args.self.now.is_site _ _ _ _ c.requires c.entry-e.ensures (le-ltb _ _ c.if-e-lt12288.false) c.code.ensures

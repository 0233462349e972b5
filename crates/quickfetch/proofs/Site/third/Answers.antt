-- `quickfetch::Site::third` meets its contract.
use borrow.Author.Tests.{lt-ltb}
use Rattle.std.proofs.Common.{rules}
use Rattle.quickfetch.proofs.Fetching.{at_third}
use Rattle.quickfetch.proofs.Site.third.Goals as goal

pub returns-in-5 : goal.returns-in-5
returns-in-5 c = at_third _ _ _ _ c.args.self.now.is_site _ _ _ _ c.after_opening.ensures (lt-ltb _ _ (search rules)) c.fourth.ensures

-- `quickfetch::Site::first` meets its contract.
use borrow.Author.Tests.{le-ltb}
use Rattle.std.proofs.Common.{rules}
use Rattle.quickfetch.proofs.Fetching.{at_first, at_opening}
use Rattle.quickfetch.proofs.Site.first.Goals as goal

pub returns-then-e-lt12288 : goal.returns-then-e-lt12288
returns-then-e-lt12288 c = at_opening _ _ _ _ c.args.self.now.is_site _ c.byte-b.ensures (search rules) _ c.opened.ensures

pub returns : goal.returns
returns c = at_first _ _ _ _ c.args.self.now.is_site _ c.byte-b.ensures (search rules) _ _ c.entry-e.ensures (le-ltb _ _ c.if-e-lt12288.false) c.code.ensures

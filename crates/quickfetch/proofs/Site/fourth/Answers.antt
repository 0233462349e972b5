-- `quickfetch::Site::fourth` meets its contract.
use Rattle.std.proofs.Common.{rules}
use Rattle.quickfetch.proofs.Fetching.{at_fourth}
use Rattle.quickfetch.proofs.Site.fourth.Goals as goal

pub returns : goal.returns
returns c = at_fourth _ _ _ _ c.args.self.now.is_site _ _ c.requires.o_value c.requires.o_value_2 c.byte-b.ensures (search rules) _ _ c.entry.ensures c.code.ensures

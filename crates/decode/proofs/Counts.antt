-- The counts of the nine tables, by computing them.
use mathlib.Core.Path.{◌≡◌, refl}
use Rattle.decode.specs.Opening.{tabled}
use Rattle.decode.specs.Counts.{counts_of_all, counts}
use Rattle.decode.specs.None.{formats_none}
use Rattle.decode.specs.Cb.{formats_cb}
use Rattle.decode.specs.Ed.{formats_ed}
use Rattle.decode.specs.Dd.{formats_dd}
use Rattle.decode.specs.Fd.{formats_fd}
use Rattle.decode.specs.DdCb.{formats_dd_cb}
use Rattle.decode.specs.FdCb.{formats_fd_cb}
use Rattle.decode.specs.DdEd.{formats_dd_ed}
use Rattle.decode.specs.FdEd.{formats_fd_ed}

pub counted : counts_of_all tabled ≡ counts
unfolding tabled formats_none formats_cb formats_ed formats_dd formats_fd formats_dd_cb formats_fd_cb formats_dd_ed formats_fd_ed
counted = refl

use Rattle.decode.specs.Opening.{tabled}
use Rattle.decode.proofs.tables.Goals as goal

pub returns : goal.returns
unfolding tabled
returns c = rw (c.table-fd_ed.ensures, c.table-dd_ed.ensures, c.table-fd_cb.ensures, c.table-dd_cb.ensures, c.table-fd.ensures, c.table-dd.ensures, c.table-ed.ensures, c.table-cb.ensures, c.table-none.ensures)

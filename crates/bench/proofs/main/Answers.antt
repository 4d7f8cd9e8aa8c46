-- What was written lies in the buffer.
use Rattle.std.proofs.Common.{sym, length-take-le}
use Rattle.page.proofs.Pages.{whole_within}
use Rattle.bench.proofs.main.Goals as goal

pub slice_bounds-out-end : goal.slice_bounds-out-end
slice_bounds-out-end c = whole_within _ _ _ _ c.run-end.ensures

pub slice_bounds-write_all-end : goal.slice_bounds-write_all-end
slice_bounds-write_all-end c = sym (length-take-le _ _ (whole_within _ _ _ _ c.run-end.ensures))

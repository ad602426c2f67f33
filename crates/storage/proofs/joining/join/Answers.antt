use mathlib.Core.Path.{sym}
use Rattle.storage.proofs.Passed.{join_fits}
use Rattle.storage.proofs.joining.join.Goals as goal

pub join_stores-requires : goal.join_stores-requires
join_stores-requires c = join_fits _ _ _ (sym c.in-Ok.ensures)

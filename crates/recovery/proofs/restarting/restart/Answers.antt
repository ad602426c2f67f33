use mathlib.Core.Path.{sym}
use Rattle.recovery.proofs.Passed.{restart_fits}
use Rattle.recovery.proofs.restarting.restart.Goals as goal

pub restart_stores-requires : goal.restart_stores-requires
restart_stores-requires c =
    let (cabinet, filled, known) = restart_fits c.args.s c.args.area.now (sym c.in-Ok.ensures.refused) in
    let set = c.in-Ok.ensures.set in (cabinet, rw set filled, rw set known)

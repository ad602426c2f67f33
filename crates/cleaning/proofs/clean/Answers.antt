use mathlib.Core.Path.{sym}
use Rattle.protocol.proofs.NotRefused.{clean_passed}
use Rattle.cleaning.proofs.clean.Goals as goal

pub clean_stores-requires : goal.clean_stores-requires
clean_stores-requires c = (clean_passed _ (sym c.in-Ok.ensures)).fit

use mathlib.Core.Path.{sym}
use Rattle.protocol.proofs.NotRefused.{diagnose_passed}
use Rattle.diagnosis.proofs.diagnosing.diagnose.Goals as goal

pub diagnosed-requires : goal.diagnosed-requires
diagnosed-requires c = let pass = diagnose_passed _ _ _ (sym c.in-Ok.ensures.refused) in (pass.fit, pass.known)

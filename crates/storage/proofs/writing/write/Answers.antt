use mathlib.Core.Path.{sym}
use Rattle.storage.proofs.Passed.{write_passed}
use Rattle.storage.proofs.writing.write.Goals as goal

pub write_stores-requires : goal.write_stores-requires
write_stores-requires c = write_passed _ _ _ _ (sym c.in-Ok.ensures)

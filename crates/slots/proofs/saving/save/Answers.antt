use mathlib.Core.Path.{sym}
use Rattle.slots.proofs.Written.{save_passed}
use Rattle.slots.proofs.saving.save.Goals as goal

pub write_slots-requires : goal.write_slots-requires
write_slots-requires c = save_passed c.args.s c.args.slots.now (sym c.in-Ok.ensures)

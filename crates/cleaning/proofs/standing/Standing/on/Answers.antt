use mathlib.Core.Path.{sym, ◌∙◌}
use Rattle.dirty.proofs.DirtyBits.{none_stands}
use Rattle.cleaning.proofs.standing.Standing.on.Goals as goal

pub returns-else-has : goal.returns-else-has
returns-else-has c =
    let v = c.args.self.now in
    let clean = rw v.within.3 at (sym c.has.ensures ∙ c.if-has.false) in
    sym (none_stands v.labels c.args.r v.disks v.within.0 v.set v.within.2 clean)

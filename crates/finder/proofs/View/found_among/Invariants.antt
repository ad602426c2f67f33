use mathlib.Core.Path.{◌≡◌}
use Rattle.std.proofs.Common.{take}
use Rattle.protocol.specs.Finder.{found_among}
use Rattle.naming.specs.Meaning.{found_of}
use Rattle.finder.specs.Stages.{stage_of}
use Rattle.finder.proofs.View.found_among.Given as goal

abbrev pub invariant-loop-x : goal.invariant-loop-x
invariant-loop-x l =
    found_of l.found
    ≡ found_among (stage_of l.stage) l.self.disks l.self.online l.self.labels (take l.x-index l.sets)

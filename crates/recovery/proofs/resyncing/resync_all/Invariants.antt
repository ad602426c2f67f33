use mathlib.Core.Path.{◌≡◌}
use lib.ListN.{length}
use Rattle.protocol.specs.Loops.{ascending}
use Rattle.budget.specs.Runs.{progress, run_all}
use Rattle.recovery.specs.RegionLists.{resync_of}
use Rattle.recovery.proofs.resyncing.resync_all.Given as goal

abbrev pub invariant-loop-r : goal.invariant-loop-r
invariant-loop-r l =
    (length l.area ≡ length l.initial.area)
    × (progress l.run l.area
    ≡ run_all l.size.blocks (ascending l.r (resync_of l.size.disks l.size.blocks l.dirty l.set))
    (progress l.initial.run l.initial.area))

use mathlib.Core.Path.{◌≡◌}
use Prim.Native.Nat.{◌+◌, ◌*◌, ◌≤◌}
use lib.ListN.{length}
use Rattle.protocol.specs.Geometry.{most_disks, region_size}
use Rattle.protocol.specs.Loops.{ascending}
use Rattle.recovery.specs.RegionLists.{resync_of}
use Rattle.recovery.proofs.resyncing.resyncs_length.Given as goal

abbrev pub invariant-loop-r : goal.invariant-loop-r
invariant-loop-r l =
    (l.stores ≡ length (ascending l.r (resync_of l.size.disks l.size.blocks l.dirty l.set)))
    × (l.stores ≤ l.r * ((region_size + 1) * most_disks))

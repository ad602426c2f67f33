use mathlib.Core.Path.{◌≡◌}
use Prim.Native.Nat.{◌*◌, ◌≤◌}
use lib.ListN.{length}
use Rattle.protocol.specs.Geometry.{most_disks}
use Rattle.protocol.specs.Loops.{ascending}
use Rattle.cleaning.specs.Clearing.{clears_of}
use Rattle.cleaning.proofs.standing.Standing.count.Given as goal

abbrev pub invariant-loop-r : goal.invariant-loop-r
invariant-loop-r l =
    let v = l.self in (l.bits ≡ length (ascending l.r (clears_of v.disks v.labels v.set))) × (l.bits ≤ l.r * most_disks)

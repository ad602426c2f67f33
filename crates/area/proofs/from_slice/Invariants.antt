use Rattle.std.proofs.Common.{◌≡◌, length, take}
use Rattle.protocol.specs.Geometry.{block_size}
use Rattle.area.proofs.from_slice.Given as goal

abbrev pub invariant-loop-i : goal.invariant-loop-i
invariant-loop-i l = (length l.block ≡ block_size) × (take l.i l.block ≡ take l.i l.bytes)

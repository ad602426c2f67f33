-- What the work on a block asks of the bytes that it gets.
use Rattle.std.specs.Prelude.{List, ℕ, ◌+◌, ◌*◌, ◌≤◌, ◌<◌, length}
use Rattle.protocol.specs.Geometry.{most_disks, most_blocks, block_size}

-- block k of disk d is one of an area of disks with so many blocks
pub record InArea (blocks d k : ℕ) (area : List ℕ) : Type 0 where
  pub disk : d < most_disks
  pub few : blocks ≤ most_blocks
  pub known : k < blocks
  -- the area reaches to the end of that disk
  pub whole : (d + 1) * blocks * block_size ≤ length area

-- block k is one of a disk's part
pub record InPart (k : ℕ) (part : List ℕ) : Type 0 where
  pub known : k < most_blocks
  pub whole : (k + 1) * block_size ≤ length part

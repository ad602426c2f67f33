-- What carrying out a list asks of a cabinet: of its measures, and of a state with its disk area.
use Rattle.std.specs.Prelude.{◌≡◌, List, ℕ, ◌≤◌, length}
use Rattle.protocol.specs.declared.State.{State}
use Rattle.protocol.specs.Geometry.{most_disks, most_blocks, area_size}
use Rattle.protocol.specs.Soundness.{Sound}

pub record Fits (n b : ℕ) (area : List ℕ) : Type 0 where
  pub disks : n ≤ most_disks
  pub blocks : b ≤ most_blocks
  pub size : length area ≡ area_size n b

-- a sound state, and an area of its size: what a call with a list has, once it is not refused
pub record SoundCabinet (s : State) (area : List ℕ) : Type 0 where
  pub fit : Sound s
  pub size : length area ≡ area_size s.disks s.blocks

-- What is left after commands, and the disk area in the memory. Assumes nothing.
use mathlib.Core.Path.{◌≡◌, ◌∙◌}
use mathlib.Core.List.{List, [], ◌++◌}
use Prim.Native.Nat.{ℕ, ◌≤◌}
use native.Mathlib.Nat.{mul-le-mul}
use native.Mathlib.Omega.{arith}
use lib.ListN.{length, take, drop, length-append, length-drop}
use lib.Seq.{take_at}
use Rattle.protocol.specs.Geometry.{most_disks, most_blocks, area_size}
use Rattle.protocol.specs.Soundness.{InRange}
use Rattle.protocol.specs.Outcomes.{disks_of}
use Rattle.protocol.specs.Calls.{zero_area, format_outcome}
use Rattle.protocol.specs.History.{Step, Cabinet}
use Rattle.protocol.specs.Demand3.{cabinet_after}
use Rattle.protocol.proofs.Consistency.{held_restartable}
use Rattle.protocol.proofs.Invariant.{invariant}
use Rattle.interpreter.specs.Execution.{Machine}
use Rattle.interpreter.specs.Histories as history

-- ---- the disk area in the memory

abbrev pub largest : ℕ
largest = area_size most_disks most_blocks

pub in_memory : (n b : ℕ) → InRange n b → area_size n b ≤ largest
unfolding area_size
in_memory n b range = omega (arith, mul-le-mul range.disks range.blocks)

module _ (memory : List ℕ) (size : ℕ) (room : size ≤ length memory) (area : List ℕ) (e : length area ≡ size) where
  pub area_back : take size (area ++ drop size memory) ≡ area
  area_back = take_at area (drop size memory) size e

  pub memory_kept : length (area ++ drop size memory) ≡ length memory
  memory_kept = rw (length-append area (drop size memory), length-drop size memory, e) (omega arith)

-- ---- the list's cabinet has a disk area of its size

module _ (n b : ℕ) (done : (format_outcome (zero_area n b) [] n b).answer.refusal ≡ 0) (earlier : List Step) where
  abbrev before : Cabinet
  before = cabinet_after n b (zero_area n b) earlier

  pub fits : (before.state.disks ≡ n) × (before.state.blocks ≡ b) × (length before.area ≡ area_size n b)
  fits =
      let h = invariant n b (zero_area n b) done earlier in
      let disks = disks_of before.state before.area in
      let held = held_restartable before.state.disks before.state.blocks _ disks before.state.power in
      (h.disks, h.blocks, (held h.consistent.held).size ∙ rw (h.disks, h.blocks))

-- ---- what is left after commands

-- the machine is what the list leaves, in a memory of the largest size
pub record Tracks (t : history.SinceFormat) (m : Machine) : Type 0 where
  pub left : history.Leaves t m
  pub room : length m.memory ≡ largest

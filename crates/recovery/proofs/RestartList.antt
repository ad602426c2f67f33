-- A restart's list, region by region, as code makes it. Assumes nothing.
use mathlib.Core.Path.{◌≡◌}
use mathlib.Core.Bool.{true, false}
use mathlib.Core.List.{List, [], ◌∷◌}
use Prim.Native.Nat.{ℕ, ◌+◌, ◌*◌, ◌≤◌}
use native.Mathlib.Nat.{mul-le-mul_right}
use native.Mathlib.Omega.{arith}
use lib.ListN.{length}
use Rattle.sets.specs.Sets.{has, below, size}
use Rattle.sets.proofs.Operations.{has_without}
use Rattle.label.specs.declared.Label.{Label}
use Rattle.protocol.specs.Geometry.{most_disks, region_size, regions, region_blocks}
use Rattle.protocol.specs.Loops.{ascending, for_each}
use Rattle.protocol.specs.States.{source}
use Rattle.protocol.specs.Stores.{Store, copy, clear}
use Rattle.protocol.specs.Lists.{copies, clears, resync, resyncs}
use Rattle.protocol.proofs.Loops.{for_none, same_iterations}
use Rattle.protocol.proofs.RestartClaims.{copies_loop, resync-length}
use Rattle.budget.specs.Runs.{Progress, run_all}
use Rattle.budget.proofs.Runs.{in_sequence}
use Rattle.dirty.specs.DirtyBits.{dirty_regions}
use Rattle.dirty.proofs.DirtyBits.{dirty_on_any}
use Rattle.recovery.specs.Copying.{others}
use Rattle.recovery.specs.RegionLists.{resyncs_of}

-- the source of a set is not one of the others
pub source_apart : (set : ℕ) → has (others set) (source set) ≡ false
unfolding others
source_apart set = has_without set (source set)

-- the regions that are "dirty on any disk of S", as a map
pub resyncs_by_regions : (n b set : ℕ) (labels : List Label) → n ≤ most_disks → below set n ≡ true
    → resyncs n b labels set ≡ resyncs_of n b (dirty_regions labels set) set
unfolding resyncs resyncs_of
resyncs_by_regions n b set labels few known =
    same_iterations (regions b) _ _ (λ r l. rw (dirty_on_any labels r n few set known))

-- no region is dirty, so none is copied
pub nothing_dirty : (n b set : ℕ) → resyncs_of n b 0 set ≡ []
unfolding resyncs_of for_each
nothing_dirty n b set = for_none (regions b) (resync n b set)

-- the copies of a region are no more than a region's blocks times the disks
pub resync_most : (blocks count : ℕ) → blocks ≤ region_size → count ≤ most_disks
    → blocks * count ≤ region_size * most_disks
resync_most blocks count few members = omega (arith, mul-le-mul_right count few)

module _ (n b set r : ℕ) where
  -- the copies of region r
  abbrev pub copies_of : ℕ → List Store
  copies_of i = for_each n (others set) (λ d. copy (source set) d (r * region_size + i) ∷ [])

  pub resync-ran : (p : Progress) {q t : Progress} → q ≡ run_all b (ascending (region_blocks b r) copies_of) p
      → t ≡ run_all b (for_each n set (λ d. clear d r ∷ [])) q → t ≡ run_all b (resync n b set r) p
  unfolding resync clears others
  resync-ran p first second = in_sequence b (copies n b set r) _ p (rw (copies_loop n b set r) first) second

  pub resync_size : below set n ≡ true → length (resync n b set r) ≡ region_blocks b r * size (others set) + size set
  unfolding others
  resync_size = resync-length n b set r

-- A write's list, as code makes it: the move, the bits on the disks that lack them, the blocks. Assumes nothing.
use mathlib.Core.Path.{◌≡◌}
use mathlib.Core.List.{List, [], ◌∷◌, ◌++◌}
use Prim.Native.Nat.{ℕ, ◌+◌, ◌≤◌}
use native.Mathlib.Omega.{arith}
use lib.ListN.{length, length-append}
use Rattle.sets.specs.Sets.{size, difference}
use Rattle.sets.proofs.Bounds.{below-difference}
use Rattle.protocol.specs.declared.State.{State}
use Rattle.protocol.specs.Geometry.{most_disks, region_of}
use Rattle.protocol.specs.Loops.{for_each}
use Rattle.protocol.specs.States.{live}
use Rattle.protocol.specs.Soundness.{Sound}
use Rattle.protocol.specs.Stores.{write, mark}
use Rattle.protocol.specs.Lists.{move_to_live, marks, block_stores, preparations, write_list}
use Rattle.protocol.proofs.Loops.{for_length}
use Rattle.protocol.proofs.Soundness.{live_known}
use Rattle.budget.specs.Runs.{Progress, run_all}
use Rattle.budget.proofs.Runs.{in_sequence}
use Rattle.dirty.specs.DirtyBits.{dirty_disks}
use Rattle.dirty.proofs.DirtyBits.{where_lacks}

module _ (s : State) (k : ℕ) (bytes : List ℕ) where
  -- the disks of L where the bit does not stand
  abbrev pub unmarked : ℕ
  unmarked = difference (live s) (dirty_disks s.disks s.labels (region_of k))

  pub write_ran : s.disks ≤ most_disks → (p : Progress) {q r t : Progress}
      → q ≡ run_all s.blocks (move_to_live s) p
      → r ≡ run_all s.blocks (for_each s.disks unmarked (λ d. mark d (region_of k) ∷ [])) q
      → t ≡ run_all s.blocks (for_each s.disks (live s) (λ d. write d k bytes ∷ [])) r
      → t ≡ run_all s.blocks (write_list s k bytes) p
  unfolding write_list preparations marks block_stores
  write_ran few p first second third =
      let b = s.blocks in
      rw (where_lacks s.labels (region_of k) s.disks few (live s) (λ d. mark d (region_of k)))
      (in_sequence b _ _ p (in_sequence b (move_to_live s) _ p first second) third)

  pub write_length : Sound s
      → length (write_list s k bytes) ≡ length (move_to_live s) + size unmarked + size (live s)
  unfolding write_list preparations marks block_stores
  write_length fit =
      let n = s.disks in
      let l = live s in
      let lacking = for_each n unmarked (λ d. mark d (region_of k) ∷ []) in
      rw (where_lacks s.labels (region_of k) n fit.range.disks l (λ d. mark d (region_of k)))
      (omega (
        arith,
        length-append (move_to_live s ++ lacking) (for_each n l (λ d. write d k bytes ∷ [])),
        length-append (move_to_live s) lacking,
        for_length n unmarked (λ d. mark d (region_of k)) (below-difference l _ n (live_known s fit)),
        for_length n l (λ d. write d k bytes) (live_known s fit),
      ))

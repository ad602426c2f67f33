-- Stores of blocks under a budget. Assumes nothing.
use mathlib.Core.Path.{◌≡◌, refl, sym, ◌∙◌}
use mathlib.Core.Logic.{◌≢◌, inl}
use mathlib.Core.Bool.{Bool, true, false, cond, not, ◌&&◌}
use mathlib.Core.List.{List, [], ◌∷◌}
use Prim.Native.Nat.{ℕ, zero, suc, ◌-◌, ◌≤◌, ◌<◌}
use native.Mathlib.Omega.{arith}
use lib.Dec.{eqb}
use lib.ListN.{length}
use Rattle.sets.specs.Sets.{has}
use Rattle.sets.proofs.Tests.{clash}
use Rattle.protocol.specs.Geometry.{block_size, area_size, block, with_block}
use Rattle.protocol.specs.Loops.{ascending, for_each}
use Rattle.protocol.specs.Stores.{Store, write, copy, apply}
use Rattle.protocol.proofs.Blocks.{block_length, stored_size, stored_other}
use Rattle.area.specs.Parts.{InArea}
use Rattle.area.proofs.Parts.{disk_in_area}
use Rattle.budget.specs.declared.Run.{Run}
use Rattle.budget.specs.Runs.{Progress, progress, run_one, run_all, one_if}
use Rattle.budget.specs.Sizes.{Fits}
use Rattle.budget.proofs.Runs.{run_append, power_there, one_made}
use Rattle.block_stores.specs.Copying.{LoadedOnce}

-- disk d below n has its part in the area
pub in_area : (n b d k : ℕ) (area : List ℕ) → Fits n b area → d < n → k < b → InArea b d k area
in_area n b d k area fits = disk_in_area n b d k area fits.disks fits.blocks fits.size

-- the block stored in the area, and one store less left
pub block_made : (b members d k : ℕ) (bytes : List ℕ) (run : Run) (area : List ℕ)
    → (not (eqb run.left 0) && has members d) ≡ true
    → progress (record { labels = run.labels; left = run.left - 1 }) (with_block b area d k bytes)
    ≡ run_all b (one_if members d (write d k bytes)) (progress run area)
unfolding apply
block_made b members d k bytes run area e = one_made b members d (write d k bytes) (progress run area) e

-- the same of a block copied from another disk
pub copy_made : (b from to k : ℕ) (run : Run) (area : List ℕ) → run.left ≢ 0
    → progress (record { labels = run.labels; left = run.left - 1 }) (with_block b area to k (block b area from k))
    ≡ run_all b (copy from to k ∷ []) (progress run area)
unfolding apply
copy_made b from to k run area e = power_there b (copy from to k) (progress run area) e

-- ---- a block that is copied to other disks can be loaded once

module _ (n b from k set : ℕ) (source : from < n) (known : k < b) (apart : has set from ≡ false) (bytes : List ℕ)
    (full : length bytes ≡ block_size) where
  -- what the loop over the disks of the set keeps: the disk that is copied from has these bytes
  record Holds (p : Progress) : Type 0 where
    size : length p.disks.area ≡ area_size n b
    same : block b p.disks.area from k ≡ bytes

  Equivalent : Store → Store → Progress → Type 0
  Equivalent x y p = (run_one b x p ≡ run_one b y p) × Holds (run_one b y p)

  -- the copy is the write of these bytes
  copy_is_write : (d : ℕ) → d < n → d ≢ from → (p : Progress) → Holds p → Equivalent (copy from d k) (write d k bytes) p
  unfolding run_one apply Equivalent
  copy_is_write d below other p holds = go (eqb p.left 0)
    where
      now : List ℕ
      now = p.disks.area

      after : List ℕ → Progress
      after block =
          record { disks = record { labels = p.disks.labels; area = with_block b now d k block }; left = p.left - 1 }

      go : (spent : Bool)
          → (cond spent p (after (block b now from k)) ≡ cond spent p (after bytes))
          × Holds (cond spent p (after bytes))
      go true = (refl, holds)
      go false = (
        rw holds.same,
        record {
          size = stored_size n b now holds.size d k below known bytes full;
          same =
              stored_other n b now holds.size d k below known bytes full from k source known (inl other)
              ∙ holds.same;
        },
      )

  iteration : (d : ℕ) → d < n → (p : Progress) → Holds p
      → (run_all b (one_if set d (copy from d k)) p ≡ run_all b (one_if set d (write d k bytes)) p)
      × Holds (run_all b (one_if set d (write d k bytes)) p)
  unfolding run_all Equivalent
  iteration d below p holds = go (has set d) refl
    where
      go : (member : Bool) → has set d ≡ member
          → (run_all b (cond member (copy from d k ∷ []) []) p ≡ run_all b (cond member (write d k bytes ∷ []) []) p)
          × Holds (run_all b (cond member (write d k bytes ∷ []) []) p)
      go true member = copy_is_write d below (λ e. clash (rw e at member) apart) p holds
      go false member = (refl, holds)

  iterations : (i : ℕ) → i ≤ n → (p : Progress) → Holds p
      → (run_all b (for_each i set (λ d. copy from d k ∷ [])) p
      ≡ run_all b (for_each i set (λ d. write d k bytes ∷ [])) p)
      × Holds (run_all b (for_each i set (λ d. write d k bytes ∷ [])) p)
  unfolding for_each ascending run_all
  iterations zero few p holds = (refl, holds)
  iterations (suc i) few p holds =
      let (before, kept) = iterations i (omega arith) p holds in
      let (here, after) = iteration i few _ kept in
      rw (
        run_append b (for_each i set (λ d. copy from d k ∷ [])),
        run_append b (for_each i set (λ d. write d k bytes ∷ [])),
        before,
      )
      (here, after)

-- the copies of a block are writes of what it held before the first of them
pub loaded_once : LoadedOnce
loaded_once n b from k set p source known apart size =
    let bytes = block b p.disks.area from k in
    let full = block_length n b p.disks.area size from k source known in
    sym (iterations n b from k set source known apart bytes full n (omega arith) p
    (record { size = size; same = refl })).0

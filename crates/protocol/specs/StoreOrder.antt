-- Which disks the stores of each list go to, and in which order: phase by phase, "for each disk .., ascending".
use Rattle.std.specs.Prelude.{◌≡◌, ◌↔◌, true, cond, not, ◌&&◌, ℕ, ◌+◌, ◌*◌, ◌<◌, eqb, length, get_or}
use mathlib.Core.List.{List, [], ◌∷◌, ◌++◌, map, Memᴰ}
use Rattle.sets.specs.Sets.{has, union, difference, singleton}
use Rattle.protocol.specs.declared.State.{State}
use Rattle.protocol.specs.Geometry.{region_size, region_of, regions, region_blocks}
use Rattle.protocol.specs.Loops.{ascending, some, disks_where}
use Rattle.protocol.specs.States.{is_dirty, current_of, live, source}
use Rattle.protocol.specs.Stores.{Store, write, copy, mark, clear, propose, commit}
use Rattle.protocol.specs.Lists.{move_to_live, write_list, join_list, swap_list, clean_list, restart_list}

-- ---- phases

-- What the stores of one phase have in common: all but the disk.
pub data Phase : Type 0 where
  -- a move's T stores; its C stores, which a restart ends with too
  proposing committing : (set : ℕ) → Phase
  -- a write's marks; the clears of one region
  marking clearing : (r : ℕ) → Phase
  -- a write's block stores
  writing : (k : ℕ) → List ℕ → Phase
  -- the copies of one block
  copying : (from k : ℕ) → Phase

abbrev pub store_on : Phase → ℕ → Store
store_on (proposing set) d = propose d set
store_on (committing set) d = commit d set
store_on (marking r) d = mark d r
store_on (clearing r) d = clear d r
store_on (writing k bytes) d = write d k bytes
store_on (copying from k) d = copy from d k

-- ascending, so each at most once
abbrev pub Ascend : List ℕ → Type 0
Ascend disks = (i j : ℕ) → i < j → j < length disks → get_or disks i 0 < get_or disks j 0

-- the order of a phase's disks
abbrev pub Ordered : Phase → List ℕ → Type 0
Ordered (proposing set) disks = Ascend disks
Ordered (committing set) disks = Ascend disks
Ordered (marking r) disks = Ascend disks
Ordered (clearing r) disks = Ascend disks
Ordered (writing k bytes) disks = Ascend disks
Ordered (copying from k) disks = Ascend disks

-- ---- a list in phases

-- a phase, and the set of disks that it stores on
pub record Sweep : Type 0 where
  pub phase : Phase
  pub set : ℕ

abbrev pub on : ℕ → Phase → Sweep
on set phase = record { phase = phase; set = set }

-- These stores are the phase's, on exactly the disks of the set, in its order.
pub record Makes (n : ℕ) (t : Sweep) (stores : List Store) : Type 0 where
  pub disks : List ℕ
  pub goes_to : stores ≡ map (store_on t.phase) disks
  pub exactly : (d : ℕ) → Memᴰ d disks ↔ ((d < n) × (has t.set d ≡ true))
  pub ordered : Ordered t.phase disks

-- the stores of each sweep, one sweep after the other
pub data InSweeps (n : ℕ) : List Sweep → List Store → Type 0 where
  none : InSweeps n [] []
  next : {t : Sweep} {sweeps : List Sweep} {stores later : List Store} → Makes n t stores → InSweeps n sweeps later
      → InSweeps n (t ∷ sweeps) (stores ++ later)

-- ---- the sweeps of each list

-- "Moving to set S"
abbrev pub moving : ℕ → List Sweep
moving set = on set (proposing set) ∷ on set (committing set) ∷ []

module _ (s : State) where
  -- "if L differs from G, move to L"
  abbrev pub moving_to_live : List Sweep
  moving_to_live = cond (eqb (live s) (current_of s.power)) [] (moving (live s))

  -- "on each disk of L, ascending, where it does not stand"
  abbrev pub lacking : ℕ → ℕ
  lacking r = disks_where s.disks (λ d. has (live s) d && not (is_dirty s.labels d r))

  -- "on each disk of L, ascending, where it stands"
  abbrev pub having : ℕ → ℕ
  having r = disks_where s.disks (λ d. has (live s) d && is_dirty s.labels d r)

  abbrev pub write_sweeps : ℕ → List ℕ → List Sweep
  write_sweeps k bytes =
      moving_to_live ++ (on (lacking (region_of k)) (marking (region_of k)) ∷ on (live s) (writing k bytes) ∷ [])

  -- "Copy all blocks, ascending, from the lowest member of L to d. Then move to L with d."
  abbrev pub join_sweeps : ℕ → List Sweep
  join_sweeps d =
      moving_to_live
      ++ (ascending s.blocks (λ k. on (singleton d) (copying (source (live s)) k) ∷ [])
      ++ moving (union (live s) (singleton d)))

  abbrev pub swap_sweeps : ℕ → List Sweep
  swap_sweeps d = cond (has (current_of s.power) d) (moving (live s)) []

  abbrev pub clean_sweeps : List Sweep
  clean_sweeps = ascending (regions s.blocks) (λ r. on (having r) (clearing r) ∷ [])

  module _ (set : ℕ) where
    -- "for each block ascending, copy it from the lowest member to each other member, ascending; then clear the bit on
    -- every member, ascending, standing or not"
    abbrev pub resync_sweeps : ℕ → List Sweep
    resync_sweeps r =
        ascending (region_blocks s.blocks r)
        (λ i. on (difference set (singleton (source set))) (copying (source set) (r * region_size + i)) ∷ [])
        ++ (on set (clearing r) ∷ [])

    abbrev pub restart_sweeps : List Sweep
    restart_sweeps =
        ascending (regions s.blocks)
        (λ r. cond (some s.disks set (λ d. is_dirty s.labels d r)) (resync_sweeps r) [])
        ++ (on set (committing set) ∷ [])

-- ---- the claim, of every list

pub record StoresInOrder (s : State) : Type 0 where
  pub reads : InSweeps s.disks (moving_to_live s) (move_to_live s)
  pub writes : (k : ℕ) (bytes : List ℕ) → InSweeps s.disks (write_sweeps s k bytes) (write_list s k bytes)
  pub joins : (d : ℕ) → d < s.disks → InSweeps s.disks (join_sweeps s d) (join_list s d)
  pub swaps : (d : ℕ) → InSweeps s.disks (swap_sweeps s d) (swap_list s d)
  pub cleans : InSweeps s.disks (clean_sweeps s) (clean_list s)
  pub restarts : (set : ℕ) → InSweeps s.disks (restart_sweeps s set) (restart_list s set)

abbrev pub ListsInOrder : Type 0
ListsInOrder = (s : State) → StoresInOrder s

-- Document 01, "Stores and supply": the list of stores of each call that changes disks, as the state at the call fixes
-- it.
use Rattle.std.specs.Prelude.{cond, List, [], ◌∷◌, ◌++◌, ℕ, ◌+◌, ◌*◌, eqb, ltb}
use Rattle.sets.specs.Sets.{has, union, difference, singleton}
use Rattle.label.specs.declared.Label.{Label}
use Rattle.protocol.specs.declared.State.{State}
use Rattle.protocol.specs.Geometry.{region_size, region_of, regions}
use Rattle.protocol.specs.Loops.{ascending, for_each, some}
use Rattle.protocol.specs.States.{is_dirty, current_of, live, source}
use Rattle.protocol.specs.Stores.{Store, write, copy, mark, clear, propose, commit}

-- ---- moving to a set

-- "for each disk of S, ascending, store T = S"
unfoldable pub proposals : ℕ → ℕ → List Store
proposals n s = for_each n s (λ d. propose d s ∷ [])

-- "for each disk of S, ascending, store C = S and T = 0"
unfoldable pub commits : ℕ → ℕ → List Store
commits n s = for_each n s (λ d. commit d s ∷ [])

-- "Moving to set S"
unfoldable pub move : ℕ → ℕ → List Store
move n s = proposals n s ++ commits n s

-- "if L differs from G, move to L". A read stores this and no more: "A read with L different from G now moves to L
-- before it copies the block" (document 02, 2.3).
unfoldable pub move_to_live : State → List Store
move_to_live s = cond (eqb (live s) (current_of s.power)) [] (move s.disks (live s))

-- ---- write

-- "set the region's dirty bit on each disk of L, ascending, where it does not stand"
unfoldable pub marks : ℕ → List Label → ℕ → ℕ → List Store
marks n labels l r = for_each n l (λ d. cond (is_dirty labels d r) [] (mark d r ∷ []))

-- "store the block on each disk of L, ascending"
unfoldable pub block_stores : ℕ → ℕ → ℕ → List ℕ → List Store
block_stores n l k bytes = for_each n l (λ d. write d k bytes ∷ [])

-- what a write of block k does before its first block store
unfoldable pub preparations : State → ℕ → List Store
preparations s k = move_to_live s ++ marks s.disks s.labels (live s) (region_of k)

unfoldable pub write_list : State → ℕ → List ℕ → List Store
write_list s k bytes = preparations s k ++ block_stores s.disks (live s) k bytes

-- ---- join

-- "Copy all blocks, ascending, from the lowest member of L to d."
unfoldable pub fill : ℕ → ℕ → ℕ → List Store
fill b l d = ascending b (λ k. copy (source l) d k ∷ [])

-- "Join disk d: if L differs from G, move to L. Copy .. Then move to L with d. The dirty map of d is not touched."
unfoldable pub join_list : State → ℕ → List Store
join_list s d = move_to_live s ++ (fill s.blocks (live s) d ++ move s.disks (union (live s) (singleton d)))

-- ---- swap

-- "If d is in G the cabinet first moves to L" (document 02, 2.5): d is out of reach, so L then differs from G.
unfoldable pub swap_list : State → ℕ → List Store
swap_list s d = cond (has (current_of s.power) d) (move s.disks (live s)) []

-- ---- clean, the paper's quiet

-- "for each region ascending, clear the bit on each disk of L, ascending, where it stands"
unfoldable pub clean_list : State → List Store
clean_list s =
    ascending (regions s.blocks)
    (λ r. for_each s.disks (live s) (λ d. cond (is_dirty s.labels d r) (clear d r ∷ []) []))

-- ---- restart

-- what f gives for each block of region r, ascending; the last region may be short
unfoldable pub for_blocks : ℕ → ℕ → (ℕ → List Store) → List Store
for_blocks b r f = ascending region_size (λ i. cond (ltb (r * region_size + i) b) (f (r * region_size + i)) [])

-- "for each block ascending, copy it from the lowest member to each other member, ascending"
unfoldable pub copies : ℕ → ℕ → ℕ → ℕ → List Store
copies n b s r = for_blocks b r (λ k. for_each n (difference s (singleton (source s))) (λ d. copy (source s) d k ∷ []))

-- "then clear the bit on every member, ascending, standing or not"
unfoldable pub clears : ℕ → ℕ → ℕ → List Store
clears n s r = for_each n s (λ d. clear d r ∷ [])

-- the resync of one region
unfoldable pub resync : ℕ → ℕ → ℕ → ℕ → List Store
resync n b s r = copies n b s r ++ clears n s r

-- "For each region, ascending, that is dirty on any disk of S"
unfoldable pub resyncs : ℕ → ℕ → List Label → ℕ → List Store
resyncs n b labels s = ascending (regions b) (λ r. cond (some n s (λ d. is_dirty labels d r)) (resync n b s r) [])

-- "At the end store C = S and T = 0 on every member, ascending."
unfoldable pub restart_list : State → ℕ → List Store
restart_list s set = resyncs s.disks s.blocks s.labels set ++ commits s.disks set

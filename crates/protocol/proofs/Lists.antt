-- Which stores each list has: what holds of every such store holds of each in the list. Assumes nothing.
use mathlib.Core.Path.{◌≡◌}
use mathlib.Core.Bool.{true, cond}
use mathlib.Core.List.{List, [], ◌∷◌}
use Prim.Native.Nat.{ℕ, ◌+◌, ◌*◌, ◌<◌}
use lib.Dec.{eqb, ltb}
use borrow.Author.Tests.{ltb-true}
use Rattle.sets.specs.Sets.{has, difference, singleton}
use Rattle.label.specs.declared.Label.{Label}
use Rattle.protocol.specs.declared.State.{State}
use Rattle.protocol.specs.Geometry.{region_size, regions}
use Rattle.protocol.specs.Loops.{for_each, some}
use Rattle.protocol.specs.States.{is_dirty, current_of, live, source}
use Rattle.protocol.specs.Stores.{Store, write, copy, mark, clear, propose, commit}
use Rattle.protocol.specs.Lists.{proposals, commits, move, move_to_live, marks, block_stores, fill}
use Rattle.protocol.specs.Lists.{clean_list, for_blocks, copies, clears, resync, resyncs}
use Rattle.protocol.proofs.Loops.{Each, nil, cons, each_append, each_if}
use Rattle.protocol.proofs.Loops.{each_unless, each_ascending, each_member}

module _ {P : Store → Type 0} where
  -- what holds of f's store for each member
  one_each : (n s : ℕ) (f : ℕ → Store) → ((d : ℕ) → d < n → has s d ≡ true → P (f d))
      → Each P (for_each n s (λ d. f d ∷ []))
  one_each n s f h = each_member n s _ (λ d l m. cons (h d l m) nil)

  -- ---- moves

  pub each_proposal : (n s : ℕ) → ((d : ℕ) → d < n → has s d ≡ true → P (propose d s)) → Each P (proposals n s)
  unfolding proposals
  each_proposal n s = one_each _ _ _

  pub each_commit : (n s : ℕ) → ((d : ℕ) → d < n → has s d ≡ true → P (commit d s)) → Each P (commits n s)
  unfolding commits
  each_commit n s = one_each _ _ _

  module _ (n s : ℕ) (p : (d : ℕ) → d < n → has s d ≡ true → P (propose d s))
      (c : (d : ℕ) → d < n → has s d ≡ true → P (commit d s)) where
    pub each_move : Each P (move n s)
    unfolding move
    each_move = each_append (each_proposal n s p) (each_commit n s c)

  pub each_live : (s : State) → ((d : ℕ) → d < s.disks → has (live s) d ≡ true → P (propose d (live s)))
      → ((d : ℕ) → d < s.disks → has (live s) d ≡ true → P (commit d (live s)))
      → Each P (move_to_live s)
  unfolding move_to_live
  each_live s p c = each_unless (eqb (live s) (current_of s.power)) (λ z. each_move _ _ p c)

  -- ---- write, join, clean

  pub each_mark : (n : ℕ) (labels : List Label) (l r : ℕ) → ((d : ℕ) → d < n → P (mark d r))
      → Each P (marks n labels l r)
  unfolding marks
  each_mark n labels l r h = each_member n l _ (λ d k m. each_unless (is_dirty labels d r) (λ z. cons (h d k) nil))

  pub each_block : (n l k : ℕ) (bytes : List ℕ) → ((d : ℕ) → d < n → P (write d k bytes))
      → Each P (block_stores n l k bytes)
  unfolding block_stores
  each_block n l k bytes h = one_each _ _ _ (λ d i m. h d i)

  pub each_fill : (b l d : ℕ) → ((k : ℕ) → k < b → P (copy (source l) d k)) → Each P (fill b l d)
  unfolding fill
  each_fill b l d h = each_ascending b _ (λ k i. cons (h k i) nil)

  -- of one region's
  pub each_standing : (s : State) → ((d r : ℕ) → d < s.disks → has (live s) d ≡ true → P (clear d r))
      → (r : ℕ) → Each P (for_each s.disks (live s) (λ d. cond (is_dirty s.labels d r) (clear d r ∷ []) []))
  each_standing s h r =
      each_member _ _ _ (λ d k m. each_if (is_dirty s.labels d r) (λ z. cons (h d r k m) nil))

  pub each_clean : (s : State) → ((d r : ℕ) → d < s.disks → has (live s) d ≡ true → P (clear d r))
      → Each P (clean_list s)
  unfolding clean_list
  each_clean s h = each_ascending _ _ (λ r i. each_standing s h r)

  -- ---- restart

  module _ (n b s r : ℕ) (h : (d k : ℕ) → d < n → k < b → P (copy (source s) d k)) where
    -- of the region's block i
    pub each_block_copy : (i : ℕ)
        → Each P (cond (ltb (r * region_size + i) b)
        (for_each n (difference s (singleton (source s))) (λ d. copy (source s) d (r * region_size + i) ∷ [])) [])
    each_block_copy i =
        each_if (ltb (r * region_size + i) b)
        (λ e. one_each _ _ _ (λ d l m. h d (r * region_size + i) l (ltb-true _ _ e)))

    pub each_copy : Each P (copies n b s r)
    unfolding copies for_blocks
    each_copy = each_ascending region_size _ (λ i l. each_block_copy i)

  pub each_clear : (n s r : ℕ) → ((d : ℕ) → d < n → has s d ≡ true → P (clear d r)) → Each P (clears n s r)
  unfolding clears
  each_clear n s r = one_each _ _ _

  pub each_resync : (n b : ℕ) (labels : List Label) (s : ℕ) → ((d k : ℕ) → d < n → k < b → P (copy (source s) d k))
      → ((d r : ℕ) → d < n → P (clear d r))
      → Each P (resyncs n b labels s)
  unfolding resyncs resync
  each_resync n b labels s c x =
      each_ascending (regions b) _ (λ r i. each_if (some n s (λ d. is_dirty labels d r))
      (λ z. search (each_append, each_copy n b s r c, each_clear n s r (λ d l m. x d r l))))

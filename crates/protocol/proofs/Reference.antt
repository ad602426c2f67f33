-- When the stores made include a write's block store on the source of its set. Assumes nothing.
use mathlib.Core.Path.{◌≡◌, refl, sym, ◌∙◌}
use mathlib.Core.Bool.{true, false, cond, ◌||◌, or_assoc}
use mathlib.Core.List.{List, [], ◌∷◌, ◌++◌}
use Prim.Native.Nat.{ℕ, suc, ◌+◌, ◌-◌, ◌^◌, ◌≤◌, ◌<◌}
use native.Mathlib.Omega.{arith}
use lib.ListN.{length, take}
use lib.Seq.{take-append-add}
use borrow.Author.Tests.{eq-eqb}
use Rattle.sets.specs.Sets.{has}
use Rattle.sets.proofs.Bounds.{member_below, below_pow}
use Rattle.sets.proofs.LowestMember.{lowest_least}
use Rattle.protocol.specs.declared.State.{State}
use Rattle.protocol.specs.Geometry.{region_of}
use Rattle.protocol.specs.Loops.{for_each}
use Rattle.protocol.specs.States.{live, source}
use Rattle.protocol.specs.Soundness.{Sound}
use Rattle.protocol.specs.Stores.{Store, write}
use Rattle.protocol.specs.Lists.{preparations, block_stores, write_list}
use Rattle.protocol.specs.Reference.{is_block_store, include}
use Rattle.protocol.specs.Claims.{SourceFirst, source_store}
use Rattle.protocol.proofs.Loops.{Each, nil, cons, each_append, each_take, begins}
use Rattle.protocol.proofs.Lists.{each_live, each_mark}
use Rattle.protocol.proofs.States.{source_has}
use Rattle.protocol.proofs.Soundness.{live_known}

pub include_append : (d k : ℕ) (xs ys : List Store) → include d k (xs ++ ys) ≡ (include d k xs || include d k ys)
unfolding include
include_append d k [] ys = refl
include_append d k (x ∷ xs) ys =
    rw (include_append d k xs ys) (sym (or_assoc (is_block_store d k x) (include d k xs) (include d k ys)))

-- ---- nothing before the first block store is one

abbrev NoBlock : ℕ → ℕ → Store → Type 0
NoBlock d k x = is_block_store d k x ≡ false

include_none : (d k : ℕ) {xs : List Store} → Each (NoBlock d k) xs → include d k xs ≡ false
unfolding include
include_none d k nil = refl
include_none d k (cons e es) = rw (e, include_none d k es)

module _ (s : State) (k d j : ℕ) where
  prepares : Each (NoBlock d j) (preparations s k)
  unfolding preparations
  prepares =
      each_append (each_live s (λ e i m. refl) (λ e i m. refl))
      (each_mark _ _ (live s) (region_of k) (λ e i. refl))

  pub early : (p : ℕ) → include d j (take p (preparations s k)) ≡ false
  early p = include_none d j (each_take p prepares)

  pub prepared : include d j (preparations s k) ≡ false
  prepared = include_none d j prepares

-- ---- the first block store is the source's

pub block_stores_begin : (n l k : ℕ) (bytes : List ℕ) → 0 < l → l < 2 ^ n
    → (later : List Store) × (block_stores n l k bytes ≡ write (source l) k bytes ∷ later)
unfolding block_stores for_each source
block_stores_begin n l k bytes filled known =
    let m = source_has l filled in
    let (later, e) = begins (λ d. cond (has l d) (write d k bytes ∷ []) []) (source l)
    (λ i h. rw (lowest_least l i h)) n (member_below l n (source l) known m) in
    (later, e ∙ rw m)

pub source_store_lem : (d k : ℕ) (bytes : List ℕ) (later : List Store) → include d k (write d k bytes ∷ later) ≡ true
unfolding include
source_store_lem d k bytes later = rw (eq-eqb d d refl, eq-eqb k k refl)

pub source_first : SourceFirst
unfolding write_list
source_first s k bytes fit some =
    let (later, e) = block_stores_begin _ (live s) k bytes some ((below_pow _ _).0 (live_known s fit)) in
    (later, rw e)

-- a write that is made whole counts, and so does one that is cut behind that store
module _ (s : State) (k : ℕ) (bytes : List ℕ) (fit : Sound s) (some : 0 < live s) where
  pub write_counts : include (source (live s)) k (write_list s k bytes) ≡ true
  write_counts =
      let (later, e) = source_first s k bytes fit some in
      rw e (simp (include_append, source_store_lem, prepared))

  pub cut_counts : (p : ℕ) → source_store s k ≤ p → include (source (live s)) k (take p (write_list s k bytes)) ≡ true
  cut_counts p l =
      let (later, e) = source_first s k bytes fit some in
      let split = take-append-add (preparations s k) (write (source (live s)) k bytes ∷ later)
      (suc (p - source_store s k)) in
      let whole : length (preparations s k) + suc (p - source_store s k) ≡ p = omega arith in
      rw (e, rw whole at split) (simp (include_append, source_store_lem, prepared))

-- Where dirty bits stand: which the members of the sets and maps are, and the lists that the labels fix as lists over
-- sets. Assumes nothing.
use mathlib.Core.Path.{◌≡◌, refl, sym, ap, ◌∙◌}
use mathlib.Core.Logic.{◌≢◌, ◌⊎◌, inl, inr}
use mathlib.Core.Bool.{Bool, true, false, not, cond, ◌&&◌, and-false}
use mathlib.Core.List.{List, [], ◌∷◌}
use Prim.Native.Nat.{ℕ, ◌≤◌, ◌<◌}
use native.Mathlib.Omega.{arith}
use lib.Dec.{ltb}
use lib.ListN.{length}
use borrow.Author.Tests.{ltb-true, lt-ltb}
use Rattle.sets.specs.Sets.{has, intersection, difference, below, size, lowest}
use Rattle.sets.proofs.Tests.{Test, passes, fails, test, clash, and_parts, same_or_not}
use Rattle.sets.proofs.Operations.{has-intersection, has-difference}
use Rattle.sets.proofs.Bounds.{below_members, below-intersection}
use Rattle.sets.proofs.LowestMember.{lowest-has}
use Rattle.label.specs.declared.Label.{Label}
use Rattle.protocol.specs.Geometry.{most_disks}
use Rattle.protocol.specs.Loops.{for_each, some}
use Rattle.protocol.specs.States.{label_at, is_dirty}
use Rattle.protocol.specs.Stores.{Store}
use Rattle.protocol.proofs.Loops.{same_iterations, for_length, some_same, some_is, some_known}
use Rattle.protocol.proofs.Loops.{has-union_below, has_if, has-disks_where}
use Rattle.dirty.specs.DirtyBits.{dirty_disks, dirty_regions}

module _ (labels : List Label) (r n : ℕ) (few : n ≤ most_disks) where
  has_dirty : (d : ℕ) → has (dirty_disks n labels r) d ≡ (ltb d n && is_dirty labels d r)
  unfolding dirty_disks
  has_dirty d = has-disks_where most_disks _ d ∙ go (test (ltb d n))
    where
      go : Test (ltb d n) → (ltb d most_disks && (ltb d n && is_dirty labels d r)) ≡ (ltb d n && is_dirty labels d r)
      go (passes l) = rw (lt-ltb d most_disks (omega (arith, ltb-true d n l)))
      go (fails l) = rw (l, and-false (ltb d most_disks))

  dirty_known : below (dirty_disks n labels r) n ≡ true
  dirty_known =
      (below_members (dirty_disks n labels r) n).1
      (λ d member. ltb-true d n (and_parts (ltb d n) (is_dirty labels d r) (sym (has_dirty d) ∙ member)).0)

  -- below n, its members are those
  dirty_here : (d : ℕ) → d < n → has (dirty_disks n labels r) d ≡ is_dirty labels d r
  dirty_here d l = has_dirty d ∙ rw (lt-ltb d n l)

  module _ (set : ℕ) (f : ℕ → Store) where
    -- "on each disk of L .. where it stands"
    pub where_stands : for_each n set (λ d. cond (is_dirty labels d r) (f d ∷ []) [])
        ≡ for_each n (intersection set (dirty_disks n labels r)) (λ d. f d ∷ [])
    unfolding for_each
    where_stands =
        same_iterations n _ _
        (λ d l. rw (has-intersection set (dirty_disks n labels r) d, dirty_here d l)
        (go d (has set d) (is_dirty labels d r)))
      where
        go : (d : ℕ) (member stands : Bool)
            → cond member (cond stands (f d ∷ []) []) [] ≡ cond (member && stands) (f d ∷ []) []
        go d true stands = refl
        go d false stands = refl

    pub standing_size : length (for_each n set (λ d. cond (is_dirty labels d r) (f d ∷ []) []))
        ≡ size (intersection set (dirty_disks n labels r))
    standing_size =
        ap length where_stands ∙ for_length n _ f (below-intersection set (dirty_disks n labels r) n dirty_known)

    -- "where it does not stand"
    pub where_lacks : for_each n set (λ d. cond (is_dirty labels d r) [] (f d ∷ []))
        ≡ for_each n (difference set (dirty_disks n labels r)) (λ d. f d ∷ [])
    unfolding for_each
    where_lacks =
        same_iterations n _ _
        (λ d l. rw (has-difference set (dirty_disks n labels r) d, dirty_here d l)
        (go d (has set d) (is_dirty labels d r)))
      where
        go : (d : ℕ) (member stands : Bool)
            → cond member (cond stands [] (f d ∷ [])) [] ≡ cond (member && not stands) (f d ∷ []) []
        go d true true = refl
        go d true false = refl
        go d false stands = refl

  -- ---- "dirty on any disk of S"

  module _ (set : ℕ) (known : below set n ≡ true) where
    pub dirty_on_any : has (dirty_regions labels set) r ≡ some n set (λ d. is_dirty labels d r)
    unfolding dirty_regions some
    dirty_on_any =
        has-union_below _ r most_disks
        ∙ some_same most_disks _ _ (λ d. has_if (has set d) (label_at labels d).dirty r)
        ∙ some_known most_disks n set (λ d. is_dirty labels d r) few known

    -- a region that is not has no bit that stands
    pub none_stands : has (dirty_regions labels set) r ≡ false → intersection set (dirty_disks n labels r) ≡ 0
    none_stands clean = go (same_or_not dirty 0)
      where
        dirty : ℕ
        dirty = intersection set (dirty_disks n labels r)

        go : (dirty ≡ 0) ⊎ (dirty ≢ 0) → dirty ≡ 0
        go (inl e) = e
        go (inr e) =
            let d = lowest dirty in
            let on-disks = has-intersection set (dirty_disks n labels r) d in
            let (member, stands) = and_parts (has set d) _ (sym on-disks ∙ lowest-has dirty (omega arith)) in
            let (l, here) = and_parts (ltb d n) (is_dirty labels d r) (sym (has_dirty d) ∙ stands) in
            clash (dirty_on_any ∙ some_is n set (λ i. is_dirty labels i r) d (ltb-true d n l) member here) clean

-- What a set's masks say of it: whether it is a candidate, which members disagree, whether one proposes it. Assumes
-- nothing.
use mathlib.Core.Path.{◌≡◌, sym, ◌∙◌}
use mathlib.Core.Bool.{true, not, cond, ◌&&◌, and-false}
use mathlib.Core.List.{List}
use Prim.Native.Nat.{ℕ, ◌^◌, ◌≤◌, ◌<◌}
use native.Mathlib.Omega.{arith}
use lib.Dec.{eqb, ltb}
use borrow.Author.Tests.{eqb-true, eqb-false, eq-eqb, ltb-true, ltb-false, lt-ltb}
use Rattle.sets.specs.Sets.{has, intersection, difference, subset, lowest}
use Rattle.sets.proofs.Tests.{Test, passes, fails, test, and_parts, same_test}
use Rattle.sets.proofs.Membership.{same_members}
use Rattle.sets.proofs.Operations.{has-intersection, has-difference, subset_members}
use Rattle.sets.proofs.Bounds.{member_below}
use Rattle.sets.proofs.LowestMember.{lowest-has, non_empty}
use Rattle.label.specs.declared.Label.{Label}
use Rattle.protocol.specs.Geometry.{most_disks}
use Rattle.protocol.specs.Loops.{some}
use Rattle.protocol.specs.States.{label_at}
use Rattle.protocol.specs.Naming.{Stage, Candidate, backs, proposes, candidate}
use Rattle.protocol.specs.Finder.{tried}
use Rattle.protocol.specs.declared.Reason.TheVariants.{Empty, OutOfReach, Disagrees, NoneProposes, IsCandidate}
use Rattle.protocol.specs.Diagnosis.{dissenters, reason_for}
use Rattle.protocol.proofs.Loops.{has-disks_where, every_of}
use Rattle.protocol.proofs.Naming.{backs_if, if_backs, candidate_if, candidate_below, if_candidate}
use Rattle.protocol.proofs.Finder.{is_tried, tried-proposes}
use Rattle.protocol.proofs.Reasons.{none_fails}
use Rattle.finder.specs.Masks.{backers, holders}

module _ (stage : Stage) (labels : List Label) (x : ℕ) where
  pub has-backers : (d : ℕ) → has (backers stage labels x) d ≡ (ltb d most_disks && backs stage (label_at labels d) x)
  unfolding backers
  has-backers = has-disks_where most_disks _

  pub has-holders : (d : ℕ)
      → has (holders stage labels x) d ≡ (ltb d most_disks && eqb (tried stage (label_at labels d)) x)
  unfolding holders
  has-holders = has-disks_where most_disks _

module _ (stage : Stage) (n online : ℕ) (labels : List Label) (fit : n ≤ most_disks) (known : online < 2 ^ n)
    (x : ℕ) where
  abbrev backed : ℕ
  backed = intersection online (backers stage labels x)

  abbrev held : ℕ
  held = intersection x (holders stage labels x)

  by_masks : Candidate stage online labels x → (subset x backed && ltb 0 held) ≡ true
  by_masks c =
      let (d, m, z) = c.proposed in
      let holds : has (holders stage labels x) d ≡ true = has-holders stage labels x d
      ∙ rw (lt-ltb d most_disks (disk d m), eq-eqb _ _ (is_tried stage _ x (c.each d m) z)) in
      rw (
        (subset_members x backed).1 (λ d m. has-intersection online _ d ∙ rw (c.inside d m, backs_it d m)),
        lt-ltb 0 held (non_empty held d (has-intersection x _ d ∙ rw (m, holds))),
      )
    where
      disk : (d : ℕ) → has x d ≡ true → d < most_disks
      disk d m = omega (arith, candidate_below stage n online labels known x c d m)

      backs_it : (d : ℕ) → has x d ≡ true → has (backers stage labels x) d ≡ true
      backs_it d m =
          has-backers stage labels x d ∙ rw (lt-ltb d most_disks (disk d m), if_backs stage _ x (c.each d m))

  masks_by : (subset x backed && ltb 0 held) ≡ true → Candidate stage online labels x
  masks_by e =
      let (inside, some-hold) = and_parts (subset x backed) (ltb 0 held) e in
      let (m, holds) = and_parts (has x (lowest held)) (has (holders stage labels x) (lowest held))
      (sym (has-intersection x _ (lowest held)) ∙ lowest-has held (ltb-true 0 held some-hold)) in
      record {
        filled = non_empty x (lowest held) m;
        inside = λ d m. (member inside d m).0;
        each = λ d m. backs_if stage _ x
            (and_parts (ltb d most_disks) _ (sym (has-backers stage labels x d) ∙ (member inside d m).1)).1;
        proposed = (
          lowest held,
          m,
          tried-proposes stage _ x (eqb-true _ _
              (and_parts (ltb (lowest held) most_disks) _ (sym (has-holders stage labels x (lowest held)) ∙ holds)).1),
        );
      }
    where
      member : subset x backed ≡ true → (d : ℕ) → has x d ≡ true
          → (has online d ≡ true) × (has (backers stage labels x) d ≡ true)
      member inside d m =
          and_parts (has online d) _ (sym (has-intersection online _ d) ∙ (subset_members x backed).0 inside d m)

  pub candidate_by_masks : (subset x backed && ltb 0 held) ≡ candidate stage n online labels x
  candidate_by_masks =
      same_test (subset x backed && ltb 0 held) (candidate stage n online labels x)
      (λ e. if_candidate stage n online labels known x (masks_by e))
      (λ e. by_masks (candidate_if stage n online labels known x e))

  -- of a set in reach, the members that do not back it disagree ..
  module _ (reached : difference x online ≡ 0) where
    inside : (d : ℕ) → has x d ≡ true → has online d ≡ true
    inside = none_fails x (difference x online) (has online) (has-difference x online) reached

    pub dissenters_by_masks : difference x (backers stage labels x) ≡ dissenters stage n labels x
    unfolding dissenters
    dissenters_by_masks =
        same_members _ _ (λ d. has-difference x _ d ∙ go d (test (has x d)) ∙ sym (has-disks_where n _ d))
      where
        go : (d : ℕ) → Test (has x d) → (has x d && not (has (backers stage labels x) d))
            ≡ (ltb d n && (has x d && not (backs stage (label_at labels d) x)))
        go d (fails m) = rw (m, and-false (ltb d n))
        go d (passes m) =
            let l = member_below online n d known (inside d m) in
            rw (m, has-backers stage labels x d, lt-ltb d n l, lt-ltb d most_disks (omega arith))

    -- .. and where none does, one that holds it proposes it
    pub proposed_by_masks : 0 < x → difference x (backers stage labels x) ≡ 0
        → ltb 0 held ≡ some n x (λ d. proposes stage (label_at labels d) x)
    unfolding candidate
    proposed_by_masks filled none =
        let backing = none_fails x _ (has (backers stage labels x)) (has-difference x _) none in
        let in-backed = (subset_members x backed).1 (λ d m. has-intersection online _ d
        ∙ rw (inside d m, backing d m)) in
        let each = every_of n x (λ d. backs stage (label_at labels d) x)
        (λ d l m. (and_parts (ltb d most_disks) _ (sym (has-backers stage labels x d) ∙ backing d m)).1) in
        rw (lt-ltb 0 x filled, (subset_members x online).1 inside, each, in-backed) at candidate_by_masks

-- the code's tests, in their order
module _ (stage : Stage) (n online : ℕ) (labels : List Label) (fit : n ≤ most_disks) (known : online < 2 ^ n)
    (x : ℕ) where
  -- the members that do not back it
  abbrev disagree : ℕ
  disagree = difference x (backers stage labels x)

  pub reason_by_masks : reason_for stage n online labels x
      ≡ cond (eqb x 0) Empty
      (cond (ltb 0 (difference x online)) (OutOfReach (lowest (difference x online)))
      (cond (ltb 0 disagree) (Disagrees (lowest disagree))
      (cond (ltb 0 (intersection x (holders stage labels x))) IsCandidate NoneProposes)))
  unfolding reason_for
  reason_by_masks = go (test (eqb x 0)) (test (ltb 0 (difference x online))) (test (ltb 0 disagree))
    where
      go : Test (eqb x 0) → Test (ltb 0 (difference x online)) → Test (ltb 0 disagree)
          → reason_for stage n online labels x
          ≡ cond (eqb x 0) Empty
          (cond (ltb 0 (difference x online)) (OutOfReach (lowest (difference x online)))
          (cond (ltb 0 disagree) (Disagrees (lowest disagree))
          (cond (ltb 0 (intersection x (holders stage labels x))) IsCandidate NoneProposes)))
      go (passes e) _ _ = rw e
      go (fails e) (passes o) _ = rw (e, o)
      go (fails e) (fails o) d = rw (e, o, ← dissenters_by_masks stage n online labels fit known x reached) (last d)
        where
          reached : difference x online ≡ 0
          reached = omega (arith, ltb-false 0 (difference x online) o)

          last : Test (ltb 0 disagree)
              → cond (ltb 0 disagree) (Disagrees (lowest disagree))
              (cond (some n x (λ d. proposes stage (label_at labels d) x)) IsCandidate NoneProposes)
              ≡ cond (ltb 0 disagree) (Disagrees (lowest disagree))
              (cond (ltb 0 (intersection x (holders stage labels x))) IsCandidate NoneProposes)
          last (passes d) = rw d
          last (fails d) =
              let filled : 0 < x = omega (arith, eqb-false x 0 e) in
              let none : disagree ≡ 0 = omega (arith, ltb-false 0 disagree d) in
              rw (d, proposed_by_masks stage n online labels fit known x reached filled none)

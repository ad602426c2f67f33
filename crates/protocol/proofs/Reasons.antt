-- The reason that is given of a set is true, and no earlier one is; 'a candidate' is document 01's. Assumes nothing.
use mathlib.Core.Path.{◌≡◌, refl, sym, ◌∙◌, subst}
use mathlib.Core.Logic.{◌≢◌, inl, inr}
use mathlib.Core.Bool.{Bool, true, false, not, ◌&&◌, and-false}
use mathlib.Core.List.{List}
use Prim.Native.Nat.{ℕ, zero, suc, ◌<◌}
use native.Mathlib.Omega.{arith}
use lib.Dec.{eqb, ltb}
use borrow.Author.Tests.{eqb-true, eq-eqb, ltb-true, ltb-false, lt-ltb, not-true, not-false}
use Rattle.sets.specs.Sets.{has, below, lowest}
use Rattle.sets.proofs.Tests.{Test, passes, fails, test, clash, and_parts, positive}
use Rattle.sets.proofs.Membership.{has_empty}
use Rattle.sets.proofs.Operations.{has-difference}
use Rattle.sets.proofs.Bounds.{below_members}
use Rattle.sets.proofs.LowestMember.{lowest-has, lowest_least}
use Rattle.label.specs.declared.Label.{Label}
use Rattle.protocol.specs.declared.Reason.{Reason}
use Rattle.protocol.specs.declared.Reason.TheVariants.{NoReason, Empty, OutOfReach}
use Rattle.protocol.specs.declared.Reason.TheVariants.{Disagrees, NoneProposes, IsCandidate}
use Rattle.protocol.specs.Loops.{some}
use Rattle.protocol.specs.States.{label_at}
use Rattle.protocol.specs.Naming.{Stage, first, second, third, Backs, Proposes, Candidate, backs, proposes}
use Rattle.protocol.specs.Diagnosis.{reason_number, Says, unreachable, dissenters, reason_for, ReasonRight}
use Rattle.protocol.proofs.Loops.{or_last, some_member, some_is, some_not, has-disks_where}
use Rattle.protocol.proofs.Naming.{backs_if, if_backs, proposes_if}

-- ---- the lowest member that fails a test

-- the members of x that fail, as a set
module _ (x failing : ℕ) (p : ℕ → Bool) (is : (d : ℕ) → has failing d ≡ (has x d && not (p d))) where
  lowest_fails : 0 < failing
      → (has x (lowest failing) ≡ true) × (p (lowest failing) ≡ false)
      × ((e : ℕ) → e < lowest failing → has x e ≡ true → p e ≡ true)
  lowest_fails any =
      let (m, failed) = and_parts _ _ (sym (is (lowest failing)) ∙ lowest-has failing any) in
      (m, not-true _ failed, λ e l q. not-false _ (sym (is e ∙ rw q) ∙ lowest_least failing e l))

  pub none_fails : failing ≡ 0 → (d : ℕ) → has x d ≡ true → p d ≡ true
  none_fails e d m = not-false _ (sym (is d ∙ rw m) ∙ rw e (has_empty d))

-- ---- the reason

module _ (stage : Stage) (n online : ℕ) (labels : List Label) (x : ℕ) (known : below x n ≡ true) where
  abbrev backs_it_lem : ℕ → Bool
  backs_it_lem d = backs stage (label_at labels d) x

  abbrev proposes_it : ℕ → Bool
  proposes_it d = proposes stage (label_at labels d) x

  abbrev Told : Reason → Type 0
  Told = Says stage online labels x

  dissents : (d : ℕ) → has (dissenters stage n labels x) d ≡ (has x d && not (backs_it_lem d))
  unfolding dissenters
  dissents d = has-disks_where n _ d ∙ go (test (has x d))
    where
      go : Test (has x d) → (ltb d n && (has x d && not (backs_it_lem d))) ≡ (has x d && not (backs_it_lem d))
      go (passes m) = rw (lt-ltb d n ((below_members x n).0 known d m))
      go (fails m) = rw (m, and-false (ltb d n))

  -- what it says that the test of the reason with this number failed
  abbrev Failed : ℕ → Type 0
  Failed zero = Unit {0}
  Failed (suc zero) = 0 < x
  Failed (suc (suc zero)) = unreachable online x ≡ 0
  Failed (suc (suc (suc zero))) = dissenters stage n labels x ≡ 0
  Failed (suc (suc (suc (suc zero)))) = some n x proposes_it ≡ true
  Failed (suc (suc (suc (suc (suc k))))) = ⊥

  -- the tests before that number failed
  abbrev Before : ℕ → Type 0
  Before zero = Unit {0}
  Before (suc k) = Before k × Failed k

  failed : (k : ℕ) → Before k → (j : ℕ) → j < k → Failed j
  failed zero before j l = absurd (omega arith)
  failed (suc k) (before, last) j l = or_last Failed k j l (failed k before j) last

  -- a reason whose test is the first that held
  data Tested : Reason → Type 0 where
    empty : Before 1 → x ≡ 0 → Tested Empty
    apart : Before 2 → 0 < unreachable online x → Tested (OutOfReach (lowest (unreachable online x)))
    dissent : Before 3 → 0 < dissenters stage n labels x → Tested (Disagrees (lowest (dissenters stage n labels x)))
    unproposed : Before 4 → some n x proposes_it ≡ false → Tested NoneProposes
    fits : Before 5 → Tested IsCandidate

  before : {reason : Reason} → Tested reason → Before (reason_number reason)
  before (empty b e) = b
  before (apart b any) = b
  before (dissent b any) = b
  before (unproposed b e) = b
  before (fits b) = b

  tested : Tested (reason_for stage n online labels x)
  unfolding reason_for
  tested = go (test (eqb x 0)) (test (ltb 0 (unreachable online x))) (test (ltb 0 (dissenters stage n labels x)))
      (test (some n x proposes_it))
    where
      none_if : (set : ℕ) → ltb 0 set ≡ false → set ≡ 0
      none_if set e = omega (arith, ltb-false 0 set e)

      go : Test (eqb x 0) → Test (ltb 0 (unreachable online x)) → Test (ltb 0 (dissenters stage n labels x))
          → Test (some n x proposes_it) → Tested (reason_for stage n online labels x)
      go (passes p) a b c = rw p (empty (tt, tt) (eqb-true x 0 p))
      go (fails p) (passes a) b c = rw (p, a) (apart ((tt, tt), positive x p) (ltb-true 0 _ a))
      go (fails p) (fails a) (passes b) c =
          rw (p, a, b) (dissent (((tt, tt), positive x p), none_if _ a) (ltb-true 0 _ b))
      go (fails p) (fails a) (fails b) (fails c) =
          rw (p, a, b, c) (unproposed ((((tt, tt), positive x p), none_if _ a), none_if _ b) c)
      go (fails p) (fails a) (fails b) (passes c) =
          rw (p, a, b, c) (fits (((((tt, tt), positive x p), none_if _ a), none_if _ b), c))

  -- what a test that came out so says of members
  all_reached : unreachable online x ≡ 0 → (d : ℕ) → has x d ≡ true → has online d ≡ true
  all_reached = none_fails x (unreachable online x) (has online) (has-difference x online)

  all_back : dissenters stage n labels x ≡ 0 → (d : ℕ) → has x d ≡ true → Backs stage (label_at labels d) x
  all_back e d m = backs_if stage _ x (none_fails x (dissenters stage n labels x) backs_it_lem dissents e d m)

  -- a test that every label passes, some member passes
  always : 0 < x → (p : ℕ → Bool) → ((d : ℕ) → p d ≡ true) → some n x p ≡ true
  always filled p each =
      let member = lowest-has x filled in
      some_is n x p (lowest x) ((below_members x n).0 known (lowest x) member) member (each (lowest x))

  -- only stage 2 asks that some member proposes
  none_proposes : (asked : Stage) → 0 < x → some n x (λ d. proposes asked (label_at labels d) x) ≡ false
      → (asked ≡ second) × ((d : ℕ) → has x d ≡ true → (label_at labels d).tentative ≢ x)
  unfolding proposes
  none_proposes first filled e = clash (always filled _ (λ d. refl)) e
  none_proposes second filled e = (
    refl,
    λ d m z. clash (eq-eqb _ _ z) (some_not n x _ e d ((below_members x n).0 known d m) m),
  )
  none_proposes third filled e = clash (always filled _ (λ d. refl)) e

  proposal : (d : ℕ) → stage ≡ second → Proposes stage (label_at labels d) x → (label_at labels d).tentative ≡ x
  proposal d e = subst (λ asked. Proposes asked (label_at labels d) x) e

  -- ---- it is true

  told : {reason : Reason} → Tested reason → Told reason
  told (empty b e) = λ d. rw e (has_empty d)
  told (apart b any) =
      let (m, out, lower) = lowest_fails x (unreachable online x) (has online) (has-difference x online) any in
      (m, λ in_reach. clash in_reach out, lower)
  told (dissent b any) =
      let (m, against, lower) = lowest_fails x (dissenters stage n labels x) backs_it_lem dissents any in
      (m, λ z. clash (if_backs stage _ x z) against, λ e l q. backs_if stage _ x (lower e l q))
  told (unproposed ((b, reached), backed) e) = none_proposes stage b.1 e
  told (fits (((b, reached), backed), e)) =
      let (d, l, m, p) = some_member n x proposes_it e in
      record {
        filled = b.1;
        inside = all_reached reached;
        each = all_back backed;
        proposed = (d, m, proposes_if stage _ x p);
      }

  -- ---- no earlier one is

  refuted : (other : Reason) → Failed (reason_number other) → Told other → ⊥
  refuted NoReason f z = z
  refuted Empty filled none_in = clash (lowest-has x filled) (none_in (lowest x))
  refuted (OutOfReach d) reached (m, out, lower) = out (all_reached reached d m)
  refuted (Disagrees d) backed (m, against, lower) = against (all_back backed d m)
  refuted NoneProposes e (in_second, others) =
      let (d, _, m, p) = some_member n x proposes_it e in others d m (proposal d in_second (proposes_if stage _ x p))
  refuted IsCandidate f z = f

  earlier : {reason : Reason} → Tested reason → (other : Reason) → reason_number other < reason_number reason
      → Told other → ⊥
  earlier {reason} t other l = refuted other (failed (reason_number reason) (before t) (reason_number other) l)

  -- ---- 'a candidate' is one

  is_candidate : {reason : Reason} → Tested reason → Told reason → Candidate stage online labels x
      → reason ≡ IsCandidate
  is_candidate (empty b e) none_in c = absurd (omega (arith, c.filled))
  is_candidate (apart b any) (m, out, lower) c = absurd (out (c.inside _ m))
  is_candidate (dissent b any) (m, against, lower) c = absurd (against (c.each _ m))
  is_candidate (unproposed b e) (in_second, others) c =
      let (d, m, z) = c.proposed in absurd (others d m (proposal d in_second z))
  is_candidate (fits b) _ c = refl

  -- a set that only lacks a proposal is its members' C
  committed_by_all : Tested NoneProposes → Candidate third online labels x
  committed_by_all (unproposed ((b, reached), backed) e) =
      let (in_second, others) = none_proposes stage b.1 e in
      record {
        filled = b.1;
        inside = all_reached reached;
        each = λ d m. elim (subst (λ asked. Backs asked (label_at labels d) x) in_second (all_back backed d m))
            [ inl t ↦ absurd (others d m t) | inr c ↦ c ];
        proposed = (lowest x, lowest-has x b.1, tt);
      }

  pub lacks_proposal : reason_for stage n online labels x ≡ NoneProposes → Candidate third online labels x
  lacks_proposal e = committed_by_all (subst Tested e tested)

  pub reason_right : ReasonRight stage online labels x (reason_for stage n online labels x)
  reason_right = record {
    says = told tested;
    earliest = earlier tested;
    candidate = (λ e. subst Told e (told tested), is_candidate tested (told tested));
  }

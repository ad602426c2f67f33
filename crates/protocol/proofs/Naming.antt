-- The function that names a restart's set gives the answer of the paper's sentences, and they have no other. Assumes
-- nothing.
use mathlib.Core.Path.{◌≡◌, refl, sym, ap, ◌∙◌}
use mathlib.Core.Logic.{◌≢◌, ◌⊎◌, inl, inr}
use mathlib.Core.Bool.{Bool, true, cond, or-true}
use mathlib.Core.List.{List, [], ◌∷◌, ◌++◌, append-nil}
use Prim.Native.Nat.{ℕ, zero, suc, ◌^◌, ◌<◌}
use native.Mathlib.Omega.{arith}
use lib.Dec.{eqb, ltb}
use borrow.Author.Tests.{ltb-true, lt-ltb, eqb-true, eq-eqb}
use Rattle.sets.specs.Sets.{has, subset}
use Rattle.sets.proofs.Tests.{Test, passes, fails, test, clash, and_parts, same_or_not, or_either}
use Rattle.sets.proofs.Operations.{subset_members}
use Rattle.sets.proofs.Bounds.{member_below, below_pow, below_members}
use Rattle.label.specs.declared.Label.{Label}
use Rattle.protocol.specs.declared.State.{State}
use Rattle.protocol.specs.Loops.{ascending, every, some}
use Rattle.protocol.specs.States.{label_at}
use Rattle.protocol.specs.Soundness.{Sound}
use Rattle.protocol.specs.Naming.{Stage, first, second, third, Found, none, one, several, Backs, Proposes}
use Rattle.protocol.specs.Naming.{Candidate, Exactly, no_set, one_set, several_sets, Decides, here}
use Rattle.protocol.specs.Naming.{further, nowhere, stages, Names, backs, proposes, candidate, candidates}
use Rattle.protocol.specs.Naming.{found_in, or_later, decide, named, NamedAsDefined, found_by}
use Rattle.protocol.proofs.Loops.{every_at, every_of, some_member, some_is, Each, nil, cons}

-- ---- the test of a candidate

pub backs_if : (stage : Stage) (l : Label) (x : ℕ) → backs stage l x ≡ true → Backs stage l x
unfolding backs
backs_if first l x e = eqb-true _ _ e
backs_if second l x e = go (or_either (eqb l.tentative x) (eqb l.committed x) e)
  where
    go : (eqb l.tentative x ≡ true) ⊎ (eqb l.committed x ≡ true) → Backs second l x
    go (inl q) = inl (eqb-true _ _ q)
    go (inr q) = inr (eqb-true _ _ q)
backs_if third l x e = eqb-true _ _ e

pub if_backs : (stage : Stage) (l : Label) (x : ℕ) → Backs stage l x → backs stage l x ≡ true
unfolding backs
if_backs first l x e = eq-eqb _ _ e
if_backs second l x (inl e) = rw (eq-eqb _ _ e)
if_backs second l x (inr e) = rw (eq-eqb _ _ e) (or-true (eqb l.tentative x))
if_backs third l x e = eq-eqb _ _ e

pub proposes_if : (stage : Stage) (l : Label) (x : ℕ) → proposes stage l x ≡ true → Proposes stage l x
unfolding proposes
proposes_if first l x e = tt
proposes_if second l x e = eqb-true _ _ e
proposes_if third l x e = tt

if_proposes : (stage : Stage) (l : Label) (x : ℕ) → Proposes stage l x → proposes stage l x ≡ true
unfolding proposes
if_proposes first l x e = refl
if_proposes second l x e = eq-eqb _ _ e
if_proposes third l x e = refl

module _ (stage : Stage) (n online : ℕ) (labels : List Label) (known : online < 2 ^ n) where
  abbrev IsCandidate : ℕ → Type 0
  IsCandidate x = candidate stage n online labels x ≡ true

  pub candidate_if : (x : ℕ) → IsCandidate x → Candidate stage online labels x
  unfolding candidate
  candidate_if x e =
      let (p, e1) = and_parts (ltb 0 x) _ e in
      let (q, e2) = and_parts (subset x online) _ e1 in
      let (r, t) = and_parts (every n x (λ d. backs stage (label_at labels d) x))
      (some n x (λ d. proposes stage (label_at labels d) x)) e2 in
      let inside = (subset_members x online).0 q in
      let (d, l, m, z) = some_member n x _ t in
      record {
        filled = ltb-true _ _ p;
        inside = inside;
        each = λ d m. backs_if stage _ x (every_at n x _ r d (member_below online n d known (inside d m)) m);
        proposed = (d, m, proposes_if stage _ x z);
      }

  pub candidate_below : (x : ℕ) → Candidate stage online labels x → (d : ℕ) → has x d ≡ true → d < n
  candidate_below x c d m = member_below online n d known (c.inside d m)

  pub if_candidate : (x : ℕ) → Candidate stage online labels x → IsCandidate x
  unfolding candidate
  if_candidate x c =
      let (d, m, z) = c.proposed in
      rw (
        lt-ltb 0 x c.filled,
        (subset_members x online).1 c.inside,
        every_of n x (λ d. backs stage (label_at labels d) x) (λ d l m. if_backs stage _ x (c.each d m)),
        some_is n x (λ d. proposes stage (label_at labels d) x) d (candidate_below x c d m) m (if_proposes stage _ x z),
      )

-- ---- how many there are

pub exactly_map : {P Q : ℕ → Type 0} {f : Found} → ((x : ℕ) → P x → Q x) → ((x : ℕ) → Q x → P x) → Exactly P f
    → Exactly Q f
exactly_map to from (no_set h) = no_set (λ x q. h x (from x q))
exactly_map to from (one_set {x} p u) = one_set (to x p) (λ y q. u y (from y q))
exactly_map to from (several_sets {x} {y} p q ne) = several_sets (to x p) (to y q) ne

exactly_same : {P : ℕ → Type 0} {f g : Found} → Exactly P f → Exactly P g → f ≡ g
exactly_same (no_set h) (no_set k) = refl
exactly_same (no_set h) (one_set p u) = absurd (h _ p)
exactly_same (no_set h) (several_sets p q ne) = absurd (h _ p)
exactly_same (one_set p u) (no_set k) = absurd (k _ p)
exactly_same (one_set p u) (one_set q v) = ap one (v _ p)
exactly_same (one_set p u) (several_sets q r ne) = absurd (ne (u _ q ∙ sym (u _ r)))
exactly_same (several_sets p q ne) (no_set k) = absurd (k _ p)
exactly_same (several_sets p q ne) (one_set r v) = absurd (ne (v _ p ∙ sym (v _ q)))
exactly_same (several_sets p q ne) (several_sets r t me) = refl

-- the sets below a bound that pass, listed
module _ (p : ℕ → Bool) where
  abbrev Below : ℕ → ℕ → Type 0
  Below i x = (x < i) × (p x ≡ true)

  up : (i x : ℕ) → Below i x → Below (suc i) x
  up i x (l, e) = (omega arith, e)

  down : (i x : ℕ) → Below (suc i) x → (x ≡ i) ⊎ Below i x
  down i x (l, e) = go (same_or_not x i)
    where
      go : (x ≡ i) ⊎ (x ≢ i) → (x ≡ i) ⊎ Below i x
      go (inl q) = inl q
      go (inr q) = inr (omega arith, e)

  listed : (i : ℕ) → Exactly (Below i) (found_in (ascending i (λ x. cond (p x) (x ∷ []) [])))
  unfolding ascending found_in
  listed zero = no_set (λ x (l, e). omega arith)
  listed (suc i) = go (ascending i (λ x. cond (p x) (x ∷ []) [])) (listed i) (test (p i))
    where
      more : p i ≡ true → (xs : List ℕ) → Exactly (Below i) (found_in xs)
          → Exactly (Below (suc i)) (found_in (xs ++ i ∷ []))
      more e [] (no_set h) =
          one_set {x = i} (omega arith, e) (λ y b. elim (down i y b) [ inl q ↦ q | inr c ↦ absurd (h y c) ])
      more e (y ∷ []) (one_set b u) =
          several_sets {x = y} {y = i} (up i y b) (omega arith, e) (λ q. omega (arith, b.0))
      more e (u ∷ v ∷ xs) (several_sets {x} {y} b d ne) = several_sets (up i x b) (up i y d) ne

      go : (xs : List ℕ) → Exactly (Below i) (found_in xs) → Test (p i)
          → Exactly (Below (suc i)) (found_in (xs ++ cond (p i) (i ∷ []) []))
      go xs h (passes e) = rw e (more e xs h)
      go xs h (fails e) =
          rw (e, append-nil) (exactly_map (up i)
          (λ x b. elim (down i x b) [ inl q ↦ clash b.1 (rw q e) | inr c ↦ c ]) h)

module _ (n online : ℕ) (labels : List Label) (known : online < 2 ^ n) where
  -- a candidate is one of the sets of disks below n
  in_list : (stage : Stage) (x : ℕ) → Candidate stage online labels x → x < 2 ^ n
  in_list stage x c = (below_pow x n).0 ((below_members x n).1 (candidate_below stage n online labels known x c))

  stage_right : (stage : Stage) → Exactly (Candidate stage online labels) (found_in (candidates stage n online labels))
  unfolding candidates
  stage_right stage =
      exactly_map (λ x b. candidate_if stage n online labels known x b.1)
      (λ x c. (in_list stage x c, if_candidate stage n online labels known x c))
      (listed (candidate stage n online labels) (2 ^ n))

-- ---- the first stage that decides

one_not_none : (x : ℕ) → one x ≢ none
one_not_none x e = absurd (let z : ◌≡◌ {A = ℕ} 0 1 = cc in omega arith)

several_not_none : several ≢ none
several_not_none e = absurd (let z : ◌≡◌ {A = ℕ} 0 1 = cc in omega arith)

-- after the last stage there is nothing more to find
pub found_last : (f : Found) → or_later f none ≡ f
unfolding or_later
found_last none = refl
found_last (one x) = refl
found_last several = refl

-- what finds exactly the candidates of each stage gives the answer of these stages ..
module _ (online : ℕ) (labels : List Label) (found : Stage → Found)
    (right : (stage : Stage) → Exactly (Candidate stage online labels) (found stage)) where
  pub decide_right : (stages : List Stage) → Decides online labels stages (decide found stages)
  unfolding decide or_later
  decide_right [] = nowhere
  decide_right (stage ∷ later) = go (found stage) (right stage) (decide_right later)
    where
      go : (f : Found) → Exactly (Candidate stage online labels) f → Decides online labels later (decide found later)
          → Decides online labels (stage ∷ later) (or_later f (decide found later))
      go none e ih = further e ih
      go (one x) e ih = here (one_not_none x) e
      go several e ih = here several_not_none e

-- .. and they have no other
pub decides_same : {online : ℕ} {labels : List Label} {stages : List Stage} {f g : Found}
    → Decides online labels stages f → Decides online labels stages g → f ≡ g
decides_same (here a p) (here b q) = exactly_same p q
decides_same (here a p) (further q h) = absurd (a (exactly_same p q))
decides_same (further p h) (here b q) = absurd (b (exactly_same q p))
decides_same (further p h) (further q k) = decides_same h k
decides_same nowhere nowhere = refl

-- where they name none, no stage has a candidate
no_candidates : {online : ℕ} {labels : List Label} {stages : List Stage} → Decides online labels stages none
    → Each (λ stage. (x : ℕ) → Candidate stage online labels x → ⊥) stages
no_candidates (here ne e) = absurd (ne refl)
no_candidates (further (no_set h) later) = cons h (no_candidates later)
no_candidates nowhere = nil

pub no_candidate : {online : ℕ} {labels : List Label} → Names online labels none → (stage : Stage) (x : ℕ)
    → Candidate stage online labels x → ⊥
no_candidate {online} {labels} names stage = go stage (no_candidates names)
  where
    go : (stage : Stage) → Each (λ each. (x : ℕ) → Candidate each online labels x → ⊥) stages → (x : ℕ)
        → Candidate stage online labels x → ⊥
    go first (cons a later) = a
    go second (cons a (cons b later)) = b
    go third (cons a (cons b (cons c later))) = c

pub named_names : (n online : ℕ) (labels : List Label) → online < 2 ^ n → Names online labels (named n online labels)
unfolding named
named_names n online labels known =
    decide_right online labels (λ stage. found_in (candidates stage n online labels))
    (stage_right n online labels known)
    stages

-- what a restart of a sound state finds
pub found_names : (s : State) → Sound s → Names s.online s.labels (found_by s)
unfolding found_by
found_names s fit =
    named_names s.disks s.online s.labels ((below_pow s.online s.disks).0 fit.online)

pub named_as_defined : NamedAsDefined
named_as_defined = record { answers = found_names; only = λ s fit f h. decides_same h (found_names s fit) }

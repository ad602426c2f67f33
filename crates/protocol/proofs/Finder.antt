-- The lists of sets to test are right, and the finder gives what the definition names, for every n. Assumes nothing.
use mathlib.Core.Path.{◌≡◌, refl, sym, ◌∙◌}
use mathlib.Core.Logic.{◌≢◌, inl, inr, ∥∥₁_elim}
use mathlib.Core.HLevel.{⊥_prop}
use mathlib.Core.Bool.{Bool, true, false, cond, not}
use mathlib.Core.List.Memᴰ
use mathlib.Core.List.{List, [], ◌∷◌, ◌++◌, Memᴰ}
use mathlib.Core.List.{Nodup, Nodup-nil, Nodup-cons}
use mathlib.Core.List.{Nodup-append, not-mem-nil}
use Prim.Native.Nat.{ℕ, zero, suc, ◌^◌, ◌≤◌, ◌<◌}
use native.Mathlib.Omega.{arith}
use lib.Dec.{eqb, ltb}
use lib.ListN.{length}
use borrow.Author.Tests.{eqb-true, eq-eqb, lt-ltb, not-true}
use Rattle.sets.proofs.Tests.{Test, passes, fails, test, clash, and_parts}
use Rattle.sets.proofs.Bounds.{below_pow}
use Rattle.label.specs.declared.Label.{Label}
use Rattle.protocol.specs.declared.State.{State}
use Rattle.protocol.specs.Geometry.{most_disks}
use Rattle.protocol.specs.Loops.{ascending}
use Rattle.protocol.specs.Soundness.{Sound}
use Rattle.protocol.specs.Naming.{Stage, first, second, third, none, Backs, Proposes, Candidate, Exactly}
use Rattle.protocol.specs.Naming.{no_set, one_set, several_sets, candidate, found_in, stages, found_by}
use Rattle.protocol.specs.Finder.{tried, tried_at, repeated, is_listed, shortlist, ShortlistRight}
use Rattle.protocol.specs.Finder.{passing, among, find, FindsNamed}
use Rattle.protocol.proofs.Loops.{some_at, some_of, nothing_before, length_if, ascending-length}
use Rattle.protocol.proofs.Loops.{ascending_lists, lists_ascending}
use Rattle.protocol.proofs.Naming.{candidate_if, candidate_below, if_candidate}
use Rattle.protocol.proofs.Naming.{exactly_map, decide_right, decides_same, named_names}

-- ---- the set of a label that a stage may test

-- it is what a member's label must have ..
pub is_tried : (stage : Stage) (l : Label) (x : ℕ) → Backs stage l x → Proposes stage l x → tried stage l ≡ x
unfolding tried
is_tried first l x e z = e
is_tried second l x e z = z
is_tried third l x e z = e

-- .. and what some member's must
pub tried-proposes : (stage : Stage) (l : Label) (x : ℕ) → tried stage l ≡ x → Proposes stage l x
unfolding tried
tried-proposes first l x e = tt
tried-proposes second l x e = e
tried-proposes third l x e = tt

-- ---- the lists

module _ (stage : Stage) (labels : List Label) where
  abbrev at : ℕ → ℕ
  at = tried_at stage labels

  -- the lowest of the disks that have a set
  lowest_with : (k d x : ℕ) → d < k → at d ≡ x → (e : ℕ) × (e ≤ d) × (at e ≡ x) × (repeated stage labels e ≡ false)
  unfolding repeated
  lowest_with zero d x l same = absurd (omega arith)
  lowest_with (suc k) d x l same = go (lowest_with k) (test (repeated stage labels d))
    where
      go : ((e y : ℕ) → e < k → at e ≡ y → (i : ℕ) × (i ≤ e) × (at i ≡ y) × (repeated stage labels i ≡ false))
          → Test (repeated stage labels d) → (e : ℕ) × (e ≤ d) × (at e ≡ x) × (repeated stage labels e ≡ false)
      go lower (fails p) = (d, omega arith, same, p)
      go lower (passes p) =
          let (e, before, q) = some_at _ (λ e. eqb (at d) (at e)) p in
          let (i, le, here, new) = lower e x (omega arith) (sym (eqb-true _ _ q) ∙ same) in
          (i, omega arith, here, new)

  every_candidate : (n online : ℕ) → online < 2 ^ n → (x : ℕ) → Candidate stage online labels x
      → Memᴰ x (shortlist stage n labels)
  unfolding shortlist
  every_candidate n online known x c =
      let (d, m, z) = c.proposed in
      let below = candidate_below stage n online labels known x c d m in
      let (e, le, here, new) = lowest_with (suc d) d x (omega arith) (is_tried stage _ x (c.each d m) z) in
      lists_ascending (is_listed stage labels) at _ e x (omega arith) (rw (here, lt-ltb 0 x c.filled, new)) here

  pub few : (n : ℕ) → length (shortlist stage n labels) ≤ n
  unfolding shortlist
  few n = ascending-length n _ (λ d. length_if (is_listed stage labels d) (at d))

  -- a set of the list is that of a disk
  of_disk : (n x : ℕ) → Memᴰ x (shortlist stage n labels) → (d : ℕ) × (d < n) × (at d ≡ x)
  unfolding shortlist
  of_disk n x m = let (d, l, p, e) = ascending_lists (is_listed stage labels) at n x m in (d, l, e)

  -- one that a lower disk has is not listed again
  listed_before : (n x : ℕ) → Memᴰ x (shortlist stage n labels)
      → Memᴰ x (cond (is_listed stage labels n) (at n ∷ []) []) → ⊥
  unfolding repeated
  listed_before n x m last = go (is_listed stage labels n) refl last (of_disk n x m)
    where
      go : (b : Bool) → is_listed stage labels n ≡ b → Memᴰ x (cond b (at n ∷ []) [])
          → (d : ℕ) × (d < n) × (at d ≡ x) → ⊥
      go false e here below = Memᴰ.not-nil here
      go true e here (d, l, same) =
          let again = some_of n (λ e. eqb (at n) (at e)) d l
          (eq-eqb _ _ (sym (Memᴰ.eq_of_singleton here) ∙ sym same)) in
          clash again (not-true _ (and_parts (ltb 0 (at n)) (not (repeated stage labels n)) e).1)

  once : (n : ℕ) → Nodup (shortlist stage n labels)
  unfolding shortlist ascending
  once zero = Nodup-nil
  once (suc n) =
      Nodup-append.1 (
        once n,
        single (is_listed stage labels n),
        λ x m last. ∥∥₁_elim m ⊥_prop (λ p. ∥∥₁_elim last ⊥_prop (listed_before n x p)),
      )
    where
      single : (b : Bool) → Nodup (cond b (at n ∷ []) [])
      single true = Nodup-cons.1 (not-mem-nil, Nodup-nil)
      single false = Nodup-nil

pub shortlist_right : ShortlistRight
shortlist_right = record {
  few = λ stage n labels. few stage labels n;
  once = λ stage n labels. once stage labels n;
  every_candidate = λ stage n online labels. every_candidate stage labels n online;
}

-- ---- the finder

module _ (p : ℕ → Bool) where
  abbrev Passes : List ℕ → ℕ → Type 0
  Passes xs x = Memᴰ x xs × (p x ≡ true)

  further : (y : ℕ) (xs : List ℕ) (x : ℕ) → Passes xs x → Passes (y ∷ xs) x
  further y xs x (m, e) = (Memᴰ.tail m, e)

  -- of a list without repetition as many pass as are found
  passing_right : (xs : List ℕ) → Nodup xs → Exactly (Passes xs) (found_in (passing p xs))
  unfolding passing found_in
  passing_right [] once = no_set (λ x (m, e). Memᴰ.not-nil m)
  passing_right (y ∷ xs) once = go (passing p xs) (passing_right xs (Nodup-cons.0 once).1) (test (p y))
    where
      others : (x : ℕ) → Passes xs x → y ≢ x
      others x (m, e) same = (Nodup-cons.0 once).0 ∣ rw same m ∣₁

      one_more : p y ≡ true → (found : List ℕ) → Exactly (Passes xs) (found_in found)
          → Exactly (Passes (y ∷ xs)) (found_in (y ∷ found))
      one_more e [] (no_set h) =
          one_set (Memᴰ.head refl, e)
          (λ x (m, q). elim (Memᴰ.cases_cons m) [ inl same ↦ same | inr k ↦ absurd (h x (k, q)) ])
      one_more e (z ∷ []) (one_set h u) = several_sets (Memᴰ.head refl, e) (further y xs z h) (others z h)
      one_more e (z ∷ v ∷ found) (several_sets {x = a} {y = b} h k ne) =
          several_sets (further y xs a h) (further y xs b k) ne

      go : (found : List ℕ) → Exactly (Passes xs) (found_in found) → Test (p y)
          → Exactly (Passes (y ∷ xs)) (found_in (cond (p y) (y ∷ found) found))
      go found h (passes e) = rw e (one_more e found h)
      go found h (fails e) =
          rw e (exactly_map (further y xs)
          (λ x (m, q). elim (Memᴰ.cases_cons m) [ inl same ↦ clash (rw same at q) e | inr k ↦ (k, q) ]) h)

pub passing_append : (p : ℕ → Bool) (xs ys : List ℕ) → passing p (xs ++ ys) ≡ passing p xs ++ passing p ys
unfolding passing
passing_append p [] ys = refl
passing_append p (x ∷ xs) ys = rw (passing_append p xs ys) (go (p x))
  where
    go : (t : Bool) → cond t (x ∷ (passing p xs ++ passing p ys)) (passing p xs ++ passing p ys)
        ≡ cond t (x ∷ passing p xs) (passing p xs) ++ passing p ys
    go true = refl
    go false = refl

module _ (n online : ℕ) (labels : List Label) (known : online < 2 ^ n) where
  among_right : (stage : Stage) → Exactly (Candidate stage online labels) (among stage n online labels)
  unfolding among
  among_right stage =
      exactly_map
      (λ x (m, e). candidate_if stage n online labels known x e)
      (λ x c. (every_candidate stage labels n online known x c, if_candidate stage n online labels known x c))
      (passing_right (candidate stage n online labels) (shortlist stage n labels) (once stage labels n))

-- a stage without a set to test
pub nothing_listed : (stage : Stage) (n online : ℕ) (labels : List Label)
    → ((d : ℕ) → d < n → tried_at stage labels d ≡ 0) → among stage n online labels ≡ none
unfolding among shortlist passing found_in
nothing_listed stage n online labels empty =
    let f : ℕ → List ℕ = λ d. cond (is_listed stage labels d) (tried_at stage labels d ∷ []) [] in
    rw (nothing_before f n (λ d l. rw (empty d l)) n (omega arith))

pub finds_named : FindsNamed
unfolding find
finds_named n online labels known =
    decides_same
    (decide_right online labels (λ stage. among stage n online labels) (among_right n online labels known) stages)
    (named_names n online labels known)

-- ---- of a sound state

pub in_bounds : (s : State) → Sound s → (s.disks ≤ most_disks) × (s.online < 2 ^ s.disks)
in_bounds s fit = (fit.range.disks, (below_pow s.online s.disks).0 fit.online)

pub finds_found : (s : State) → Sound s → find s.disks s.online s.labels ≡ found_by s
unfolding found_by
finds_found s fit = finds_named s.disks s.online s.labels (in_bounds s fit).1

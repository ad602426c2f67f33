-- A stage's list in one pass over the labels, with the set of the disks whose set was tested: which sets the list has,
-- and what was found among them. The code had this form before it made the list first. Assumes nothing.
use mathlib.Core.Path.{◌≡◌, sym, ap, ◌∙◌}
use mathlib.Core.Bool.{Bool, true, false, cond, not, ◌&&◌, ◌||◌, or-false}
use mathlib.Core.List.{List, [], ◌∷◌, ◌++◌, append-nil}
use Prim.Native.Nat.{ℕ, suc, ◌<◌}
use native.Mathlib.Omega.{arith}
use lib.Dec.{eqb, ltb}
use borrow.Author.Tests.{eqb-true, lt-ltb, ltb-true, not-false}
use Rattle.sets.specs.Sets.{has, union}
use Rattle.sets.proofs.Tests.{Test, passes, fails, test}
use Rattle.sets.proofs.Operations.{has-union}
use Rattle.label.specs.declared.Label.{Label}
use Rattle.protocol.specs.Geometry.{most_disks}
use Rattle.protocol.specs.Loops.{ascending, some_below}
use Rattle.protocol.specs.Naming.{Stage, Found, found_in}
use Rattle.protocol.specs.Finder.{tried_at, repeated, is_listed, shortlist, passing}
use Rattle.protocol.proofs.Finder.{passing_append}
use Rattle.finder.specs.Masks.{holders}
use Rattle.finder.specs.Found.{another}
use Rattle.finder.proofs.Masks.{has-holders}
use Rattle.finder.proofs.Walk.{found_more}

-- ---- what was found

module _ (stage : Stage) (labels : List Label) (p : ℕ → Bool) where
  -- among the sets of the first disks
  abbrev pub found_before : ℕ → Found
  found_before d = found_in (passing p (shortlist stage d labels))

  pub not_listed : (d : ℕ) → is_listed stage labels d ≡ false → found_before (suc d) ≡ found_before d
  unfolding shortlist ascending
  not_listed d e = rw (e, append-nil)

  pub listed : (d : ℕ) → is_listed stage labels d ≡ true
      → found_before (suc d)
      ≡ cond (p (tried_at stage labels d)) (another (found_before d) (tried_at stage labels d)) (found_before d)
  unfolding shortlist ascending passing
  listed d e = rw (e, passing_append p (shortlist stage d labels)) (go (p (tried_at stage labels d)))
    where
      go : (t : Bool) → found_in (passing p (shortlist stage d labels) ++ cond t (tried_at stage labels d ∷ []) [])
          ≡ cond t (another (found_before d) (tried_at stage labels d)) (found_before d)
      go true = found_more (passing p (shortlist stage d labels)) (tried_at stage labels d)
      go false = ap found_in (append-nil (passing p (shortlist stage d labels)))

-- ---- which sets were tested

module _ (stage : Stage) (labels : List Label) where
  -- The disks whose set, which is not empty, one of the first disks has.
  abbrev pub Seen : ℕ → ℕ → Type 0
  Seen d seen = (e : ℕ) → e < most_disks → 0 < tried_at stage labels e
      → has seen e ≡ some_below d (λ i. eqb (tried_at stage labels e) (tried_at stage labels i))

  pub seen_more : (d seen : ℕ) → Seen d seen
      → Seen (suc d) (union seen (holders stage labels (tried_at stage labels d)))
  unfolding some_below
  seen_more d seen before e l some =
      has-union seen _ e ∙ rw (before e l some, has-holders stage labels _ e, lt-ltb e most_disks l)

  -- the test of the code is that of the list
  pub is_listed_lem : (d seen : ℕ) → Seen d seen → d < most_disks
      → (ltb 0 (tried_at stage labels d) && not (has seen d)) ≡ is_listed stage labels d
  unfolding repeated
  is_listed_lem d seen before l = go (test (ltb 0 (tried_at stage labels d)))
    where
      go : Test (ltb 0 (tried_at stage labels d))
          → (ltb 0 (tried_at stage labels d) && not (has seen d)) ≡ is_listed stage labels d
      go (fails e) = rw e
      go (passes e) = rw (before d l (ltb-true 0 _ e))

  -- a set that is not listed adds nothing
  pub seen_again : (d seen : ℕ) → Seen d seen → is_listed stage labels d ≡ false → Seen (suc d) seen
  unfolding some_below repeated
  seen_again d seen before skipped e l some =
      before e l some ∙ go (test (eqb (tried_at stage labels e) (tried_at stage labels d)))
    where
      earlier : ℕ → Bool
      earlier x = some_below d (λ i. eqb x (tried_at stage labels i))

      go : Test (eqb (tried_at stage labels e) (tried_at stage labels d))
          → earlier (tried_at stage labels e)
          ≡ (earlier (tried_at stage labels e) || eqb (tried_at stage labels e) (tried_at stage labels d))
      go (fails q) = rw q (sym (or-false (earlier (tried_at stage labels e))))
      go (passes q) =
          let same : tried_at stage labels e ≡ tried_at stage labels d = eqb-true _ _ q in
          let filled = lt-ltb 0 (tried_at stage labels d) (omega (arith, same, some)) in
          let again : earlier (tried_at stage labels d) ≡ true = not-false _ (rw filled at skipped) in
          rw (ap earlier same ∙ again)

-- Document 02, 2.4: "list for each stage at most n sets to test, proved to hold every candidate of that stage". The
-- finder tests the sets of these lists and no other: of its code one function promises the list, another what is found
-- among the sets of any list that it is given.
use Rattle.std.specs.Prelude.{◌≡◌, Bool, cond, not, ◌&&◌, ℕ, ◌^◌, ◌≤◌, ◌<◌, eqb, ltb, length}
use mathlib.Core.List.{List, [], ◌∷◌, Memᴰ, Nodup}
use Rattle.label.specs.declared.Label.{Label}
use Rattle.protocol.specs.Loops.{ascending, some_below}
use Rattle.protocol.specs.States.{label_at}
use Rattle.protocol.specs.Naming.{Stage, first, second, third, Found, Candidate, candidate, found_in}
use Rattle.protocol.specs.Naming.{stages, decide, named}

-- ---- the lists

-- the set of a disk's label that a stage may test: in stage 2 that of a member that has it as its T
unfoldable pub tried : Stage → Label → ℕ
tried first l = l.tentative
tried second l = l.tentative
tried third l = l.committed

module _ (stage : Stage) (labels : List Label) where
  abbrev pub tried_at : ℕ → ℕ
  tried_at d = tried stage (label_at labels d)

  -- a disk below d has the same set
  unfoldable pub repeated : ℕ → Bool
  repeated d = some_below d (λ e. eqb (tried_at d) (tried_at e))

  -- d has a set, and no disk below d has the same
  abbrev pub is_listed : ℕ → Bool
  is_listed d = ltb 0 (tried_at d) && not (repeated d)

-- the sets to test: those of the disks, ascending, each once
unfoldable pub shortlist : Stage → ℕ → List Label → List ℕ
shortlist stage n labels = ascending n (λ d. cond (is_listed stage labels d) (tried_at stage labels d ∷ []) [])

-- "at most n sets to test, proved to hold every candidate of that stage": for every n, labels and reach of n disks
pub record ShortlistRight : Type 0 where
  pub few : (stage : Stage) (n : ℕ) (labels : List Label) → length (shortlist stage n labels) ≤ n
  -- disks that share a set do not make it two candidates
  pub once : (stage : Stage) (n : ℕ) (labels : List Label) → Nodup (shortlist stage n labels)
  pub every_candidate : (stage : Stage) (n online : ℕ) (labels : List Label) → online < 2 ^ n
      → (x : ℕ) → Candidate stage online labels x → Memᴰ x (shortlist stage n labels)

-- ---- the finder

-- the sets of a list that pass a test
unfoldable pub passing : (ℕ → Bool) → List ℕ → List ℕ
passing p [] = []
passing p (x ∷ xs) = cond (p x) (x ∷ passing p xs) (passing p xs)

-- what is found among the sets of any list: which of them are candidates of the stage. One that is on it twice is two.
unfoldable pub found_among : Stage → ℕ → ℕ → List Label → List ℕ → Found
found_among stage n online labels xs = found_in (passing (candidate stage n online labels) xs)

-- what a stage finds: which sets of its list are candidates
unfoldable pub among : Stage → ℕ → ℕ → List Label → Found
among stage n online labels = found_in (passing (candidate stage n online labels) (shortlist stage n labels))

unfoldable pub find : ℕ → ℕ → List Label → Found
find n online labels = decide (λ stage. among stage n online labels) stages

-- It finds what the definition over all sets names, for every n.
abbrev pub FindsNamed : Type 0
FindsNamed = (n online : ℕ) (labels : List Label) → online < 2 ^ n → find n online labels ≡ named n online labels

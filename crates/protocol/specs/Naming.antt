-- Document 01, "Which set a restart names". "The definition speaks of all sets X and not of a search."
use Rattle.std.specs.Prelude.{◌≡◌, ◌≢◌, ◌⊎◌, Bool, true, cond, ◌&&◌, ◌||◌, List, [], ◌∷◌, ℕ, ◌^◌, ◌<◌, eqb, ltb}
use Rattle.sets.specs.Sets.{has, subset}
use Rattle.label.specs.declared.Label.{Label}
use Rattle.protocol.specs.declared.State.{State}
use Rattle.protocol.specs.Loops.{ascending, every, some}
use Rattle.protocol.specs.States.{label_at}
use Rattle.protocol.specs.Soundness.{Sound}

pub data Stage : Type 0 where
  first second third : Stage

abbrev pub stage_number : Stage → ℕ
stage_number first = 1
stage_number second = 2
stage_number third = 3

-- What the labels of disks in reach name.
pub data Found : Type 0 where
  none : Found
  one : ℕ → Found
  several : Found

-- ---- the paper's sentences, of any set X

-- what a stage asks of each member's label ..
abbrev pub Backs : Stage → Label → ℕ → Type 0
-- "every member has T = X"
Backs first l x = l.tentative ≡ x
-- "every member has T = X or C = X"
Backs second l x = (l.tentative ≡ x) ⊎ (l.committed ≡ x)
-- "every member has C = X"
Backs third l x = l.committed ≡ x

-- .. and that some member's has
abbrev pub Proposes : Stage → Label → ℕ → Type 0
Proposes first l x = Unit {0}
-- "and some member has T = X"
Proposes second l x = l.tentative ≡ x
Proposes third l x = Unit {0}

-- "A candidate is a non_empty set X inside R."
pub record Candidate (stage : Stage) (online : ℕ) (labels : List Label) (x : ℕ) : Type 0 where
  pub filled : 0 < x
  pub inside : (d : ℕ) → has x d ≡ true → has online d ≡ true
  pub each : (d : ℕ) → has x d ≡ true → Backs stage (label_at labels d) x
  pub proposed : (d : ℕ) × (has x d ≡ true) × Proposes stage (label_at labels d) x

-- how many sets have a property, and which one if it is one
pub data Exactly (P : ℕ → Type 0) : Found → Type 0 where
  no_set : ((x : ℕ) → P x → ⊥) → Exactly P none
  one_set : {x : ℕ} → P x → ((y : ℕ) → P y → y ≡ x) → Exactly P (one x)
  several_sets : {x y : ℕ} → P x → P y → x ≢ y → Exactly P several

-- "The first stage with a candidate decides: one candidate is the set, more than one is refused with 14. No candidate
-- in any stage is 13."
pub data Decides (online : ℕ) (labels : List Label) : List Stage → Found → Type 0 where
  here : {stage : Stage} {later : List Stage} {f : Found} → f ≢ none → Exactly (Candidate stage online labels) f
      → Decides online labels (stage ∷ later) f
  further : {stage : Stage} {later : List Stage} {f : Found}
      → Exactly (Candidate stage online labels) none → Decides online labels later f
      → Decides online labels (stage ∷ later) f
  nowhere : Decides online labels [] none

abbrev pub stages : List Stage
stages = first ∷ second ∷ third ∷ []

-- what a restart names, with these disks in reach and these labels
abbrev pub Names : ℕ → List Label → Found → Type 0
Names online labels f = Decides online labels stages f

-- ---- the same as a function: the candidates of a stage are listed, of all the 2 ^ n sets of disks below n

unfoldable pub backs : Stage → Label → ℕ → Bool
backs first l x = eqb l.tentative x
backs second l x = eqb l.tentative x || eqb l.committed x
backs third l x = eqb l.committed x

unfoldable pub proposes : Stage → Label → ℕ → Bool
proposes first l x = true
proposes second l x = eqb l.tentative x
proposes third l x = true

unfoldable pub candidate : Stage → ℕ → ℕ → List Label → ℕ → Bool
candidate stage n online labels x =
    ltb 0 x
    && (subset x online
    && (every n x (λ d. backs stage (label_at labels d) x)
    && some n x (λ d. proposes stage (label_at labels d) x)))

unfoldable pub candidates : Stage → ℕ → ℕ → List Label → List ℕ
candidates stage n online labels = ascending (2 ^ n) (λ x. cond (candidate stage n online labels x) (x ∷ []) [])

-- what a list of different sets amounts to
unfoldable pub found_in : List ℕ → Found
found_in [] = none
found_in (x ∷ []) = one x
found_in (x ∷ y ∷ more) = several

unfoldable pub or_later : Found → Found → Found
or_later none later = later
or_later (one x) later = one x
or_later several later = several

-- the first of these stages in which something is found decides
unfoldable pub decide : (Stage → Found) → List Stage → Found
decide found [] = none
decide found (stage ∷ later) = or_later (found stage) (decide found later)

unfoldable pub named : ℕ → ℕ → List Label → Found
named n online labels = decide (λ stage. found_in (candidates stage n online labels)) stages

-- what a restart at this moment finds
unfoldable pub found_by : State → Found
found_by s = named s.disks s.online s.labels

-- Of every sound state, what a restart finds is what the paper's sentences say, and they say nothing else.
pub record NamedAsDefined : Type 0 where
  pub answers : (s : State) → Sound s → Names s.online s.labels (found_by s)
  pub only : (s : State) → Sound s → (f : Found) → Names s.online s.labels f → f ≡ found_by s

-- ---- "a definition gives this paper's number and values for each of its cases"

-- "one candidate is the set, more than one is refused with 14. No candidate in any stage is 13."
abbrev pub found_number : Found → ℕ
found_number none = 13
found_number (one x) = 0
found_number several = 14

-- the set that is named; the empty one where none is
abbrev pub the_set : Found → ℕ
the_set none = 0
the_set (one x) = x
the_set several = 0

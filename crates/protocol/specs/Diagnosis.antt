-- Document 02, 2.2, "Tell me why this disk is not current": for a stopped cabinet, a stage and a disk, why the disk's
-- own set is no candidate of the stage, and which set a restart would find without the disk.
use Rattle.std.specs.Prelude.{◌≡◌, ◌≢◌, ◌↔◌, Bool, true, false, not, cond, ◌&&◌, ◌||◌, List, [], ◌∷◌, ℕ, ◌<◌, eqb, ltb}
use Rattle.sets.specs.Sets.{has, difference, lowest}
use Rattle.refusals.specs.Refusals.{first_of}
use Rattle.label.specs.declared.Label.{Label}
use Rattle.protocol.specs.declared.Diagnosis.{Diagnosis}
use Rattle.protocol.specs.declared.Power.TheVariants.{Stopped}
use Rattle.protocol.specs.declared.Reason.{Reason}
use Rattle.protocol.specs.declared.Reason.TheVariants.{NoReason, Empty, OutOfReach}
use Rattle.protocol.specs.declared.Reason.TheVariants.{Disagrees, NoneProposes, IsCandidate}
use Rattle.protocol.specs.declared.State.{State}
use Rattle.protocol.specs.Loops.{some, disks_where}
use Rattle.protocol.specs.States.{label_at}
use Rattle.protocol.specs.Soundness.{Sound}
use Rattle.protocol.specs.Naming.{Stage, first, second, third, stage_number, Found, none, one, several, Backs}
use Rattle.protocol.specs.Naming.{Candidate, Names, backs, proposes, found_by}
use Rattle.protocol.specs.Outcomes.{Outcome, outcome, refused_or}
use Rattle.protocol.specs.Calls.{unsound, running, no_such_disk, restart_outcome}

-- ---- "a definition gives this paper's number and values for each of its cases"

-- The papers have no numbers for reasons. These count them in the order of 2.2's sentence; 0 is that of a refused call.
abbrev pub reason_number : Reason → ℕ
reason_number NoReason = 0
reason_number Empty = 1
reason_number (OutOfReach d) = 2
reason_number (Disagrees d) = 3
reason_number NoneProposes = 4
reason_number IsCandidate = 5

-- the disk that a reason names; 0 where it names none
abbrev pub reason_disk : Reason → ℕ
reason_disk NoReason = 0
reason_disk Empty = 0
reason_disk (OutOfReach d) = d
reason_disk (Disagrees d) = d
reason_disk NoneProposes = 0
reason_disk IsCandidate = 0

-- ---- the paper's sentence, of any set X

-- "one disk's own set (its T if there is one, else its C)"
pub data Own (l : Label) : ℕ → Type 0 where
  tentative : l.tentative ≢ 0 → Own l l.tentative
  committed : l.tentative ≡ 0 → Own l l.committed

module _ (stage : Stage) (online : ℕ) (labels : List Label) (x : ℕ) where
  -- d is the lowest member for which this fails
  abbrev pub LowestNot : (ℕ → Type 0) → ℕ → Type 0
  LowestNot P d = (has x d ≡ true) × (P d → ⊥) × ((e : ℕ) → e < d → has x e ≡ true → P e)

  -- what each reason says of the set
  abbrev pub Says : Reason → Type 0
  Says NoReason = ⊥
  -- "the set is empty"
  Says Empty = (d : ℕ) → has x d ≡ false
  -- "or the lowest disk of it that is out of reach"
  Says (OutOfReach d) = LowestNot (λ e. has online e ≡ true) d
  -- "or else the lowest disk of it that disagrees with what that stage asks"
  Says (Disagrees d) = LowestNot (λ e. Backs stage (label_at labels e) x) d
  -- "or in stage 2 that no member has the set as its T"
  Says NoneProposes = (stage ≡ second) × ((d : ℕ) → has x d ≡ true → (label_at labels d).tentative ≢ x)
  -- "or that the set is a candidate"
  Says IsCandidate = Candidate stage online labels x

-- ---- the same as a function

unfoldable pub own_set : Label → ℕ
own_set l = cond (eqb l.tentative 0) l.committed l.tentative

-- the members that are out of reach
abbrev pub unreachable : ℕ → ℕ → ℕ
unreachable online x = difference x online

-- the members that disagree with what the stage asks of each
unfoldable pub dissenters : Stage → ℕ → List Label → ℕ → ℕ
dissenters stage n labels x = disks_where n (λ d. has x d && not (backs stage (label_at labels d) x))

-- "the set is empty, or the lowest disk of it that is out of reach, or else the lowest disk of it that disagrees with
-- what that stage asks, or in stage 2 that no member has the set as its T, or that the set is a candidate": the first
-- that is so. Only stage 2 asks for a proposal (`proposes`).
unfoldable pub reason_for : Stage → ℕ → ℕ → List Label → ℕ → Reason
reason_for stage n online labels x =
    cond (eqb x 0) Empty
    (cond (ltb 0 (unreachable online x)) (OutOfReach (lowest (unreachable online x)))
    (cond (ltb 0 (dissenters stage n labels x)) (Disagrees (lowest (dissenters stage n labels x)))
    (cond (some n x (λ d. proposes stage (label_at labels d) x)) IsCandidate NoneProposes)))

-- "If a restart at this moment would find a set without the asked disk, the tool gives that set as well, otherwise 0."
abbrev pub set_without : ℕ → Found → ℕ
set_without d none = 0
set_without d (one x) = cond (has x d) 0 x
set_without d several = 0

-- ---- the call

-- the stage of this number; any other than 1, 2 and 3 is refused
abbrev pub stage_numbered : ℕ → Stage
stage_numbered number = cond (eqb number 1) first (cond (eqb number 2) second third)

-- "23, the stage is not 1, 2 or 3"
abbrev pub no_such_stage : ℕ → Bool
no_such_stage number = not (eqb number 1 || (eqb number 2 || eqb number 3))

-- "After its state check the order is 7, 8, then the stage."
unfoldable pub diagnose_refusals : State → ℕ → ℕ → List (ℕ × Bool)
diagnose_refusals s stage d = unsound s ∷ running s ∷ no_such_disk s d ∷ (23, no_such_stage stage) ∷ []

unfoldable pub diagnosed : State → ℕ → ℕ → Diagnosis
diagnosed s stage d =
    let own = own_set (label_at s.labels d) in
    record {
      refusal = 0;
      reason = reason_for (stage_numbered stage) s.disks s.online s.labels own;
      set = set_without d (found_by s);
    }

-- "Refused, it gives no reason and 0 for the set"
unfoldable pub diagnosis : State → ℕ → ℕ → Diagnosis
diagnosis s stage d =
    cond (eqb (first_of (diagnose_refusals s stage d)) 0) (diagnosed s stage d)
    (record { refusal = first_of (diagnose_refusals s stage d); reason = NoReason; set = 0 })

-- what it leaves as a call of the list
unfoldable pub diagnose_outcome : State → List ℕ → List ℕ → ℕ → ℕ → Outcome
diagnose_outcome s area output stage d =
    refused_or (diagnose_refusals s stage d) s area output (outcome 0 0 s area output)

-- ---- what is proved of it

-- "It changes nothing": in the list it gives its number, makes no store, and leaves state and buffers.
abbrev pub ChangesNothing : Type 0
ChangesNothing = (s : State) (area output : List ℕ) (stage d : ℕ)
    → diagnose_outcome s area output stage d ≡ outcome (diagnosis s stage d).refusal 0 s area output

-- "The reason given is proved true and the earliest in that order."
pub record ReasonRight (stage : Stage) (online : ℕ) (labels : List Label) (x : ℕ) (reason : Reason) : Type 0 where
  pub says : Says stage online labels x reason
  pub earliest : (other : Reason) → reason_number other < reason_number reason → Says stage online labels x other → ⊥
  -- 'a candidate' exactly where document 01's candidate of that stage is
  pub candidate : (reason ≡ IsCandidate) ↔ Candidate stage online labels x

-- the set that is given, with the disk that was asked about
pub record SetRight (online : ℕ) (labels : List Label) (d set : ℕ) : Type 0 where
  pub without : (x : ℕ) → Names online labels (one x) → has x d ≡ false → set ≡ x
  pub otherwise : ((x : ℕ) → Names online labels (one x) → has x d ≡ true) → set ≡ 0

-- of every sound, stopped state, every stage and every disk that there is
pub record DiagnosisRight (s : State) (stage : Stage) (d : ℕ) (given : Diagnosis) : Type 0 where
  pub done : given.refusal ≡ 0
  -- the disk's own set, and the reason of it
  pub own : ℕ
  pub is_own : Own (label_at s.labels d) own
  pub reason : ReasonRight stage s.online s.labels own given.reason
  pub set : SetRight s.online s.labels d given.set

abbrev pub DiagnosedRight : Type 0
DiagnosedRight = (s : State) (stage : Stage) (d : ℕ) → Sound s → s.power ≡ Stopped → d < s.disks
    → DiagnosisRight s stage d (diagnosis s (stage_number stage) d)

-- What the mechanic relies on: where a restart now gives 13, whichever disk and stage he asks about, he is not told 'a
-- candidate', nor that a proposal is all that it lacks: then every member's C is the set, and stage 3 has it.
abbrev pub MissingTold : Type 0
MissingTold = (s : State) (area output : List ℕ) (budget stage d : ℕ)
    → (restart_outcome s area output budget).answer.refusal ≡ 13
    → ((diagnosis s stage d).reason ≢ IsCandidate) × ((diagnosis s stage d).reason ≢ NoneProposes)

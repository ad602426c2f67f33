-- Demand 3, "a single claim about the list": document 01, "The list and the book".
--
-- What it rests on: the list starts fresh, and "Each call gets the state and the disk area that the last one returned
-- or left; nobody else writes them meanwhile". Of a disk that was away this says that its blocks come back unaltered,
-- and no longer anything of its label: a return is shown any bytes, and takes the disk only if they read as the label
-- that the state holds ("The cut rule no longer needs the premise that labels come back unaltered; blocks still must",
-- document 02, 2.6). That of the blocks cannot go, since no call can tell that a block was altered: a fresh cabinet of
-- 2 disks, disk 1 is lost, somebody writes its block, it returns and shows its own label, the power is cut, and a
-- restart names both disks (AlteredBlocks.antt).
use Rattle.std.specs.Prelude.{◌≡◌, ◌≢◌, true, List, [], ◌∷◌, ◌++◌, ℕ, ◌≤◌, ◌<◌, length}
use Rattle.sets.specs.Sets.{has, all}
use Rattle.protocol.specs.declared.Call.TheVariants.{Restart}
use Rattle.protocol.specs.declared.Power.TheVariants.{Stopped, Running}
use Rattle.protocol.specs.Geometry.{block}
use Rattle.protocol.specs.Lists.{restart_list}
use Rattle.protocol.specs.Naming.{one, found_by}
use Rattle.protocol.specs.Outcomes.{Outcome}
use Rattle.protocol.specs.Calls.{format_outcome}
use Rattle.protocol.specs.History.{Step, Cabinet, outcome_of, cabinet_of, ran}
use Rattle.protocol.specs.Reference.{contents_after}

-- A call in a list: those before it, and itself.
pub record CallIn (calls : List Step) : Type 0 where
  pub before : List Step
  pub this : Step
  pub after : List Step
  pub here : calls ≡ before ++ (this ∷ after)

-- "It starts from what one done fresh call gave": the program's cabinet, of n disks of b blocks in the area that it was
-- lent ..
abbrev pub cabinet_after : ℕ → ℕ → List ℕ → List Step → Cabinet
cabinet_after n b lent calls = ran calls (cabinet_of (format_outcome lent [] n b))

-- .. when it is given a call of the list, and what the call yields
abbrev pub given : (n b : ℕ) (lent : List ℕ) {calls : List Step} → CallIn calls → Cabinet
given n b lent c = cabinet_after n b lent c.before

abbrev pub result : (n b : ℕ) (lent : List ℕ) {calls : List Step} → CallIn calls → Outcome
result n b lent c = outcome_of c.this (given n b lent c)

-- what the book, the reference contents, has after it
abbrev pub contents_at : (n b : ℕ) {calls : List Step} → CallIn calls → ℕ → List ℕ
contents_at n b c = contents_after n b (c.before ++ (c.this ∷ []))

pub record Demand3 (n b : ℕ) (lent : List ℕ) (calls : List Step) : Type 0 where
  -- "No restart in the list gives 14."
  pub one_set : (c : CallIn calls) (budget : ℕ) → c.this.call ≡ Restart budget
      → (result n b lent c).answer.refusal ≢ 14
  -- "A restart is finished when it gives 0, and names the G it then runs with. After each finished restart, for each
  -- disk d of that G and each k below b, block k of d in the disk area equals block k of the book."
  pub right : (c : CallIn calls) (budget : ℕ) → c.this.call ≡ Restart budget → (result n b lent c).answer.refusal ≡ 0
      → (g : ℕ) × ((result n b lent c).answer.state.power ≡ Running g)
      × ((d k : ℕ) → has g d ≡ true → k < b → block b (result n b lent c).area d k ≡ contents_at n b c k)
  -- "Each one of a stopped cabinet with all n disks in R finds a set, and gives 0 when its supply is at least the
  -- length of its list of stores."
  pub finds : (c : CallIn calls) (budget : ℕ) → c.this.call ≡ Restart budget
      → (given n b lent c).state.power ≡ Stopped → (given n b lent c).state.online ≡ all n
      → (g : ℕ) × (found_by (given n b lent c).state ≡ one g)
      × (length (restart_list (given n b lent c).state g) ≤ budget → (result n b lent c).answer.refusal ≡ 0)

-- for every n, b and list of calls
abbrev pub Demand3Holds : Type 0
Demand3Holds =
    (n b : ℕ) (lent : List ℕ) → (format_outcome lent [] n b).answer.refusal ≡ 0 → (calls : List Step)
    → Demand3 n b lent calls

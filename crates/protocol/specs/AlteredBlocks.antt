-- Why demand 3 asks that a lost disk's blocks come back unaltered: a history in which they do not.
use Rattle.std.specs.Prelude.{◌≡◌, ◌≢◌, true, List, [], ◌∷◌, ◌++◌, ℕ, replicate}
use Rattle.sets.specs.Sets.{has}
use Rattle.protocol.specs.declared.Call.{Call}
use Rattle.protocol.specs.declared.Call.TheVariants.{Restart, Detach, Attach, PowerOff}
use Rattle.protocol.specs.declared.Power.TheVariants.{Running}
use Rattle.protocol.specs.Geometry.{block_size, block, with_block}
use Rattle.protocol.specs.Bays.{stored_label}
use Rattle.protocol.specs.Outcomes.{Outcome}
use Rattle.protocol.specs.Calls.{zero_area}
use Rattle.protocol.specs.History.{Step, Cabinet, outcome_of, ran}
use Rattle.protocol.specs.Reference.{contents_after}
use Rattle.protocol.specs.Demand3.{cabinet_after}

abbrev pub step : Call → List ℕ → Step
step call bytes = record { call = call; bytes = bytes; output = [] }

-- a fresh cabinet of 2 disks of one block, whose disk 1 is lost
abbrev pub lost : Cabinet
lost = cabinet_after 2 1 (zero_area 2 1) (step (Detach 1) [] ∷ [])

-- somebody else fills its block with ones
abbrev pub altered : Cabinet
altered = record { state = lost.state; area = with_block 1 lost.area 1 0 (replicate block_size 1) }

-- it returns and shows its own label, and the power is cut
abbrev pub back : List Step
back = step (Attach 1) (stored_label lost.state 1) ∷ step PowerOff [] ∷ []

abbrev pub restarted : Outcome
restarted = outcome_of (step (Restart 99) []) (ran back altered)

-- It is finished and names disk 1, whose block is not the book's, in which nothing was ever written.
pub record Misled : Type 0 where
  pub finished : restarted.answer.refusal ≡ 0
  pub names : (restarted.answer.state.power ≡ Running 3) × (has 3 1 ≡ true)
  pub wrong : block 1 restarted.area 1 0
      ≢ contents_after 2 1 (step (Detach 1) [] ∷ (back ++ (step (Restart 99) [] ∷ []))) 0

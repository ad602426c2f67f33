-- What is proved of clean, the paper's quiet: "for each region ascending, clear the bit on each disk of L, ascending,
-- where it stands".
use Rattle.std.specs.Prelude.{◌≡◌, true, false, cond, List, ℕ}
use Rattle.sets.specs.Sets.{has, size}
use Rattle.protocol.specs.declared.State.{State}
use Rattle.protocol.specs.Loops.{sum_below}
use Rattle.protocol.specs.States.{label_at, live}
use Rattle.protocol.specs.Stores.{with_dirty}
use Rattle.protocol.specs.Outcomes.{Outcome}
use Rattle.protocol.specs.Calls.{clean_outcome}

-- how many dirty bits stand on the disks of L
abbrev pub standing : State → ℕ
standing s = sum_below s.disks (λ d. cond (has (live s) d) (size (label_at s.labels d).dirty) 0)

-- what a clean of this state and area owes, of all that it yields
module _ (s : State) (area : List ℕ) where
  pub record Cleaning (o : Outcome) : Type 0 where
    -- done, no region is dirty on a disk of L, and that is all that is new on its label
    pub cleaned : o.answer.refusal ≡ 0 → (d : ℕ) → has (live s) d ≡ true
        → label_at o.answer.state.labels d ≡ with_dirty (label_at s.labels d) 0
    -- done or not, every other label and all blocks are as they were
    pub other_labels : (d : ℕ) → has (live s) d ≡ false → label_at o.answer.state.labels d ≡ label_at s.labels d
    pub blocks : o.area ≡ area
    -- done, G stays, though it may have disks out of reach
    pub current : o.answer.refusal ≡ 0 → o.answer.state.power ≡ s.power
    -- a store for each bit that stood
    pub counted : o.answer.refusal ≡ 0 → o.answer.stores ≡ standing s

abbrev pub CleansLive : Type 0
CleansLive = (s : State) (area output : List ℕ) (budget : ℕ) → Cleaning s area (clean_outcome s area output budget)

-- What is proved of joins.
use Rattle.std.specs.Prelude.{◌≡◌, ◌≢◌, true, ◌&&◌, ◌||◌, List, [], ℕ, ◌<◌, eqb, length}
use Rattle.sets.specs.Sets.{has}
use Rattle.protocol.specs.declared.Call.TheVariants.{Join}
use Rattle.protocol.specs.declared.Power.TheVariants.{Running}
use Rattle.protocol.specs.declared.State.{State}
use Rattle.protocol.specs.Geometry.{area_size, block}
use Rattle.protocol.specs.States.{label_at, current_of, live, source}
use Rattle.protocol.specs.Soundness.{Sound}
use Rattle.protocol.specs.Outcomes.{Outcome, outcome}
use Rattle.protocol.specs.Calls.{format_outcome, join_outcome}
use Rattle.protocol.specs.History.{Step}
use Rattle.protocol.specs.Demand3.{CallIn, result, contents_at}

-- What the technician relies on ("membership is tested before reach in a join", document 02, 2.1): a running cabinet
-- says of a current disk that it is one, pulled or not, even where no current disk is in reach.
abbrev pub MembersTold : Type 0
MembersTold =
    (s : State) (area output : List ℕ) (g d budget : ℕ) → Sound s → length area ≡ area_size s.disks s.blocks
    → s.power ≡ Running g → has g d ≡ true → join_outcome s area output d budget ≡ outcome 11 0 s area output

-- what a join of disk d owes, of all that it yields
module _ (s : State) (area : List ℕ) (d : ℕ) where
  pub record Joining (o : Outcome) : Type 0 where
    -- "The dirty map of d is not touched.", done or cut
    pub dirty_map : (label_at o.answer.state.labels d).dirty ≡ (label_at s.labels d).dirty
    -- "Copy all blocks, ascending, from the lowest member of L to d."
    pub copied : o.answer.refusal ≡ 0 → (k : ℕ) → k < s.blocks
        → block s.blocks o.area d k ≡ block s.blocks area (source (live s)) k
    -- done or not, the blocks of the other disks are as they were
    pub other_blocks : (e k : ℕ) → e < s.disks → k < s.blocks → e ≢ d
        → block s.blocks o.area e k ≡ block s.blocks area e k
    -- "Then move to L with d.": done, it runs with the current disks that are in reach, and d
    pub joined : o.answer.refusal ≡ 0
        → (g : ℕ) × (o.answer.state.power ≡ Running g)
        × ((e : ℕ) → has g e ≡ (has (current_of s.power) e && has s.online e || eqb e d))

abbrev pub JoinsCopy : Type 0
JoinsCopy = (s : State) (area output : List ℕ) (d budget : ℕ)
    → Joining s area d (join_outcome s area output d budget)

-- Of every list: after a join that gives 0, each disk of the new G, the joined one too, holds the reference contents.
abbrev pub JoinsRight : Type 0
JoinsRight = (n b : ℕ) (lent : List ℕ) → (format_outcome lent [] n b).answer.refusal ≡ 0
    → (calls : List Step) (c : CallIn calls) (d budget : ℕ) → c.this.call ≡ Join d budget
    → (result n b lent c).answer.refusal ≡ 0
    → (g : ℕ) × ((result n b lent c).answer.state.power ≡ Running g) × (has g d ≡ true)
    × ((e k : ℕ) → has g e ≡ true → k < b → block b (result n b lent c).area e k ≡ contents_at n b c k)

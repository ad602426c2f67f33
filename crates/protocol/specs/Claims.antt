-- What else is proved of the calls, and of every list of them, beside demand 3.
use Rattle.std.specs.Prelude.{◌≡◌, ◌≢◌, ◌⊎◌, true, false, ◌&&◌, ◌||◌, List, [], ◌∷◌, ◌++◌, ℕ, ◌+◌, ◌*◌, ◌≤◌, ◌<◌, eqb}
use Rattle.std.specs.Prelude.{length, replicate}
use Rattle.sets.specs.Sets.{has, below, size}
use Rattle.label.specs.declared.Label.{Label}
use Rattle.label.specs.Bytes.{blank, encode}
use Rattle.label.specs.Codec.{AreBytes, Writable}
use Rattle.protocol.specs.declared.Answer.{Answer}
use Rattle.protocol.specs.declared.Call.TheVariants.{Read, Write}
use Rattle.protocol.specs.declared.Power.TheVariants.{Running}
use Rattle.protocol.specs.declared.State.{State}
use Rattle.protocol.specs.Geometry.{label_form, block_size, area_size, regions, block}
use Rattle.protocol.specs.States.{label_at, with_online, current_of, live, source}
use Rattle.protocol.specs.Bays.{stored_label}
use Rattle.protocol.specs.Soundness.{InRange, Sound, Proper}
use Rattle.protocol.specs.Stores.{Store, write, apply_all, made}
use Rattle.protocol.specs.Lists.{move, move_to_live, preparations, write_list, join_list}
use Rattle.protocol.specs.Outcomes.{Outcome, outcome, disks_of}
use Rattle.protocol.specs.Calls.{format_outcome, read_outcome, write_outcome, join_outcome, swap_outcome}
use Rattle.protocol.specs.Calls.{attach_outcome}
use Rattle.protocol.specs.Saving.{save_outcome, assemble_answer}
use Rattle.protocol.specs.History.{Step, Cabinet, outcome_of, cabinet_of}
use Rattle.protocol.specs.Reference.{Contents, replaced, carried_by, after_writes}
use Rattle.protocol.specs.Demand3.{CallIn, result, contents_at}

-- ---- fresh

-- A fresh call is done for every n and b in range and an area of their size: what is said of lists that a done fresh
-- begins is said of each such cabinet.
abbrev pub FormatDone : Type 0
FormatDone =
    (area output : List ℕ) (n b : ℕ) → InRange n b → length area ≡ area_size n b
    → (format_outcome area output n b).answer.refusal ≡ 0

-- ---- soundness

pub record SoundnessKept : Type 0 where
  -- whatever a call is given beside a sound state, and wherever it is cut
  pub by_calls : (x : Step) (c : Cabinet) → Proper c.state → Proper (outcome_of x c).answer.state
  pub by_save : (s : State) (area slots : List ℕ) → Proper s → Proper (save_outcome s area slots).answer.state
  pub by_format : (area output : List ℕ) (n b : ℕ) → (format_outcome area output n b).answer.refusal ≡ 0
      → Proper (format_outcome area output n b).answer.state
  pub by_assemble : (n b online : ℕ) (slots : List ℕ) → (assemble_answer n b online slots).refusal ≡ 0
      → Proper (assemble_answer n b online slots).state
  -- so no call of a list that a done fresh begins gives 1
  pub in_lists : (n b : ℕ) (lent : List ℕ) → (format_outcome lent [] n b).answer.refusal ≡ 0
      → (calls : List Step) (c : CallIn calls) → (result n b lent c).answer.refusal ≢ 1

-- ---- writes

-- "A write makes at most 4 times as many stores as L has disks."
abbrev pub WriteBound : Type 0
WriteBound = (s : State) (k : ℕ) (bytes : List ℕ) → Sound s → length (write_list s k bytes) ≤ 4 * size (live s)

-- the same of the stores that it reports, whatever it is given
abbrev pub ReportedBound : Type 0
ReportedBound = (s : State) (area output : List ℕ) (k : ℕ) (bytes : List ℕ) (budget : ℕ)
    → (write_outcome s area output k bytes budget).answer.stores ≤ size (live s) * 4

-- "that of block k on the lowest member of its L": the first store behind the preparations ..
abbrev pub SourceFirst : Type 0
SourceFirst = (s : State) (k : ℕ) (bytes : List ℕ) → Sound s → 0 < live s
    → (later : List Store) × (write_list s k bytes ≡ preparations s k ++ (write (source (live s)) k bytes ∷ later))

-- .. so this is its place in the list, counted from 1
abbrev pub source_store : State → ℕ → ℕ
source_store s k = length (preparations s k) + 1

-- "So a write that gives 0 counts, and one cut before that store or otherwise refused does not": what a write leaves of
-- any reference contents.
module _ (c : Cabinet) (k budget : ℕ) (bytes output : List ℕ) where
  abbrev pub write_answer : Answer
  write_answer = (write_outcome c.state c.area output k bytes budget).answer

  abbrev pub contents_left : Contents → Contents
  contents_left contents = after_writes (carried_by (Write k budget) bytes c) contents

  pub record Counting (contents : Contents) : Type 0 where
    pub acknowledged : write_answer.refusal ≡ 0 → contents_left contents ≡ replaced k bytes contents
    pub refused : write_answer.refusal ≢ 0 → write_answer.refusal ≢ 15 → contents_left contents ≡ contents
    pub cut_before : write_answer.refusal ≡ 15 → write_answer.stores < source_store c.state k
        → contents_left contents ≡ contents
    pub cut_behind : write_answer.refusal ≡ 15 → source_store c.state k ≤ write_answer.stores
        → contents_left contents ≡ replaced k bytes contents

abbrev pub WritesCount : Type 0
WritesCount =
    (c : Cabinet) (k budget : ℕ) (bytes output : List ℕ) (contents : Contents)
    → Counting c k budget bytes output contents

-- ---- swaps

-- "A blank disk in an old bay" (document 02, 2.5): what a swap of disk d owes, of all that it yields.
module _ (s : State) (area : List ℕ) (d : ℕ) where
  pub record Swapping (o : Outcome) : Type 0 where
    -- "When that is done, d has an empty label, zero blocks .., and is still out of reach until returned"
    pub blank_label : o.answer.refusal ≡ 0 → label_at o.answer.state.labels d ≡ blank
    pub zero_blocks : o.answer.refusal ≡ 0 → (k : ℕ) → k < s.blocks
        → block s.blocks o.area d k ≡ replicate block_size 0
    pub away : o.answer.refusal ≡ 0 → has o.answer.state.online d ≡ false
    -- "A cut during the move leaves the old disk in", and so does each other swap that is not done
    pub old_disk : o.answer.refusal ≢ 0
        → (label_at o.answer.state.labels d ≡ label_at s.labels d) × (o.area ≡ area)
    -- done or not, R stays, and so do the blocks of the other disks
    pub reach : o.answer.state.online ≡ s.online
    pub other_blocks : (e k : ℕ) → e < s.disks → k < s.blocks → e ≢ d
        → block s.blocks o.area e k ≡ block s.blocks area e k
    -- their labels are those of exactly so many stores of a move to L
    pub other_labels : (e : ℕ) → e ≢ d
        → let stores = made o.answer.stores (move s.disks (live s)) in
        label_at o.answer.state.labels e ≡ label_at (apply_all s.blocks stores (disks_of s area)).labels e
    -- "If d is in G the cabinet first moves to L": done, it runs with exactly the current disks that are in reach ..
    pub moved : has (current_of s.power) d ≡ true → o.answer.refusal ≡ 0
        → (o.answer.stores ≡ length (move s.disks (live s)))
        × (g : ℕ) × (o.answer.state.power ≡ Running g)
        × ((e : ℕ) → has g e ≡ has (current_of s.power) e && has s.online e)
    -- .. and else it makes no store, and G is as it was
    pub stayed : has (current_of s.power) d ≡ false
        → (o.answer.stores ≡ 0) × (o.answer.state.power ≡ s.power)

abbrev pub SwapsBlank : Type 0
SwapsBlank =
    (s : State) (area output : List ℕ) (d budget : ℕ) → Swapping s area d (swap_outcome s area output d budget)

-- "then 12 where d is in G": a disk out of reach that is not in G is swapped with any supply, also where L is empty.
abbrev pub SparesSwapped : Type 0
SparesSwapped =
    (s : State) (area output : List ℕ) (g d budget : ℕ) → Sound s → length area ≡ area_size s.disks s.blocks
    → s.power ≡ Running g → d < s.disks → has s.online d ≡ false → has g d ≡ false
    → (swap_outcome s area output d budget).answer.refusal ≡ 0

-- What the technician relies on, of a cabinet that a done swap of disk d left: the disk can be returned, by its empty
-- label, and where some current disk is in reach it can then join, and is current.
pub record Joinable (c : Cabinet) (output : List ℕ) (d budget : ℕ) : Type 0 where
  pub back : State
  pub returns : attach_outcome c.state c.area output d (encode label_form d c.state.disks blank)
      ≡ outcome 0 0 back c.area output
  pub joins : 0 < live c.state → length (join_list back d) ≤ budget
      → ((join_outcome back c.area output d budget).answer.refusal ≡ 0)
      × (g : ℕ) × ((join_outcome back c.area output d budget).answer.state.power ≡ Running g) × (has g d ≡ true)

abbrev pub SwappedJoins : Type 0
SwappedJoins =
    (s : State) (area output : List ℕ) (d budget later : ℕ) → Proper s
    → (swap_outcome s area output d budget).answer.refusal ≡ 0
    → Joinable (cabinet_of (swap_outcome s area output d budget)) output d later

-- ---- returns

-- "A pulled disk has been in another cabinet" (document 02, 2.6): what a return of disk d that shows these bytes owes,
-- of all that it yields.
module _ (s : State) (area output : List ℕ) (d : ℕ) (bytes : List ℕ) where
  pub record Returning (o : Outcome) : Type 0 where
    -- "The disk comes into reach only if they read as its stored label": done, a disk that was out of reach showed
    -- exactly the label that the state holds, and anything after it (of bytes, which every buffer has)
    pub shown : o.answer.refusal ≡ 0 → has s.online d ≡ false → AreBytes bytes
        → (rest : List ℕ) × (bytes ≡ stored_label s d ++ rest)
    -- so what another cabinet wrote on it, any label but the stored one, gives 25 or an earlier number
    pub foreign : has s.online d ≡ false → (e n : ℕ) (l : Label) (rest : List ℕ)
        → Writable label_form e n l → l.dirty < 256 → bytes ≡ encode label_form e n l ++ rest
        → (e ≡ d → n ≡ s.disks → l ≢ label_at s.labels d) → o.answer.refusal ≢ 0
    -- done, R has the disk too, and nothing else is changed
    pub back : o.answer.refusal ≡ 0
        → (online : ℕ) × (o ≡ outcome 0 0 (with_online s online) area output)
        × ((e : ℕ) → has online e ≡ (has s.online e || eqb e d))
    -- and else nothing is
    pub unchanged : o.answer.refusal ≢ 0 → o ≡ outcome o.answer.refusal 0 s area output

abbrev pub ReturnsShown : Type 0
ReturnsShown =
    (s : State) (area output : List ℕ) (d : ℕ) (bytes : List ℕ)
    → Returning s area output d bytes (attach_outcome s area output d bytes)

-- What a disk d out of reach is told that shows the label l of disk e of n, as some cabinet wrote it.
module _ (s : State) (area output : List ℕ) (d e n : ℕ) (l : Label) where
  pub record Judging (o : Outcome) : Type 0 where
    -- the stored label is taken
    pub own : e ≡ d → n ≡ s.disks → l ≡ label_at s.labels d → o.answer.refusal ≡ 0
    -- "18 where its number or n is not this bay's, 22, then 25"
    pub place : (e ≢ d) ⊎ (n ≢ s.disks) → o ≡ outcome 18 0 s area output
    pub region : e ≡ d → n ≡ s.disks → below l.dirty (regions s.blocks) ≡ false
        → o ≡ outcome 22 0 s area output
    pub differs : e ≡ d → n ≡ s.disks → below l.dirty (regions s.blocks) ≡ true
        → l ≢ label_at s.labels d → o ≡ outcome 25 0 s area output

-- whatever stands behind the label
abbrev pub LabelsJudged : Type 0
LabelsJudged =
    (s : State) (area output : List ℕ) (d e n : ℕ) (l : Label) (rest : List ℕ)
    → Sound s → d < s.disks → has s.online d ≡ false → Writable label_form e n l → l.dirty < 256
    → Judging s area output d e n l (attach_outcome s area output d (encode label_form e n l ++ rest))

-- "Returning a disk that is already in reach still has no effect and does not look at the bytes."
abbrev pub InReachUnseen : Type 0
InReachUnseen =
    (s : State) (area output : List ℕ) (d : ℕ) (bytes : List ℕ) → Sound s → d < s.disks → has s.online d ≡ true
    → attach_outcome s area output d bytes ≡ outcome 0 0 s area output

-- ---- reads

-- What the gate relies on: a read that gives 0 yields the reference block, the paper's book's, also where it moved.
abbrev pub ReadsRight : Type 0
ReadsRight = (n b : ℕ) (lent : List ℕ) → (format_outcome lent [] n b).answer.refusal ≡ 0
    → (calls : List Step) (c : CallIn calls) (k budget : ℕ) → c.this.call ≡ Read k budget
    → (result n b lent c).answer.refusal ≡ 0 → (result n b lent c).output ≡ contents_at n b c k

-- "Reads should notice a loss" (document 02, 2.3): what a read of this state, area and output owes, of all that it
-- yields.
module _ (s : State) (area output : List ℕ) where
  pub record Noticing (o : Outcome) : Type 0 where
    -- done, it runs with exactly the disks that were current and are in reach
    pub noticed : o.answer.refusal ≡ 0
        → (g : ℕ) × (o.answer.state.power ≡ Running g)
        × ((d : ℕ) → has g d ≡ has (current_of s.power) d && has o.answer.state.online d)
    -- "a read that is cut leaves the output buffer unchanged", and so does each other one that is not done
    pub unfilled : o.answer.refusal ≢ 0 → o.output ≡ output
    -- "the state is that of exactly so many stores", of those of a move to L
    pub counted : disks_of o.answer.state o.area
        ≡ apply_all s.blocks (made o.answer.stores (move_to_live s)) (disks_of s area)

abbrev pub ReadsNotice : Type 0
ReadsNotice =
    (s : State) (area output : List ℕ) (k budget : ℕ) → Noticing s area output (read_outcome s area output k budget)

-- the same blocks on each disk in reach; those out of reach may hold anything
abbrev pub SameInReach : State → List ℕ → List ℕ → Type 0
SameInReach s area other =
    (d k : ℕ) → has s.online d ≡ true → k < s.blocks → block s.blocks area d k ≡ block s.blocks other d k

-- The output of a read does not depend on a disk out of reach.
abbrev pub ReadsInReach : Type 0
ReadsInReach =
    (s : State) (area other output : List ℕ) (k budget : ℕ) → length area ≡ length other → SameInReach s area other
    → (read_outcome s area output k budget).output ≡ (read_outcome s other output k budget).output

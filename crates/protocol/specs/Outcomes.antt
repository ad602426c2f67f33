-- What a call yields, and the three ways in which a call ends: refused, done, or cut.
use Rattle.std.specs.Prelude.{◌≡◌, Bool, cond, List, ◌++◌, ℕ, ◌+◌, ◌-◌, eqb, ltb, length}
use Rattle.refusals.specs.Refusals.{first_of}
use Rattle.protocol.specs.declared.Power.{Power}
use Rattle.protocol.specs.declared.Power.TheVariants.{Stopped, Running}
use Rattle.protocol.specs.declared.State.{State}
use Rattle.protocol.specs.declared.Answer.{Answer}
use Rattle.protocol.specs.States.{with_labels}
use Rattle.protocol.specs.Stores.{Disks, Store, apply_all, made}

-- All that a call yields: its answer, and what the disk area and the output hold afterwards.
pub record Outcome : Type 0 where
  pub answer : Answer
  pub area : List ℕ
  pub output : List ℕ

abbrev pub yields : Answer → List ℕ → List ℕ → Outcome
yields r area output = record { answer = r; area = area; output = output }

abbrev pub outcome : ℕ → ℕ → State → List ℕ → List ℕ → Outcome
outcome refusal stores s area output = yields (record { refusal = refusal; stores = stores; state = s }) area output

-- ---- refused

-- "A refusal gives its number, a store count of 0, and no change in the state or any buffer": the first of a paragraph
-- that applies, or else what the call does.
unfoldable pub refused_or : List (ℕ × Bool) → State → List ℕ → List ℕ → Outcome → Outcome
refused_or refusals s area output done =
    cond (eqb (first_of refusals) 0) done (outcome (first_of refusals) 0 s area output)

-- ---- a list of stores under a budget, which is the paper's supply

abbrev pub disks_of : State → List ℕ → Disks
disks_of s area = record { labels = s.labels; area = area }

-- after so many stores, which left the disks so
abbrev pub ended : ℕ → ℕ → State → Disks → Power → List ℕ → Outcome
ended refusal count s w power output = outcome refusal count (with_labels s w.labels power) w.area output

-- "exactly the first supply stores are made, the cabinet is stopped, and the result is 15 with that count"
abbrev pub cut_short : List Store → ℕ → State → List ℕ → List ℕ → Outcome
cut_short stores budget s area output =
    ended 15 budget s (apply_all s.blocks (made budget stores) (disks_of s area)) Stopped output

-- what a call leaves once its whole list is made, of the number of stores and of the disks after them
abbrev pub Ending : Type 0
Ending = ℕ → Disks → Outcome

-- "Then G is S": done, and the cabinet runs with g
abbrev pub runs_with : ℕ → State → List ℕ → Ending
runs_with g s output count w = ended 0 count s w (Running g) output

-- "If the list is longer than the supply"; "Otherwise all are made"
unfoldable pub carry_out : List Store → ℕ → State → List ℕ → List ℕ → Ending → Outcome
carry_out stores budget s area output whole =
    cond (ltb budget (length stores)) (cut_short stores budget s area output)
    (whole (length stores) (apply_all s.blocks stores (disks_of s area)))

-- ---- two lists on one budget

-- counted on top of stores made before
abbrev pub after : ℕ → Outcome → Outcome
after count o = outcome o.answer.refusal (count + o.answer.stores) o.answer.state o.area o.output

-- another list, of the disks that the first one left, on what is left of the budget
abbrev pub continued : ℕ → State → Power → List ℕ → (Disks → List Store) → Ending → Ending
continued budget s power output later whole count w =
    after count (carry_out (later w) (budget - count) (with_labels s w.labels power) w.area output whole)

-- an ending that reports the stores it is told of
abbrev pub Reports : Ending → Type 0
Reports whole = (before count : ℕ) (w : Disks) → whole (before + count) w ≡ after before (whole count w)

-- Two lists carried out one after the other, whatever the power condition between them, are their one list carried out.
abbrev pub OneBudget : Type 0
OneBudget = (stores : List Store) (later : Disks → List Store) (budget : ℕ) (s : State) (area output : List ℕ)
    (power : Power) (whole : Ending) → Reports whole
    → carry_out (stores ++ later (apply_all s.blocks stores (disks_of s area))) budget s area output whole
    ≡ carry_out stores budget s area output (continued budget s power output later whole)

-- Document 01, "Label bytes": the saved form of a cabinet's labels, and assembling a state from it.
use Rattle.std.specs.Prelude.{◌≡◌, Bool, cond, not, List, [], ◌∷◌, ◌++◌, ℕ, ◌-◌, ◌*◌, eqb, length, replicate, drop}
use Rattle.sets.specs.Sets.{below}
use Rattle.label.specs.declared.Label.{Label}
use Rattle.label.specs.declared.Reading.{Reading}
use Rattle.label.specs.Bytes.{encode, longest_label}
use Rattle.refusals.specs.Refusals.{first_of}
use Rattle.label.specs.Reading.{reading}
use Rattle.protocol.specs.declared.Power.TheVariants.{Stopped}
use Rattle.protocol.specs.declared.State.{State}
use Rattle.protocol.specs.declared.Answer.{Answer}
use Rattle.protocol.specs.Geometry.{label_form, wrong_disk_count, wrong_block_count}
use Rattle.protocol.specs.Loops.{ascending}
use Rattle.protocol.specs.States.{label_at, filled_up, state_of, powered_off, zero_state}
use Rattle.protocol.specs.Soundness.{Proper}
use Rattle.protocol.specs.Outcomes.{Outcome, outcome, refused_or}
use Rattle.protocol.specs.Calls.{unsound}
use Rattle.protocol.specs.Bays.{bay_refusals}

-- "In the saved form each disk has a slot of 5 bytes": as many as the longest label has
abbrev pub slot_size : ℕ
slot_size = longest_label label_form

abbrev pub wrong_slots : ℕ → List ℕ → Bool
wrong_slots n slots = not (eqb (length slots) (slot_size * n))

-- ---- save

-- "the rest of the slot zero"
unfoldable pub slot_bytes : ℕ → ℕ → Label → List ℕ
slot_bytes d n l = encode label_form d n l ++ replicate (slot_size - length (encode label_form d n l)) 0

-- "Save: 2, the slot buffer is not 5 × n bytes."
unfoldable pub save_refusals : State → List ℕ → List (ℕ × Bool)
save_refusals s slots = unsound s ∷ (2, wrong_slots s.disks slots) ∷ []

-- The slot buffer is its output.
unfoldable pub save_outcome : State → List ℕ → List ℕ → Outcome
save_outcome s area slots =
    refused_or (save_refusals s slots) s area slots
    (outcome 0 0 s area (ascending s.disks (λ d. slot_bytes d s.disks (label_at s.labels d))))

-- ---- assemble

-- what the label reader finds in disk d's slot: it is handed the part of the slots that starts there
unfoldable pub slot_reading : List ℕ → ℕ → Reading
slot_reading slots d = reading label_form (drop (slot_size * d) slots)

-- "Assemble: 4. 5. 2, slots not 5 × n bytes. 8, R names a disk from n up. Then for each slot ascending"
unfoldable pub assemble_refusals : ℕ → ℕ → ℕ → List ℕ → List (ℕ × Bool)
assemble_refusals n b online slots =
    (4, wrong_disk_count n) ∷
    (5, wrong_block_count b) ∷
    (2, wrong_slots n slots) ∷
    (8, not (below online n)) ∷
    ascending n (λ d. bay_refusals d n b (slot_reading slots d))

-- "Assembling takes n, b, R and n slots, and gives a stopped state"
unfoldable pub assembled : ℕ → ℕ → ℕ → List ℕ → State
assembled n b online slots =
    state_of n b (filled_up n (ascending n (λ d. (slot_reading slots d).label ∷ []))) online Stopped

-- It changes no buffer: its slots are only read.
unfoldable pub assemble_answer : ℕ → ℕ → ℕ → List ℕ → Answer
assemble_answer n b online slots = record {
  refusal = first_of (assemble_refusals n b online slots);
  stores = 0;
  state = cond (eqb (first_of (assemble_refusals n b online slots)) 0) (assembled n b online slots) zero_state;
}

-- "from a saved state with its own R it gives the state after a cut": of a sound state and slots that save takes
abbrev pub SavedAssembles : Type 0
SavedAssembles = (s : State) (area slots : List ℕ) → Proper s → length slots ≡ slot_size * s.disks
    → assemble_answer s.disks s.blocks s.online (save_outcome s area slots).output
    ≡ record { refusal = 0; stores = 0; state = powered_off s }

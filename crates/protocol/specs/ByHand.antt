-- Document 01, "Labels and cuts to check by hand": H1 to H12 as one statement over a list of them. (H13, H14 and the
-- session are run.)
use Rattle.std.specs.Prelude.{◌≡◌, List, [], ◌∷◌, ℕ, length}
use Rattle.label.specs.declared.Label.{Label}
use Rattle.label.specs.Form.{narrow}
use Rattle.label.specs.Bytes.{blank, encode}
use Rattle.label.specs.Reading.{reading, found}
use Rattle.protocol.specs.declared.Power.TheVariants.{Stopped}
use Rattle.protocol.specs.declared.State.{State}
use Rattle.protocol.specs.States.{filled_up, state_of, current_of}
use Rattle.protocol.specs.Outcomes.{Outcome}
use Rattle.protocol.specs.Calls.{zero_area, restart_outcome}

pub data Case : Type 0 where
  -- "C lists disk 0 first; T is none unless said": with these sets on the labels and this reach, a restart gives a
  -- number and runs with a set, 0 if refused
  restarts : (committed tentative : List ℕ) (online : ℕ) (refusal set : ℕ) → Case
  -- the label of a disk of n, and its bytes in the form of document 01
  writes : (number disks : ℕ) → Label → (bytes : List ℕ) → Case

-- labels with these C and T, and T none where the list has no more
unfoldable pub labelled : List ℕ → List ℕ → List Label
labelled [] ts = []
labelled (c ∷ cs) [] = record { committed = c; tentative = 0; dirty = 0 } ∷ labelled cs []
labelled (c ∷ cs) (t ∷ ts) = record { committed = c; tentative = t; dirty = 0 } ∷ labelled cs ts

-- a stopped cabinet of one block a disk
unfoldable pub stopped_with : List ℕ → List ℕ → ℕ → State
stopped_with cs ts online = state_of (length cs) 1 (filled_up (length cs) (labelled cs ts)) online Stopped

-- its restart, with more supply than any list needs
unfoldable pub restarted : List ℕ → List ℕ → ℕ → Outcome
restarted cs ts online = restart_outcome (stopped_with cs ts online) (zero_area (length cs) 1) [] 99

abbrev pub CaseHolds : Case → Type 0
CaseHolds (restarts cs ts online refusal set) =
    ((restarted cs ts online).answer.refusal ≡ refusal)
    × (current_of (restarted cs ts online).answer.state.power ≡ set)
-- both ways: the bytes written, and read
CaseHolds (writes d n l bytes) = (encode narrow d n l ≡ bytes) × (reading narrow bytes ≡ found d n l (length bytes))

abbrev pub AllHold : List Case → Type 0
AllHold [] = Unit {0}
AllHold (case ∷ cases) = CaseHolds case × AllHold cases

abbrev pub hand_cases : List Case
hand_cases =
    -- H1 "C 1, 3, 7, R 7: set 1 (document 001, table 1)." H2 "the same, R 6: 13."
    restarts (1 ∷ 3 ∷ 7 ∷ []) [] 7 0 1
    ∷ restarts (1 ∷ 3 ∷ 7 ∷ []) [] 6 13 0
    -- H3 "C 3, 3, 6, R 7: set 3 (document 001)."
    ∷ restarts (3 ∷ 3 ∷ 6 ∷ []) [] 7 0 3
    -- H4 "C 7, 7, 7, T 3 on disks 0 and 1, R 3: set 3."
    ∷ restarts (7 ∷ 7 ∷ 7 ∷ []) (3 ∷ 3 ∷ []) 3 0 3
    -- H5 "C 3, 7, 7, T 3 on disk 1, R 7: set 3."
    ∷ restarts (3 ∷ 7 ∷ 7 ∷ []) (0 ∷ 3 ∷ []) 7 0 3
    -- H6 "C 7, 7, 7, T 3 on disk 0, R 3: 13." H7 "the same, R 7: set 7."
    ∷ restarts (7 ∷ 7 ∷ 7 ∷ []) (3 ∷ []) 3 13 0
    ∷ restarts (7 ∷ 7 ∷ 7 ∷ []) (3 ∷ []) 7 0 7
    -- H8 "C 3, 3, 7, T 7 on all, R 3: set 3." H9 "the same, R 7: set 7."
    ∷ restarts (3 ∷ 3 ∷ 7 ∷ []) (7 ∷ 7 ∷ 7 ∷ []) 3 0 3
    ∷ restarts (3 ∷ 3 ∷ 7 ∷ []) (7 ∷ 7 ∷ 7 ∷ []) 7 0 7
    -- H10 "n = 2, C 1, 2, R 3: 14."
    ∷ restarts (1 ∷ 2 ∷ []) [] 3 14 0
    -- H11 "disk 1 of 3, C 3, dirty region 0: hexadecimal 05 31 03 01."
    ∷ writes 1 3 (record { committed = 3; tentative = 0; dirty = 1 }) (5 ∷ 49 ∷ 3 ∷ 1 ∷ [])
    -- H12 "blank disk 0 of 1: hexadecimal 00 10."
    ∷ writes 0 1 blank (0 ∷ 16 ∷ [])
    ∷ []

abbrev pub HandCasesHold : Type 0
HandCasesHold = AllHold hand_cases

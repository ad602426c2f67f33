-- Document 01, "What each call refuses": each call as one function of all that it is given, to all that it yields. The
-- refusals stand in the order of the paper's paragraphs; 15 is in Outcomes. What a call does not take of area and
-- output, it leaves.
use Rattle.std.specs.Prelude.{Bool, not, cond, ◌&&◌, List, [], ◌∷◌, ◌++◌, ℕ, eqb, ltb, length, replicate}
use Rattle.sets.specs.Sets.{has, union, difference, singleton, all}
use Rattle.label.specs.declared.Label.{Label}
use Rattle.label.specs.Bytes.{blank}
use Rattle.label.specs.Comparing.{same_label}
use Rattle.label.specs.Reading.{reading}
use Rattle.protocol.specs.declared.Power.{Power}
use Rattle.protocol.specs.declared.Power.TheVariants.{Running}
use Rattle.protocol.specs.declared.State.{State}
use Rattle.protocol.specs.Geometry.{label_form, wrong_disk_count, wrong_block_count}
use Rattle.protocol.specs.Geometry.{block_size, area_size, block, with_zero_disk}
use Rattle.protocol.specs.Bays.{bay_refusals}
use Rattle.protocol.specs.States.{label_at, filled_up, state_of, with_online, powered_off}
use Rattle.protocol.specs.States.{zero_state, current_of, is_running, live, source}
use Rattle.protocol.specs.Soundness.{sound}
use Rattle.protocol.specs.Stores.{Disks, on_area, on_label}
use Rattle.protocol.specs.Lists.{move_to_live, write_list, join_list, swap_list, clean_list, restart_list}
use Rattle.protocol.specs.Naming.{Found, found_number, the_set, found_by}
use Rattle.protocol.specs.Outcomes.{Outcome, outcome, refused_or, Ending, ended, runs_with, carry_out}

-- ---- what refusals ask

abbrev pub wrong_area : ℕ → ℕ → List ℕ → Bool
wrong_area n b area = not (eqb (length area) (area_size n b))

abbrev pub not_block : List ℕ → Bool
not_block bytes = not (eqb (length bytes) block_size)

-- "Every call that takes a state: 1, the state is not sound. Then, where it takes the disk area (read, write, join,
-- restart): 2, its length is wrong."
abbrev pub unsound : State → ℕ × Bool
unsound s = (1, not (sound s))

abbrev pub area_unfit : State → List ℕ → ℕ × Bool
area_unfit s area = (2, wrong_area s.disks s.blocks area)

-- those that several paragraphs have: "6, stopped", "7, running", "8, d is not below n", "12, L is empty"
abbrev pub stopped : State → ℕ × Bool
stopped s = (6, not (is_running s.power))

abbrev pub running : State → ℕ × Bool
running s = (7, is_running s.power)

abbrev pub no_such_disk : State → ℕ → ℕ × Bool
no_such_disk s d = (8, not (ltb d s.disks))

abbrev pub none_live : State → ℕ × Bool
none_live s = (12, eqb (live s) 0)

-- ---- fresh

-- "Fresh: 4, n outside 1 to 8. 5, b outside 1 to 64. 2."
unfoldable pub format_refusals : ℕ → ℕ → List ℕ → List (ℕ × Bool)
format_refusals n b area = (4, wrong_disk_count n) ∷ (5, wrong_block_count b) ∷ (2, wrong_area n b area) ∷ []

-- "C naming all n, T and dirty 0"
abbrev pub fresh_label : ℕ → Label
fresh_label n = record { committed = all n; tentative = 0; dirty = 0 }

-- "It gives all disks in reach, running"
unfoldable pub formatted : ℕ → ℕ → State
formatted n b = state_of n b (filled_up n (replicate n (fresh_label n))) (all n) (Running (all n))

-- "all blocks zero"
unfoldable pub zero_area : ℕ → ℕ → List ℕ
zero_area n b = replicate (area_size n b) 0

-- "no counted stores"
unfoldable pub format_outcome : List ℕ → List ℕ → ℕ → ℕ → Outcome
format_outcome area output n b =
    refused_or (format_refusals n b area) zero_state area output (outcome 0 0 (formatted n b) (zero_area n b) output)

-- ---- read and write

-- "Read: 3, the output is not 64 bytes. 6, stopped. 9, k is not below b. 12, L is empty." "Read gains 15 as its last
-- refusal" (document 02, 2.3).
-- "Write: 3, the data is not 64 bytes. 6. 9. 12. 15."
unfoldable pub block_refusals : State → List ℕ → ℕ → List ℕ → List (ℕ × Bool)
block_refusals s area k bytes =
    unsound s ∷
    area_unfit s area ∷
    (3, not_block bytes) ∷
    stopped s ∷
    (9, not (ltb k s.blocks)) ∷
    none_live s ∷
    []

-- "Read copies block k from the lowest member of L.": once its list is made, so "a read that is cut leaves the output
-- buffer unchanged" (document 02, 2.3)
unfoldable pub copies_out : State → ℕ → Ending
copies_out s k count w = runs_with (live s) s (block s.blocks w.area (source (live s)) k) count w

unfoldable pub read_outcome : State → List ℕ → List ℕ → ℕ → ℕ → Outcome
read_outcome s area output k budget =
    refused_or (block_refusals s area k output) s area output
    (carry_out (move_to_live s) budget s area output (copies_out s k))

unfoldable pub write_outcome : State → List ℕ → List ℕ → ℕ → List ℕ → ℕ → Outcome
write_outcome s area output k bytes budget =
    refused_or (block_refusals s area k bytes) s area output
    (carry_out (write_list s k bytes) budget s area output (runs_with (live s) s output))

-- ---- join

-- "Join: 6. 8, d is not below n. 10, d is out of reach. 11, d is in G. 12. 15." Document 02, 2.1, puts 11 before 10:
-- "From now on membership is tested before reach in a join."
unfoldable pub join_refusals : State → List ℕ → ℕ → List (ℕ × Bool)
join_refusals s area d =
    unsound s ∷
    area_unfit s area ∷
    stopped s ∷
    no_such_disk s d ∷
    (11, has (current_of s.power) d) ∷
    (10, not (has s.online d)) ∷
    none_live s ∷
    []

unfoldable pub join_outcome : State → List ℕ → List ℕ → ℕ → ℕ → Outcome
join_outcome s area output d budget =
    refused_or (join_refusals s area d) s area output
    (carry_out (join_list s d) budget s area output (runs_with (union (live s) (singleton d)) s output))

-- ---- swap (document 02, 2.5)

-- "The order is 1, 2, 6, 8, 24, then 12 where d is in G, then 15. New numbers: 24, d is in reach."
unfoldable pub swap_refusals : State → List ℕ → ℕ → List (ℕ × Bool)
swap_refusals s area d =
    unsound s ∷
    area_unfit s area ∷
    stopped s ∷
    no_such_disk s d ∷
    (24, has s.online d) ∷
    (12, has (current_of s.power) d && eqb (live s) 0) ∷
    []

-- "If d is in G the cabinet first moves to L": then G is L, and else what it was
unfoldable pub swap_power : State → ℕ → Power
swap_power s d = cond (has (current_of s.power) d) (Running (live s)) s.power

-- "an empty label, zero blocks"
abbrev pub with_blank_disk : ℕ → Disks → ℕ → Disks
with_blank_disk b w d = on_label (on_area w (with_zero_disk b w.area d)) d blank

-- "When that is done, d has an empty label, zero blocks (no counted stores), and is still out of reach until returned."
unfoldable pub swaps_in : State → ℕ → List ℕ → Ending
swaps_in s d output count w = ended 0 count s (with_blank_disk s.blocks w d) (swap_power s d) output

-- "A cut during the move leaves the old disk in."
unfoldable pub swap_outcome : State → List ℕ → List ℕ → ℕ → ℕ → Outcome
swap_outcome s area output d budget =
    refused_or (swap_refusals s area d) s area output
    (carry_out (swap_list s d) budget s area output (swaps_in s d output))

-- ---- clean, the paper's quiet

-- "Quiet: 6. 12. 15."
unfoldable pub clean_refusals : State → List (ℕ × Bool)
clean_refusals s = unsound s ∷ stopped s ∷ none_live s ∷ []

unfoldable pub clean_outcome : State → List ℕ → List ℕ → ℕ → Outcome
clean_outcome s area output budget =
    refused_or (clean_refusals s) s area output
    (carry_out (clean_list s) budget s area output (runs_with (current_of s.power) s output))

-- ---- restart

-- "Restart: 7, running. 13. 14. 15.", where the labels name this
abbrev pub refusals_finding : State → List ℕ → Found → List (ℕ × Bool)
refusals_finding s area found =
    unsound s ∷
    area_unfit s area ∷
    running s ∷
    (13, eqb (found_number found) 13) ∷
    (14, eqb (found_number found) 14) ∷
    []

unfoldable pub restart_refusals : State → List ℕ → List (ℕ × Bool)
restart_refusals s area = refusals_finding s area (found_by s)

unfoldable pub restart_outcome : State → List ℕ → List ℕ → ℕ → Outcome
restart_outcome s area output budget =
    refused_or (restart_refusals s area) s area output
    (carry_out (restart_list s (the_set (found_by s))) budget s area output (runs_with (the_set (found_by s)) s output))

-- ---- detach, attach and power off: the paper's lose, return and cut

-- "Lose and return: 8. Cut: none of its own."
unfoldable pub reach_refusals : State → ℕ → List (ℕ × Bool)
reach_refusals s d = unsound s ∷ no_such_disk s d ∷ []

unfoldable pub detach_outcome : State → List ℕ → List ℕ → ℕ → Outcome
detach_outcome s area output d =
    refused_or (reach_refusals s d) s area output
    (outcome 0 0 (with_online s (difference s.online (singleton d))) area output)

-- "A return now brings the label bytes that the disk shows. The disk comes into reach only if they read as its stored
-- label, the one the state holds, running or stopped" (document 02, 2.6): "label reading's refusals in their order,
-- then 18 where its number or n is not this bay's, 22, then 25. New numbers: 25, a well-formed label differs from the
-- stored one."
unfoldable pub shown_refusals : State → ℕ → List ℕ → List (ℕ × Bool)
shown_refusals s d bytes =
    let shown = reading label_form bytes in
    let bay = bay_refusals d s.disks s.blocks shown in
    let stored = label_at s.labels d in
    bay ++ ((25, not (same_label shown.label stored)) ∷ [])

-- "Returning a disk that is already in reach still has no effect and does not look at the bytes."
abbrev pub unseen : State → ℕ → Bool
unseen s d = has s.online d

-- "After 8 come label reading's refusals"
unfoldable pub attach_refusals : State → ℕ → List ℕ → List (ℕ × Bool)
attach_refusals s d bytes = reach_refusals s d ++ cond (unseen s d) [] (shown_refusals s d bytes)

unfoldable pub attach_outcome : State → List ℕ → List ℕ → ℕ → List ℕ → Outcome
attach_outcome s area output d bytes =
    refused_or (attach_refusals s d bytes) s area output
    (outcome 0 0 (with_online s (union s.online (singleton d))) area output)

unfoldable pub power_off_outcome : State → List ℕ → List ℕ → Outcome
power_off_outcome s area output = refused_or (unsound s ∷ []) s area output (outcome 0 0 (powered_off s) area output)

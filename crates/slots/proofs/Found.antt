-- What slots are found to hold, one after the other. Assumes nothing.
use mathlib.Core.Path.{◌≡◌, refl, sym, ◌∙◌}
use mathlib.Core.Logic.{◌≢◌}
use mathlib.Core.Bool.{Bool, cond}
use mathlib.Core.List.{List, [], ◌∷◌}
use Prim.Native.Nat.{ℕ, zero, suc, ◌+◌, ◌-◌, ◌*◌, ◌≤◌, ◌<◌}
use native.Mathlib.Nat.{le_refl, zero-add}
use native.Mathlib.Numerals.{add-one}
use native.Mathlib.Omega.{arith}
use lib.Dec.{eqb, ltb, lit<}
use lib.ListN.{length, set, take, drop, length-drop}
use lib.Seq.{set_at, append_snoc, take_all}
use borrow.Author.Tests.{ne_eqb, eqb-true, ltb-false, not-false}
use borrow.Rule.Slice.PartMut.{mid_of}
use Rattle.sets.proofs.Tests.{or_parts, clash}
use Rattle.label.specs.declared.Label.{Label}
use Rattle.label.specs.declared.Reading.{Reading}
use Rattle.refusals.specs.declared.Refusal.{Refusal}
use Rattle.refusals.specs.Refusals.{first_of, number_of}
use Rattle.refusals.proofs.Numbers.{refuses}
use Rattle.label.specs.Reading.{reading}
use Rattle.refusals.proofs.Order.{none_by}
use Rattle.label.proofs.Accepting.{in_range_lem}
use Rattle.protocol.specs.Geometry.{label_form, most_disks, most_blocks}
use Rattle.protocol.specs.Loops.{ascending}
use Rattle.label.specs.Bytes.{blank}
use Rattle.protocol.specs.Saving.{slot_size, slot_reading, assemble_refusals}
use Rattle.protocol.specs.Bays.{bay_refusals}
use Rattle.protocol.proofs.Loops.{nil, cons, each_ascending}
use Rattle.protocol.proofs.Iterations.{listed-length}
use Rattle.protocol.proofs.Refusals.{in_a_row}
use Rattle.protocol.proofs.Assembling.{bay_numbered}
use Rattle.slots.specs.Below.{refusals_below, labels_below}

-- ---- one slot more

-- the reader is handed what lies from a disk's slot on
pub slot_read : (slots : List ℕ) (d : ℕ) {r : Reading}
    → r ≡ reading label_form (mid_of (slot_size * d) (length slots - slot_size * d) slots) → r ≡ slot_reading slots d
unfolding slot_reading
slot_read slots d e =
    e ∙ rw (take_all (length slots - slot_size * d) (drop (slot_size * d) slots) (simp length-drop (le_refl _)))

module _ (n b : ℕ) (slots : List ℕ) where
  abbrev bay : ℕ → List (ℕ × Bool)
  bay d = bay_refusals d n b (slot_reading slots d)

  -- the slots below, and then the next
  next_slot : (d : ℕ) → first_of (refusals_below (suc d) n b slots)
      ≡ cond (eqb (first_of (refusals_below d n b slots)) 0) (first_of (bay d)) (first_of (refusals_below d n b slots))
  unfolding ascending
  next_slot d = in_a_row _ (each_ascending d _ (λ i l. bay_numbered i n b (slot_reading slots i)))

  pub slot_passed : (d : ℕ) → first_of (refusals_below d n b slots) ≡ 0 → first_of (bay d) ≡ 0
      → first_of (refusals_below (d + 1) n b slots) ≡ 0
  slot_passed d before own = rw add-one (next_slot d ∙ rw (before, own))

  -- what one slot is refused for, no later one changes
  stays : (d more : ℕ) → first_of (refusals_below d n b slots) ≢ 0
      → first_of (refusals_below (more + d) n b slots) ≡ first_of (refusals_below d n b slots)
  stays d zero ne = rw zero-add
  stays d (suc more) ne =
      let e : suc more + d ≡ suc (more + d) = omega arith in
      rw e (next_slot (more + d) ∙ rw (stays d more ne, ne_eqb _ 0 ne))

  pub slot_stops : (d : ℕ) → d < n → first_of (refusals_below d n b slots) ≡ 0 → (r : Refusal)
      → number_of r ≡ first_of (bay d) → number_of r ≡ first_of (refusals_below n n b slots)
  slot_stops d inside before r own =
      let here : first_of (refusals_below (suc d) n b slots) ≡ number_of r = next_slot d ∙ rw (before, own) in
      let some : number_of r ≢ 0 = λ z. clash (rw z) (refuses r) in
      let rest : (n - suc d) + suc d ≡ n = omega arith in
      sym (rw (rest, here) at (stays (suc d) (n - suc d) (λ z. some (sym here ∙ z))))

pub label_next : (d : ℕ) (slots : List ℕ) {label : Label} {labels : List Label} → label ≡ (slot_reading slots d).label
    → labels ≡ labels_below d slots → d < most_disks → set labels d label ≡ labels_below (d + 1) slots
unfolding ascending
label_next d slots found e h =
    let read : ℕ → Label = λ i. (slot_reading slots i).label in
    let before = ascending d (λ i. read i ∷ []) in
    let room : most_disks - d ≡ suc (most_disks - (d + 1)) = omega arith in
    rw (e, found, room, add-one)
    (set_at before blank _ (read d) d (listed-length read d) ∙ sym (append_snoc before (read d) _))

-- ---- the arguments, and then the slots

module _ (n b online : ℕ) (slots : List ℕ) where
  abbrev refusals : List (ℕ × Bool)
  refusals = assemble_refusals n b online slots

  pub arguments_then_slots : first_of refusals
      ≡ cond (eqb (first_of (take 4 refusals)) 0) (first_of (refusals_below n n b slots)) (first_of (take 4 refusals))
  unfolding assemble_refusals
  arguments_then_slots =
      in_a_row {earlier = take 4 refusals} (refusals_below n n b slots)
      (cons (λ e. lit< tt) (cons (λ e. lit< tt) (cons (λ e. lit< tt) (cons (λ e. lit< tt) nil))))

  pub slots_next : first_of (take 4 refusals) ≡ 0 → first_of refusals ≡ first_of (refusals_below n n b slots)
  slots_next e = arguments_then_slots ∙ rw e

  pub arguments_stop : (r : Refusal) → number_of r ≡ first_of (take 4 refusals) → number_of r ≡ first_of refusals
  arguments_stop r own =
      let some : first_of (take 4 refusals) ≢ 0 = λ z. clash (rw (own ∙ z)) (refuses r) in
      own ∙ sym (arguments_then_slots ∙ rw (ne_eqb _ 0 some))

pub record ArgumentsPassed (n b : ℕ) (slots : List ℕ) : Type 0 where
  pub disks : n ≤ most_disks
  pub blocks : b ≤ most_blocks
  pub size : length slots ≡ slot_size * n

pub arguments_passed : (n b online : ℕ) (slots : List ℕ) → first_of (take 4 (assemble_refusals n b online slots)) ≡ 0
    → ArgumentsPassed n b slots
unfolding assemble_refusals
arguments_passed n b online slots e =
    let no = none_by (take 4 (assemble_refusals n b online slots)) refl e in
    record {
      disks = (in_range_lem label_form n (no 4)).1;
      blocks = ltb-false _ _ (or_parts (ltb b 1) (ltb most_blocks b) (no 5)).1;
      size = eqb-true _ _ (not-false _ (no 2));
    }

-- The state that assembling gives is sound, and has the labels that the slots are read as. Assumes nothing.
use mathlib.Core.Path.{◌≡◌, refl, ◌∙◌}
use mathlib.Core.Logic.{◌⊎◌, inl, inr, ◌↔◌}
use mathlib.Core.Bool.{true, false, not, ◌&&◌, ◌||◌, and-false}
use mathlib.Core.List.{List, [], ◌∷◌}
use Prim.Native.Nat.{ℕ, ◌≤◌, ◌<◌}
use lib.Dec.{eqb, lit<}
use lib.Pow.{pow_pos}
use lib.ListN.{length}
use borrow.Author.Tests.{eqb-true, not-false, not-true}
use Rattle.sets.specs.Sets.{has, below}
use Rattle.sets.proofs.Tests.{Test, passes, fails, test, and_parts, or_parts, positive}
use Rattle.sets.proofs.Bounds.{below_pow}
use Rattle.label.specs.declared.Label.{Label}
use Rattle.label.specs.declared.Reading.{Reading}
use Rattle.refusals.specs.Refusals.{first_of}
use Rattle.label.specs.Rules.{wrong_set, wrong_sets}
use Rattle.label.specs.Reading.{reading, found}
use Rattle.refusals.proofs.Order.{none_of}
use Rattle.label.proofs.ReadWritten.{read_parts}
use Rattle.label.specs.Bytes.{blank}
use Rattle.protocol.specs.Geometry.{label_form, most_disks}
use Rattle.protocol.specs.Loops.{ascending}
use Rattle.protocol.specs.States.{label_at}
use Rattle.protocol.specs.Soundness.{FitSet, FitLabel, Proper}
use Rattle.protocol.specs.Bays.{bay_refusals}
use Rattle.protocol.specs.Saving.{slot_reading, assemble_refusals, assembled, assemble_answer}
use Rattle.protocol.proofs.Soundness.{right_counts}
use Rattle.protocol.proofs.Loops.{Each, nil, cons, each_ascending}
use Rattle.protocol.proofs.Iterations.{each_iteration, listed-length, listed_at, listed_past}
use Rattle.protocol.proofs.States.{filled_up_lem, filled_up-length}
use Rattle.protocol.proofs.Refusals.{Unmet, Numbered, none_applies}

-- ---- one slot

-- a set that labels are not refused for is one that a sound state may have, and the other way round
pub right_set : (n d set : ℕ) → (wrong_set set d n ≡ false) ↔ FitSet n d set
unfolding wrong_set
right_set n d set = (fits (test (eqb set 0)), λ h. right h.known h.own)
  where
    fits : Test (eqb set 0) → (not (eqb set 0) && (not (below set n) || not (has set d))) ≡ false → FitSet n d set
    fits (passes z) e = rw (eqb-true set 0 z) (record { known = (below_pow 0 n).1 (pow_pos n); own = inl refl })
    fits (fails z) e =
        let (p, q) = or_parts (not (below set n)) (not (has set d)) (rw z at e) in
        record { known = not-false _ p; own = inr (not-false _ q) }

    right : below set n ≡ true → (set ≡ 0) ⊎ (has set d ≡ true)
        → (not (eqb set 0) && (not (below set n) || not (has set d))) ≡ false
    right k (inl e) = rw e
    right k (inr m) = rw (k, m) (and-false (not (eqb set 0)))

module _ (d n b : ℕ) where
  -- each refusal of a label against its bay has a number, if it applies
  pub bay_numbered : (r : Reading) → Each Numbered (bay_refusals d n b r)
  unfolding bay_refusals
  bay_numbered r = cons (λ e. positive r.refusal (not-true _ e)) (cons (λ e. lit< tt) (cons (λ e. lit< tt) nil))

  -- what is read where none applies is a label of disk d of n
  pub bay_found : (r : Reading) → Each Unmet (bay_refusals d n b r) → r ≡ found d n r.label r.length
  unfolding bay_refusals
  bay_found r (cons read (cons place (cons dirty nil))) =
      let (number, disks) = and_parts _ _ (not-false _ place) in
      by_parts (eqb-true _ _ (not-false _ read)) (eqb-true _ _ number) (eqb-true _ _ disks)
    where
      by_parts : r.refusal ≡ 0 → r.number ≡ d → r.disks ≡ n → r ≡ found d n r.label r.length
      by_parts p q t i = record { refusal = p i; number = q i; disks = t i; label = r.label; length = r.length }

  -- a slot to which none applies is read as a label that a sound state may have
  slot_fits : (s : List ℕ) → Each Unmet (bay_refusals d n b (reading label_form s))
      → FitLabel n b d (reading label_form s).label
  unfolding bay_refusals wrong_sets
  slot_fits s (cons read (cons place (cons dirty nil))) =
      let e = bay_found (reading label_form s) (cons read (cons place (cons dirty nil))) in
      let (c, t) = or_parts _ _ (read_parts label_form s d n _ _ e).passes_all.proper.sets in
      record { committed = (right_set n d _).0 c; tentative = (right_set n d _).0 t; dirty = not-false _ dirty }

-- ---- the state

module _ (n b online : ℕ) (slots : List ℕ) where
  -- the label that a slot is read as
  abbrev read : ℕ → Label
  read d = (slot_reading slots d).label

  abbrev labels_read : List Label
  labels_read = ascending n (λ d. read d ∷ [])

  -- disk d has the label of its slot
  pub label_read : (d : ℕ) → d < n → label_at (assembled n b online slots).labels d ≡ (slot_reading slots d).label
  unfolding assembled
  label_read d l = filled_up_lem n labels_read d ∙ listed_at read n blank d l

  -- from n up they are all zero
  pub blank_past : (d : ℕ) → n ≤ d → label_at (assembled n b online slots).labels d ≡ blank
  unfolding assembled
  blank_past d l = filled_up_lem n labels_read d ∙ listed_past read n blank d l

  -- the array has its length
  pub all_slots : n ≤ most_disks → length (assembled n b online slots).labels ≡ most_disks
  unfolding assembled
  all_slots h = filled_up-length n labels_read (listed-length read n) h

  -- and where no refusal is given, the state is sound
  proper : first_of (assemble_refusals n b online slots) ≡ 0 → Proper (assembled n b online slots)
  unfolding assemble_refusals assembled slot_reading
  proper e =
      let count = none_of 4 _ _ (lit< tt) e in
      let blocks = none_of 5 _ _ (lit< tt) count.1 in
      let bytes = none_of 2 _ _ (lit< tt) blocks.1 in
      let reach = none_of 8 _ _ (lit< tt) bytes.1 in
      let range = (right_counts n b).0 (count.0, blocks.0) in
      let unmet = none_applies (each_ascending n _ (λ d l. bay_numbered d n b (slot_reading slots d))) reach.1 in
      record {
        fit = record {
          range = range;
          online = not-false _ reach.0;
          labels = record {
            each = λ d l. rw (label_read d l) (slot_fits d n b _ (each_iteration n _ unmet d l));
            rest = λ d g l. blank_past d g;
          };
          power = tt;
        };
        slots = all_slots range.disks;
      }

-- what assembling gives, if it is not refused, is sound
pub assembled_proper : (n b online : ℕ) (slots : List ℕ) → (assemble_answer n b online slots).refusal ≡ 0
    → Proper (assemble_answer n b online slots).state
unfolding assemble_answer
assembled_proper n b online slots e = rw e (proper n b online slots e)

-- From what save gives, and the state's own reach, assembling gives the state after a cut. Assumes nothing.
use mathlib.Core.Path.{◌≡◌, refl, sym, ap, ◌∙◌}
use mathlib.Core.List.{List, ◌++◌, append_assoc}
use Prim.Native.Nat.{ℕ, ◌*◌, ◌≤◌, ◌<◌}
use native.Mathlib.Nat.{le_refl, le_trans, lt_of_lt_of_le, add-sub_of_le}
use native.Mathlib.Decide.{dec_lt}
use native.Mathlib.Omega.{arith}
use lib.Pow.{pow_mono}
use lib.ListN.{length, length-append, length-replicate}
use lib.Seq.{ext_get_or}
use borrow.Author.Tests.{lt-leb, eq-eqb}
use Rattle.sets.proofs.Bounds.{below_pow}
use Rattle.label.specs.declared.Label.{Label}
use Rattle.label.specs.Bytes.{blank, encode}
use Rattle.refusals.specs.Refusals.{first_of}
use Rattle.label.specs.Rules.{wrong_sets}
use Rattle.label.specs.Reading.{reading, found}
use Rattle.label.specs.Writing.{write_refusal}
use Rattle.label.specs.Codec.{Writable, Codec}
use Rattle.label.proofs.Accepting.{accepted}
use Rattle.label.proofs.Codec.{narrow_codec}
use Rattle.protocol.specs.declared.State.{State}
use Rattle.protocol.specs.Geometry.{label_form, most_disks, most_regions, regions}
use Rattle.protocol.specs.Loops.{ascending}
use Rattle.protocol.specs.States.{label_at}
use Rattle.protocol.specs.Soundness.{InRange, FitLabel, Sound}
use Rattle.protocol.specs.Outcomes.{refused_or}
use Rattle.protocol.specs.Bays.{bay_refusals, stored_label}
use Rattle.protocol.specs.Saving.{slot_size, slot_bytes, save_refusals, save_outcome, slot_reading}
use Rattle.protocol.specs.Saving.{assemble_refusals, assembled, assemble_answer, SavedAssembles}
use Rattle.protocol.proofs.Loops.{Each, each_ascending}
use Rattle.protocol.proofs.Soundness.{right_counts, test_agrees}
use Rattle.protocol.proofs.Iterations.{even_length, even_iteration}
use Rattle.protocol.proofs.Refusals.{Unmet, none_given, none_applies}
use Rattle.protocol.proofs.Assembling.{right_set, bay_numbered, label_read, blank_past, all_slots}

-- ---- one label

-- what is proved of the labels' form
pub label_codec : Codec label_form
label_codec = narrow_codec

module _ (n b d : ℕ) (l : Label) (range : InRange n b) (low : d < n) (fit : FitLabel n b d l) where
  -- the label writer takes a sound state's label, given room for it
  taken : (room : ℕ) → length (encode label_form d n l) ≤ room → write_refusal label_form d n l room ≡ 0
  unfolding wrong_sets
  taken room =
      accepted label_form d n l room
      (record {
        count = ((right_counts n b).1 range).0;
        number = lt-leb n d low;
        sets = rw ((right_set n d l.committed).1 fit.committed) ((right_set n d l.tentative).1 fit.tentative);
      })

  writable : Writable label_form d n l
  unfolding Writable
  writable = taken _ (le_refl _)

  -- no cabinet has more regions than a byte has bits
  dirty_byte : l.dirty < 256
  unfolding regions
  dirty_byte =
      lt_of_lt_of_le ((below_pow l.dirty (regions b)).0 fit.dirty) (pow_mono {j = most_regions} (omega arith))

-- ---- the label that a sound state holds

-- the writer takes it, given a slot or more
pub stored_taken : (s : State) → Sound s → (d : ℕ) → d < s.disks → (room : ℕ) → slot_size ≤ room
    → write_refusal label_form d s.disks (label_at s.labels d) room ≡ 0
stored_taken s fit d l room enough =
    taken _ _ d _ fit.range l (fit.labels.each d l) room
    (le_trans (label_codec.lengths d s.disks (label_at s.labels d)).1 enough)

-- and it is read back from what is written for it, whatever follows
pub stored_read : (s : State) → Sound s → (d : ℕ) → d < s.disks → (rest : List ℕ)
    → reading label_form (stored_label s d ++ rest)
    ≡ found d s.disks (label_at s.labels d) (length (stored_label s d))
stored_read s fit d l rest =
    let label = label_at s.labels d in
    let here = fit.labels.each d l in
    label_codec.written_reads d s.disks label rest (dirty_byte _ _ d label fit.range l here)
    (writable _ _ d label fit.range l here)

-- ---- the slots of a state

-- what save puts out for disk d, and for all
abbrev pub slot_of : State → ℕ → List ℕ
slot_of s d = slot_bytes d s.disks (label_at s.labels d)

abbrev slots_of : State → List ℕ
slots_of s = ascending s.disks (slot_of s)

-- each slot has its size
pub slot_length : (s : State) (d : ℕ) → length (slot_of s d) ≡ slot_size
unfolding slot_bytes
slot_length s d =
    simp (length-append, length-replicate)
    (add-sub_of_le (label_codec.lengths d s.disks (label_at s.labels d)).1)

module _ (s : State) (fit : Sound s) where
  -- save takes a sound state, and puts these slots out
  saved : (area slots : List ℕ) → length slots ≡ slot_size * s.disks → (save_outcome s area slots).output ≡ slots_of s
  unfolding save_outcome save_refusals refused_or first_of
  saved area slots e = rw ((test_agrees s).1 fit, eq-eqb _ _ e)

  -- each is read as the label that it was written for
  slot_read : (d : ℕ) → d < s.disks
      → slot_reading (slots_of s) d ≡ found d s.disks (label_at s.labels d) (length (stored_label s d))
  unfolding slot_reading slot_bytes
  slot_read d l =
      let (later, e) = even_iteration slot_size (slot_of s) (slot_length s) s.disks d l in
      rw (e, append_assoc (stored_label s d)) (stored_read s fit d l _)

  -- assembling takes them
  none_refused : first_of (assemble_refusals s.disks s.blocks s.online (slots_of s)) ≡ 0
  unfolding assemble_refusals bay_refusals first_of
  none_refused =
      let (right-disks, right-blocks) = (right_counts s.disks s.blocks).1 fit.range in
      rw (
        right-disks,
        right-blocks,
        eq-eqb (length (slots_of s)) (slot_size * s.disks) (even_length slot_size (slot_of s) (slot_length s) s.disks),
        fit.online,
      ) (none_given (each_ascending s.disks _ unmet))
    where
      unmet : (d : ℕ) → d < s.disks → Each Unmet (bay_refusals d s.disks s.blocks (slot_reading (slots_of s) d))
      unmet d l =
          none_applies (bay_numbered d s.disks s.blocks (slot_reading (slots_of s) d))
          (rw (slot_read d l, eq-eqb d d refl, eq-eqb s.disks s.disks refl, (fit.labels.each d l).dirty))

  -- and gives the state's labels, those from n up too
  same_labels : length s.labels ≡ most_disks
      → (assembled s.disks s.blocks s.online (slots_of s)).labels ≡ s.labels
  same_labels e = ext_get_or blank _ _ (all ∙ sym e) (λ d l. same d (rw all at l) (dec_lt d s.disks))
    where
      all : length (assembled s.disks s.blocks s.online (slots_of s)).labels ≡ most_disks
      all = all_slots s.disks s.blocks s.online (slots_of s) fit.range.disks

      same : (d : ℕ) → d < most_disks → Dec (d < s.disks)
          → label_at (assembled s.disks s.blocks s.online (slots_of s)).labels d ≡ label_at s.labels d
      same d l (yes p) = label_read _ s.blocks s.online (slots_of s) d p ∙ ap (λ r. r.label) (slot_read d p)
      same d l (no g) =
          blank_past _ s.blocks s.online (slots_of s) d (omega arith) ∙ sym (fit.labels.rest d (omega arith) l)

-- saved, then assembled: the state after a cut
pub saved_assembles : SavedAssembles
unfolding assemble_answer assembled
saved_assembles s area slots p e =
    rw (saved s p.fit area slots e, none_refused s p.fit, same_labels s p.fit p.slots)

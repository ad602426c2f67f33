-- Slots that are written one after the other. Assumes nothing.
use mathlib.Core.Path.{◌≡◌, refl, ap, sym, ◌∙◌}
use mathlib.Core.List.{List, ◌++◌, append-nil, append_assoc}
use Prim.Native.Nat.{ℕ, ◌+◌, ◌-◌, ◌*◌, ◌≤◌}
use native.Mathlib.Nat.{zero-add, mul-suc, add-sub_cancel_left}
use native.Mathlib.Numerals.{add-one}
use lib.ListN.{length, drop, replicate, length-drop}
use lib.Seq.{take-length, take-append_seam, take_at, drop_at, drop-drop, drop-length}
use borrow.Author.Tests.{eqb-true, not-false}
use borrow.Rule.Slice.PartMut.{mid_of, put_mid}
use Rattle.label.specs.declared.Label.{Label}
use Rattle.label.specs.Bytes.{encode}
use Rattle.std.specs.Result.{IsOk}
use Rattle.std.proofs.Common.{Result, Ok, Err}
use borrow.Author.Rules.{rules}
use Rattle.sets.proofs.Tests.{clash}
use Rattle.refusals.specs.declared.Refusal.{Refusal}
use Rattle.refusals.specs.Refusals.{first_of, number_of}
use Rattle.refusals.proofs.Numbers.{refuses}
use Rattle.buffers.specs.Buffers.{splice}
use Rattle.label.specs.Writing.{write_refusal, written, written_of, written_bytes}
use Rattle.refusals.proofs.Order.{none_by}
use Rattle.protocol.specs.declared.State.{State}
use Rattle.protocol.specs.Geometry.{label_form}
use Rattle.protocol.specs.Loops.{ascending}
use Rattle.protocol.specs.Soundness.{Sound}
use Rattle.protocol.specs.Saving.{slot_size, slot_bytes, save_refusals}
use Rattle.protocol.proofs.Soundness.{test_agrees}
use Rattle.protocol.proofs.Iterations.{even_length}
use Rattle.protocol.proofs.Saving.{label_codec, slot_of, slot_length}

-- ---- one slot

-- bytes at the front, and zeros in the rest of the slot
rest_zero : (bytes slot : List ℕ) → length bytes ≤ length slot
    → put_mid (length bytes) (length slot - length bytes) (bytes ++ drop (length bytes) slot)
    (replicate (length (mid_of (length bytes) (length slot - length bytes) (bytes ++ drop (length bytes) slot))) 0)
    ≡ bytes ++ replicate (length slot - length bytes) 0
rest_zero bytes slot fits =
    let rest = drop (length bytes) slot in
    rw (
      ← length-drop (length bytes) slot,
      take-append_seam bytes rest,
      drop_at bytes rest (length bytes) refl,
      take-length rest,
      drop-length rest,
      append-nil,
    )

module _ (d n : ℕ) (l : Label) where
  -- in a slot that the writer takes
  module _ (slot : List ℕ) (size : length slot ≡ slot_size) (none : write_refusal label_form d n l slot_size ≡ 0) where
    abbrev bytes : List ℕ
    bytes = encode label_form d n l

    pub takes : (r : Result ℕ Refusal) → written_of r ≡ written label_form d n l (length slot) → IsOk r
    unfolding written
    takes (Ok len) e = search rules
    takes (Err r) e =
        let zero : number_of r ≡ 0 = ap (λ w. w.refusal) e ∙ rw (size, none) in
        clash (rw zero) (refuses r)

    pub wrote : {r : Result ℕ Refusal} {len : ℕ} → written_of r ≡ written label_form d n l (length slot) → r ≡ Ok len
        → len ≡ length bytes
    unfolding written
    wrote e ok = ap (λ w. w.length) (rw ok at e) ∙ rw (size, none)

    pub label_fits : length bytes ≤ slot_size
    label_fits = (label_codec.lengths d n l).1

    pub slot_filled : {old rest : List ℕ} → old ≡ written_bytes label_form d n l slot
        → rest ≡ replicate (length (mid_of (length bytes) (length slot - length bytes) old)) 0
        → put_mid (length bytes) (length slot - length bytes) old rest ≡ slot_bytes d n l
    unfolding written_bytes splice slot_bytes
    slot_filled h zeros =
        let fits : length bytes ≤ length slot = rw size label_fits in
        rw (zeros, h, size, none, zero-add) (rw size at (rest_zero bytes slot fits))

-- ---- one slot after the other

-- where the slots of the disks below d are written
module _ (s : State) (old now : List ℕ) (d : ℕ) (e : now ≡ ascending d (slot_of s) ++ drop (slot_size * d) old) where
  pub slots_next : {slot : List ℕ} → slot ≡ slot_of s d
      → put_mid (slot_size * d) (slot_size * d + slot_size - slot_size * d) now slot
      ≡ ascending (d + 1) (slot_of s) ++ drop (slot_size * (d + 1)) old
  unfolding ascending
  slots_next h =
      let before = even_length slot_size (slot_of s) (slot_length s) d in
      rw (
        e,
        h,
        take_at (ascending d (slot_of s)) (drop (slot_size * d) old) (slot_size * d) before,
        drop_at (ascending d (slot_of s)) (drop (slot_size * d) old) (slot_size * d) before,
        drop-drop,
        add-sub_cancel_left,
        add-one,
        mul-suc,
      )
      (sym (append_assoc (ascending d (slot_of s)) (slot_of s d) (drop (slot_size * d + slot_size) old)))

  pub slots_end : length old ≡ slot_size * s.disks → d ≡ s.disks → now ≡ ascending s.disks (slot_of s)
  slots_end h l = e ∙ rw (l, ← h, drop-length, append-nil)

-- ---- where save is not refused

pub save_passed : (s : State) (slots : List ℕ) → first_of (save_refusals s slots) ≡ 0
    → Sound s × (length slots ≡ slot_size * s.disks)
unfolding save_refusals
save_passed s slots e =
    let no = none_by (save_refusals s slots) refl e in
    ((test_agrees s).0 (not-false _ (no 1)), eqb-true _ _ (not-false _ (no 2)))

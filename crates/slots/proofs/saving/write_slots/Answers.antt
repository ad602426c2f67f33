use mathlib.Core.Path.{refl}
use native.Mathlib.Nat.{le_refl}
use native.Mathlib.Omega.{arith}
use lib.ListN.{length-take, length-drop}
use borrow.Author.Rules.{rules}
use Rattle.label.specs.Bytes.{longest_label}
use Rattle.protocol.specs.Loops.{ascending}
use Rattle.protocol.specs.Saving.{slot_size}
use Rattle.protocol.proofs.Saving.{stored_taken}
use Rattle.slots.proofs.Written.{slots_next, slots_end}
use Rattle.slots.proofs.saving.write_slots.Goals as goal

pub write_slot-requires : goal.write_slot-requires
unfolding longest_label
write_slot-requires c = (
  simp (length-take, length-drop) (omega arith),
  rw c.from-disks.ensures (stored_taken c.args.s c.requires.0 _ (omega arith) slot_size (le_refl _)),
)

pub loop-d-preserved : goal.loop-d-preserved
unfolding longest_label
loop-d-preserved c =
    let l = c.loop-d in
    let a = c.args in (
      search rules,
      slots_next a.s a.slots.now l.slots l.d l.invariant.1 (rw c.from-disks.ensures at c.write_slot.ensures),
    )

pub returns : goal.returns
returns c =
    let l = c.loop-d in
    slots_end c.args.s c.args.slots.now l.slots l.d l.invariant.1 c.requires.1 (omega arith)

pub loop-d-init : goal.loop-d-init
unfolding ascending longest_label
loop-d-init c = (refl, refl)

pub slice_bounds-write_slot-end : goal.slice_bounds-write_slot-end
unfolding longest_label
slice_bounds-write_slot-end c = search rules

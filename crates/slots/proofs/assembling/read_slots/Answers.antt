use mathlib.Core.Path.{refl, sym}
use native.Mathlib.Omega.{arith}
use borrow.Author.Rules.{rules}
use Rattle.refusals.specs.Refusals.{first_of}
use Rattle.label.specs.Bytes.{longest_label}
use Rattle.protocol.specs.Loops.{ascending}
use Rattle.slots.proofs.Found.{slot_read, slot_passed, slot_stops, label_next}
use Rattle.slots.proofs.assembling.read_slots.Goals as goal

pub loop-d-init : goal.loop-d-init
unfolding ascending first_of longest_label
loop-d-init c = (refl, c.blank_labels-labels.ensures)

pub slice_bounds-read-count : goal.slice_bounds-read-count
unfolding longest_label
slice_bounds-read-count c = omega arith

pub slice_bounds-read-start : goal.slice_bounds-read-start
unfolding longest_label
slice_bounds-read-start c = search rules

pub returns-in_err-labels-clause-refused : goal.returns-in_err-labels-clause-refused
unfolding longest_label
returns-in_err-labels-clause-refused c =
    let a = c.args in
    let l = c.loop-d in
    let found = slot_read a.slots.now l.d c.read-read.ensures in
    let own = rw found at c.in_err-labels.ensures.refused in
    let all = slot_stops a.disks a.blocks a.slots.now l.d (omega arith) l.invariant.0 _ own in
    search rules

pub loop-d-preserved : goal.loop-d-preserved
unfolding longest_label
loop-d-preserved c =
    let a = c.args in
    let l = c.loop-d in
    let found = slot_read a.slots.now l.d c.read-read.ensures in (
      slot_passed a.disks a.blocks a.slots.now l.d l.invariant.0 (sym (rw found at c.in_ok-labels.ensures.refused)),
      label_next l.d a.slots.now (rw found at c.in_ok-labels.ensures.label) l.invariant.1 (omega arith),
    )

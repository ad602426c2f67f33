use mathlib.Core.Path.{◌≡◌}
use Rattle.refusals.specs.Refusals.{first_of}
use Rattle.slots.specs.Below.{refusals_below, labels_below}
use Rattle.slots.proofs.assembling.read_slots.Given as goal

-- after d iterations the slots of the disks below d are read, and none was refused
abbrev pub invariant-loop-d : goal.invariant-loop-d
invariant-loop-d l =
    (first_of (refusals_below l.d l.disks l.blocks l.slots) ≡ 0) × (l.labels ≡ labels_below l.d l.slots)

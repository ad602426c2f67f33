use mathlib.Core.Path.{◌≡◌}
use mathlib.Core.List.{◌++◌}
use Prim.Native.Nat.{◌*◌}
use lib.ListN.{length, drop}
use Rattle.protocol.specs.Loops.{ascending}
use Rattle.protocol.specs.States.{label_at}
use Rattle.protocol.specs.Saving.{slot_size, slot_bytes}
use Rattle.slots.proofs.saving.write_slots.Given as goal

-- after d iterations the slots of the disks below d are written
abbrev pub invariant-loop-d : goal.invariant-loop-d
invariant-loop-d l =
    (length l.slots ≡ length l.initial.slots)
    × (l.slots ≡ ascending l.d (λ i. slot_bytes i l.s.disks (label_at l.s.labels i)) ++ drop (slot_size * l.d)
    l.initial.slots)

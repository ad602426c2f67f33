-- What the slots of the disks below i give, of a cabinet of n disks.
use Rattle.std.specs.Prelude.{Bool, List, [], ◌∷◌, ℕ}
use Rattle.label.specs.declared.Label.{Label}
use Rattle.protocol.specs.Loops.{ascending}
use Rattle.protocol.specs.States.{filled_up}
use Rattle.protocol.specs.Bays.{bay_refusals}
use Rattle.protocol.specs.Saving.{slot_reading}

abbrev pub refusals_below : ℕ → ℕ → ℕ → List ℕ → List (ℕ × Bool)
refusals_below i n b slots = ascending i (λ d. bay_refusals d n b (slot_reading slots d))

-- their labels, and those of the other disks all zero
abbrev pub labels_below : ℕ → List ℕ → List Label
labels_below i slots = filled_up i (ascending i (λ d. (slot_reading slots d).label ∷ []))

-- Document 01, "What each call refuses": whether a label that was read is the label of its bay. Assembling asks it of
-- each slot, and a return of what the disk shows (document 02, 2.6).
use Rattle.std.specs.Prelude.{Bool, not, ◌&&◌, List, [], ◌∷◌, ℕ, eqb}
use Rattle.sets.specs.Sets.{below}
use Rattle.label.specs.declared.Reading.{Reading}
use Rattle.label.specs.Bytes.{encode}
use Rattle.protocol.specs.declared.State.{State}
use Rattle.protocol.specs.Geometry.{label_form, regions}
use Rattle.protocol.specs.States.{label_at}

-- "the label's own refusal; 18, its number or n is not this slot's; 22, a dirty bit names no region": of disk d of n
-- with b blocks
unfoldable pub bay_refusals : ℕ → ℕ → ℕ → Reading → List (ℕ × Bool)
bay_refusals d n b r =
    (r.refusal, not (eqb r.refusal 0)) ∷
    (18, not (eqb r.number d && eqb r.disks n)) ∷
    (22, not (below r.label.dirty (regions b))) ∷
    []

-- the label that the state holds for disk d, as label writing writes it
abbrev pub stored_label : State → ℕ → List ℕ
stored_label s d = encode label_form d s.disks (label_at s.labels d)

-- Whether two labels are the same.
use Rattle.std.specs.Prelude.{◌≡◌, ◌↔◌, Bool, true, ◌&&◌, eqb}
use Rattle.label.specs.declared.Label.{Label}

-- field by field
unfoldable pub same_label : Label → Label → Bool
same_label l m =
    eqb l.committed m.committed && (eqb l.tentative m.tentative && eqb l.dirty m.dirty)

-- The test passes exactly where they are.
abbrev pub ComparesLabels : Type 0
ComparesLabels = (l m : Label) → (same_label l m ≡ true) ↔ (l ≡ m)

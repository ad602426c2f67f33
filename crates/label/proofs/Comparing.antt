-- Labels that have the same fields are the same. Assumes nothing.
use mathlib.Core.Path.{◌≡◌, refl}
use lib.Dec.{eqb}
use borrow.Author.Tests.{eqb-true, eq-eqb}
use Rattle.sets.proofs.Tests.{and_parts}
use Rattle.label.specs.Comparing.{same_label, ComparesLabels}

pub compares_labels : ComparesLabels
unfolding same_label
compares_labels l m = (
  λ e.
      let (p, later) = and_parts (eqb l.committed m.committed) _ e in
      let (q, r) = and_parts (eqb l.tentative m.tentative) (eqb l.dirty m.dirty) later in
      by-fields (eqb-true _ _ p) (eqb-true _ _ q) (eqb-true _ _ r),
  λ e. rw (e, eq-eqb m.committed _ refl, eq-eqb m.tentative _ refl, eq-eqb m.dirty _ refl),
)
  where
    by-fields : l.committed ≡ m.committed → l.tentative ≡ m.tentative → l.dirty ≡ m.dirty → l ≡ m
    by-fields p q r i = record { committed = p i; tentative = q i; dirty = r i }

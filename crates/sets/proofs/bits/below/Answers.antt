use Rattle.std.proofs.Common.{sym, ◌∙◌}
use Rattle.std.proofs.lemmas.Bool.{le-leb}
use native.Mathlib.Nat.{lt_of_lt_of_le}
use lib.Pow.{pow_mono}
use Rattle.sets.proofs.Bounds.{below_shift, below_pow}
use Rattle.sets.proofs.bits.below.Goals as goal

pub returns-else-n-ge-WIDEST : goal.returns-else-n-ge-WIDEST
returns-else-n-ge-WIDEST g c = rw (← c.wide-wide.ensures) (below_shift _ _)

pub returns-then-n-ge-WIDEST : goal.returns-then-n-ge-WIDEST
returns-then-n-ge-WIDEST g c =
    rw (← c.wide-wide.ensures)
    (le-leb _ _ c.if-n-ge-WIDEST.true
    ∙ sym ((below_pow _ _).1 (lt_of_lt_of_le c.wide-wide.type_inv (pow_mono c.if-n-ge-WIDEST.true))))

use Rattle.std.proofs.Common.{sym, ◌∙◌}
use Rattle.std.proofs.lemmas.Bool.{le-ltb}
use lib.Bits.{and_mask}
use Rattle.sets.specs.Sets.{has}
use Rattle.sets.proofs.Membership.{has_above}
use Rattle.sets.proofs.bits.has.Goals as goal

pub returns-then-member-lt-WIDEST : goal.returns-then-member-lt-WIDEST
unfolding has
returns-then-member-lt-WIDEST g c = rw (← c.wide-wide.ensures, and_mask _ 1)

pub returns-else-member-lt-WIDEST : goal.returns-else-member-lt-WIDEST
returns-else-member-lt-WIDEST g c =
    rw (← c.wide-wide.ensures)
    (le-ltb _ _ c.if-member-lt-WIDEST.false ∙ sym (has_above _ _ _ c.wide-wide.type_inv c.if-member-lt-WIDEST.false))

use native.Mathlib.Nat.{pos_of_ne-zero}
use lib.Count.{count_trailing_zeros}
use Rattle.sets.specs.Sets.{lowest}
use Rattle.sets.proofs.LowestMember.{trailing_lowest}
use Rattle.sets.proofs.lowest.Goals as goal

pub returns-then-s-eq0 : goal.returns-then-s-eq0
unfolding lowest count_trailing_zeros
returns-then-s-eq0 c = rw c.if-s-eq0.true

pub returns-else-s-eq0 : goal.returns-else-s-eq0
returns-else-s-eq0 c = trailing_lowest _ _ c.ranges.s.fits (pos_of_ne-zero c.if-s-eq0.false)

use native.Mathlib.Omega.{arith}
use Rattle.sets.proofs.LowestMember.{lowest-below}
use Rattle.protocol.specs.States.{source}
use Rattle.recovery.specs.Copying.{others}
use Rattle.recovery.proofs.copying.others.Goals as goal

pub singleton-requires : goal.singleton-requires
unfolding source
singleton-requires c = rw c.source.ensures (lowest-below _ _ (omega arith) c.ranges.set.fits)

pub returns : goal.returns
unfolding others
returns c = rw (c.difference.ensures, c.singleton.ensures, c.source.ensures)

use mathlib.Core.Path.{refl}
use Rattle.sets.specs.Sets.{size}
use Rattle.sets.proofs.Cardinality.{size_most}
use Rattle.sets.proofs.size.Goals as goal

pub returns : goal.returns
unfolding size
returns c = (refl, size_most _ _ c.ranges.s.fits)

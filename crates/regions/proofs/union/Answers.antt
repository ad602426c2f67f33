use mathlib.Core.Path.{refl}
use Rattle.sets.specs.Sets.{union}
use Rattle.regions.proofs.union.Goals as goal

pub returns : goal.returns
unfolding union
returns c = refl

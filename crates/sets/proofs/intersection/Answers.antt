use Rattle.std.proofs.Common.{refl}
use Rattle.sets.specs.Sets.{intersection}
use Rattle.sets.proofs.intersection.Goals as goal

pub returns : goal.returns
unfolding intersection
returns c = refl

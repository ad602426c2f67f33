use Rattle.sets.proofs.Operations.{mask_complement}
use Rattle.sets.proofs.difference.Goals as goal

pub returns : goal.returns
returns c = mask_complement c.ranges.a c.ranges.b.fits

use native.Mathlib.Nat.{one-mul, mod-eq_of_lt}
use lib.Pow.{pow-lt}
use Rattle.sets.specs.Sets.{singleton}
use Rattle.sets.proofs.Operations.{mask_complement}
use Rattle.regions.proofs.cleared.Goals as goal

pub returns : goal.returns
unfolding singleton
returns c = rw (one-mul, mod-eq_of_lt (pow-lt c.requires)) (mask_complement c.ranges.map (pow-lt c.requires))

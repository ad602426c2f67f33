use native.Mathlib.Nat.{one-mul, mod-eq_of_lt}
use lib.Pow.{pow-lt}
use Rattle.sets.specs.Sets.{union, singleton}
use Rattle.regions.proofs.marked.Goals as goal

pub returns : goal.returns
unfolding union singleton
returns c = rw (one-mul, mod-eq_of_lt (pow-lt c.requires))

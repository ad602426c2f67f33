-- No refusal has the number 0, which a done call gives.
-- Assumes nothing.
use mathlib.Core.Path.{◌≡◌}
use mathlib.Core.Bool.{false}
use lib.Dec.{eqb}
use native.Mathlib.Omega.{arith}
use Rattle.refusals.specs.declared.Refusal.{Refusal}
use Rattle.refusals.specs.Refusals.{number_of}

pub refuses : (r : Refusal) → eqb (number_of r) 0 ≡ false
refuses r = grind arith

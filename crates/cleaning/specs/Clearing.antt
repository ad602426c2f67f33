-- What clean does to one region.
use Rattle.std.specs.Prelude.{cond, List, [], ◌∷◌, ℕ}
use Rattle.label.specs.declared.Label.{Label}
use Rattle.protocol.specs.Loops.{for_each}
use Rattle.protocol.specs.States.{is_dirty}
use Rattle.protocol.specs.Stores.{Store, clear}

-- "clear the bit on each disk of L, ascending, where it stands"
abbrev pub clears_of : ℕ → List Label → ℕ → ℕ → List Store
clears_of n labels set r = for_each n set (λ d. cond (is_dirty labels d r) (clear d r ∷ []) [])

-- What a restart does to one region, and to all.
use Rattle.std.specs.Prelude.{cond, List, [], ℕ}
use Rattle.sets.specs.Sets.{has}
use Rattle.protocol.specs.Geometry.{regions}
use Rattle.protocol.specs.Loops.{ascending}
use Rattle.protocol.specs.Stores.{Store}
use Rattle.protocol.specs.Lists.{resync}

-- "For each region, ascending, that is dirty", where the dirty ones are given as a map
abbrev pub resync_of : ℕ → ℕ → ℕ → ℕ → ℕ → List Store
resync_of n b dirty set r = cond (has dirty r) (resync n b set r) []

unfoldable pub resyncs_of : ℕ → ℕ → ℕ → ℕ → List Store
resyncs_of n b dirty set = ascending (regions b) (resync_of n b dirty set)

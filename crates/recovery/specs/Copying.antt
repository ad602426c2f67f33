-- The disks that a restart copies to.
use Rattle.std.specs.Prelude.{ℕ}
use Rattle.sets.specs.Sets.{difference, singleton}
use Rattle.protocol.specs.States.{source}

-- "each other member"
unfoldable pub others : ℕ → ℕ
others set = difference set (singleton (source set))

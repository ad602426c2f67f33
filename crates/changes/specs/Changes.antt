-- Stores on labels as code has them: what is changed, apart from the disk that it is changed on.
use Rattle.std.specs.Prelude.{ℕ, ◌<◌}
use Rattle.sets.specs.Sets.{union, difference, singleton}
use Rattle.label.specs.declared.Label.{Label}
use Rattle.protocol.specs.Geometry.{most_regions}
use Rattle.protocol.specs.Stores.{Store, mark, clear, propose, commit, with_dirty, with_tentative, with_committed}
use Rattle.changes.specs.declared.Change.{Change}
use Rattle.changes.specs.declared.Change.TheVariants.{Mark, Clear, Propose, Commit}

-- a region has its bit in the dirty map
abbrev pub FitChange : Change → Type 0
FitChange (Mark r) = r < most_regions
FitChange (Clear r) = r < most_regions
FitChange (Propose set) = Unit {0}
FitChange (Commit set) = Unit {0}

-- the paper's store
abbrev pub change_on : Change → ℕ → Store
change_on (Mark r) d = mark d r
change_on (Clear r) d = clear d r
change_on (Propose set) d = propose d set
change_on (Commit set) d = commit d set

-- what it leaves of a label
abbrev pub changed : Change → Label → Label
changed (Mark r) l = with_dirty l (union l.dirty (singleton r))
changed (Clear r) l = with_dirty l (difference l.dirty (singleton r))
changed (Propose set) l = with_tentative l set
changed (Commit set) l = with_committed l set

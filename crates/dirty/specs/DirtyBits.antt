-- Where dirty bits stand: for a region a set of disks, for some disks a map of regions.
use Rattle.std.specs.Prelude.{cond, ◌&&◌, List, ℕ, ltb}
use Rattle.sets.specs.Sets.{has}
use Rattle.label.specs.declared.Label.{Label}
use Rattle.protocol.specs.Geometry.{most_disks}
use Rattle.protocol.specs.Loops.{union_below, disks_where}
use Rattle.protocol.specs.States.{label_at, is_dirty}

-- the disks below n on which region r is dirty
unfoldable pub dirty_disks : ℕ → List Label → ℕ → ℕ
dirty_disks n labels r = disks_where most_disks (λ d. ltb d n && is_dirty labels d r)

-- the regions that are dirty on any disk of the set
unfoldable pub dirty_regions : List Label → ℕ → ℕ
dirty_regions labels set = union_below most_disks (λ d. cond (has set d) (label_at labels d).dirty 0)

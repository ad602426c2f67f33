use mathlib.Core.Path.{◌≡◌}
use mathlib.Core.Bool.{◌&&◌}
use lib.Dec.{ltb}
use Rattle.protocol.specs.Loops.{disks_where}
use Rattle.protocol.specs.States.{is_dirty}
use Rattle.dirty.proofs.dirty_disks.Given as goal

abbrev pub invariant-loop-d : goal.invariant-loop-d
invariant-loop-d l = l.set ≡ disks_where l.d (λ e. ltb e l.n && is_dirty l.labels e l.r)

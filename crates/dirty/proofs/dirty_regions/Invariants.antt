use mathlib.Core.Path.{◌≡◌}
use mathlib.Core.Bool.{cond}
use Rattle.sets.specs.Sets.{has}
use Rattle.protocol.specs.Loops.{union_below}
use Rattle.protocol.specs.States.{label_at}
use Rattle.dirty.proofs.dirty_regions.Given as goal

abbrev pub invariant-loop-d : goal.invariant-loop-d
invariant-loop-d l = l.map ≡ union_below l.d (λ e. cond (has l.set e) (label_at l.labels e).dirty 0)

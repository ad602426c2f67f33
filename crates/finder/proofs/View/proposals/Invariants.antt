use mathlib.Core.Path.{◌≡◌}
use Rattle.protocol.specs.Loops.{union_below}
use Rattle.protocol.specs.States.{tentative_at}
use Rattle.finder.proofs.View.proposals.Given as goal

abbrev pub invariant-loop-label : goal.invariant-loop-label
invariant-loop-label l = l.set ≡ union_below l.label-index (tentative_at l.self.labels)

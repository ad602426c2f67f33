use mathlib.Core.Path.{◌≡◌}
use Rattle.protocol.specs.Loops.{disks_where}
use Rattle.protocol.specs.States.{label_at}
use Rattle.protocol.specs.Naming.{backs}
use Rattle.finder.specs.Stages.{stage_of}
use Rattle.finder.proofs.View.backers.Given as goal

abbrev pub invariant-loop-d : goal.invariant-loop-d
invariant-loop-d l = l.set ≡ disks_where l.d (λ e. backs (stage_of l.stage) (label_at l.self.labels e) l.x)

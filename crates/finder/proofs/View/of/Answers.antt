use Rattle.protocol.proofs.Finder.{in_bounds}
use Rattle.finder.proofs.View.of.Goals as goal

pub invariant_of-result : goal.invariant_of-result
invariant_of-result c = record { within = rw c.from.ensures (in_bounds c.args.s c.requires) }

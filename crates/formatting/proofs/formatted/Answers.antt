use Rattle.protocol.specs.Calls.{formatted}
use Rattle.formatting.proofs.formatted.Goals as goal

pub returns : goal.returns
unfolding formatted
returns c = rw (c.state_of.ensures, c.formatted_labels.ensures, c.all-all.ensures)

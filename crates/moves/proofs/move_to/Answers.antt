use Rattle.protocol.specs.Lists.{proposals, commits, move}
use Rattle.budget.proofs.Runs.{in_sequence}
use Rattle.moves.proofs.move_to.Goals as goal

pub returns : goal.returns
unfolding move proposals commits
returns c b area = in_sequence b _ _ _ (c.store_labels-run.ensures b area) (c.store_labels.ensures b area)

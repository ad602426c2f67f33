use Rattle.label.specs.Rules.{wrong_sets}
use Rattle.label.proofs.rules.wrong_sets.Goals as goal

pub returns : goal.returns
unfolding wrong_sets
returns c = rw (c.wrong_set.ensures, c.wrong_set-2.ensures)

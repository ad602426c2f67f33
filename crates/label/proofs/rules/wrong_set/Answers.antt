use Rattle.label.specs.Rules.{wrong_set}
use Rattle.label.proofs.rules.wrong_set.Goals as goal

pub returns : goal.returns
unfolding wrong_set
returns c = rw (c.below.ensures, c.has.ensures)

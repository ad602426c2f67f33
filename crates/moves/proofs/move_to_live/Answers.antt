use mathlib.Core.Path.{sym, ◌∙◌}
use Rattle.protocol.specs.Lists.{move_to_live}
use Rattle.budget.specs.Runs.{run_all}
use Rattle.moves.proofs.move_to_live.Goals as goal

pub returns-then-all_live : goal.returns-then-all_live
unfolding move_to_live run_all
returns-then-all_live c b area = rw (sym c.all_live.ensures ∙ c.if-all_live.true)

pub returns : goal.returns
unfolding move_to_live
returns c b area =
    rw (sym c.all_live.ensures ∙ c.if-all_live.false)
    (rw (c.from.ensures, c.live.ensures) at (c.move_to.ensures b area))

use mathlib.Core.Path.{sym, ◌∙◌}
use Rattle.protocol.specs.Lists.{move_to_live}
use Rattle.storage.proofs.ReadAnswer.{no_stores}
use Rattle.storage.proofs.reading.read_stores.Goals as goal

pub returns-then-all_live : goal.returns-then-all_live
returns-then-all_live c area output =
    rw c.done.ensures
    (no_stores c.args.s c.args.budget area output c.requires.1
    (sym c.all_live.ensures ∙ c.if-all_live.true))

pub returns : goal.returns
unfolding move_to_live
returns c area output =
    rw (sym c.all_live.ensures ∙ c.if-all_live.false) (c.moved_to_live.ensures area output)

pub moved_to_live-requires : goal.moved_to_live-requires
moved_to_live-requires c = c.requires.0

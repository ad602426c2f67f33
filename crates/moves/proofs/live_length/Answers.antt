use mathlib.Core.Path.{sym, ◌∙◌}
use Rattle.protocol.specs.Lists.{move_to_live}
use Rattle.protocol.proofs.Soundness.{live_known}
use Rattle.moves.proofs.live_length.Goals as goal

pub returns-else-all_live : goal.returns-else-all_live
unfolding move_to_live
returns-else-all_live c =
    let s = c.args.s in
    let live = c.live.ensures in (
      λ fit. rw (sym c.all_live.ensures ∙ c.if-all_live.false)
          (rw live at (c.move_length.ensures.0 s.disks (rw live (live_known s fit)))),
      c.move_length.ensures.1,
    )

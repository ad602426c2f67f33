use Rattle.protocol.proofs.Soundness.{live_known}
use Rattle.budget.proofs.Carrying.{carried}
use Rattle.moves.proofs.moved_to_live.Goals as goal

pub returns : goal.returns
returns c area output =
    let s = c.args.s in
    let live = c.live-live.ensures in
    let moved = rw (c.from.ensures, live, c.started.ensures) at (c.move_to-run.ensures s.blocks area) in
    let known = live_known s c.requires in
    let length = rw live at (c.move_length-stores.ensures.0 s.disks (rw live known)) in
    rw (c.ended.ensures, live) (carried s _ _ c.args.budget _ area _ output moved _ length)

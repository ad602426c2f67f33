use native.Mathlib.Omega.{arith}
use Rattle.sets.proofs.Bounds.{below_with}
use Rattle.protocol.proofs.States.{source_known}
use Rattle.protocol.proofs.Soundness.{live_known}
use Rattle.budget.proofs.Carrying.{carried}
use Rattle.budget.proofs.Sizes.{sound-fits}
use Rattle.storage.proofs.JoinList.{join_ran, join_length}
use Rattle.storage.proofs.joining.join_stores.Goals as goal

pub overflow_add-stores : goal.overflow_add-stores
overflow_add-stores c =
    rw c.from-size.ensures (omega (arith, c.requires.0.fit.range.blocks))

pub overflow_add-stores-2 : goal.overflow_add-stores-2
overflow_add-stores-2 c =
    rw c.from-size.ensures (omega (arith, c.requires.0.fit.range.blocks))

pub copy_disk-run-requires : goal.copy_disk-run-requires
copy_disk-run-requires c =
    let s = c.args.s in
    let fit = c.requires.0.fit in
    rw (c.from-size.ensures, c.source.ensures, c.live-live.ensures)
    (sound-fits c.requires.0, source_known s.disks _ c.requires.1 (live_known s fit), c.requires.2)

pub move_to-run-requires : goal.move_to-run-requires
move_to-run-requires c =
    rw c.from-size.ensures c.requires.0.fit.range.disks

pub returns : goal.returns
returns c output =
    let s = c.args.s in
    let d = c.args.d in
    let area = c.args.area.now in
    let fit = c.requires.0.fit in
    let live = c.live-live.ensures in
    let size = c.from-size.ensures in
    let new = c.singleton-new.ensures in
    let joined = c.union-joined.ensures in
    let moved = rw c.started.ensures at (c.move_to_live-run.ensures s.blocks area) in
    let filled = rw (size, c.source.ensures, live) at c.copy_disk-run.ensures in
    let last =
    rw (size, joined, live, new) at (c.move_to-run.ensures s.blocks c.copy_disk-run.new.area) in
    let moves = c.live_length.ensures.0 fit in
    let known = below_with _ d s.disks (live_known s fit) c.requires.2 in
    let ends = rw (joined, live, new) at (c.move_length.ensures.0 s.disks (rw (joined, live, new) known)) in
    rw (c.ended.ensures, joined, live, new)
    (carried s _ _ c.args.budget _ area _ output (join_ran s d _ moved filled last) _
    (rw size (omega (arith, moves, ends, join_length s d))))

use native.Mathlib.Omega.{arith}
use Rattle.protocol.specs.Geometry.{region_of}
use Rattle.budget.proofs.Carrying.{carried}
use Rattle.budget.proofs.Sizes.{sound-fits}
use Rattle.storage.proofs.WriteList.{write_ran, write_length}
use Rattle.storage.proofs.writing.write_stores.Goals as goal

pub dirty_disks-requires : goal.dirty_disks-requires
dirty_disks-requires c =
    rw c.from-size.ensures c.requires.0.fit.range.disks

pub store_labels-run-requires : goal.store_labels-run-requires
store_labels-run-requires c = (
  rw c.from-size.ensures c.requires.0.fit.range.disks,
  omega (arith, c.requires.0.fit.range.blocks, c.requires.1),
)

pub store_blocks-run-requires : goal.store_blocks-run-requires
store_blocks-run-requires c =
    rw c.from-size.ensures (sound-fits c.requires.0, c.requires.1)

pub returns : goal.returns
unfolding region_of
returns c output =
    let s = c.args.s in
    let k = c.args.k in
    let bytes = c.args.bytes.now in
    let area = c.args.area.now in
    let fit = c.requires.0.fit in
    let live = c.live-live.ensures in
    let size = c.from-size.ensures in
    let unmarked = c.difference-unmarked.ensures in
    let dirty = c.dirty_disks.ensures in
    let moved = rw c.started.ensures at (c.move_to_live-run.ensures s.blocks area) in
    let marked = rw (size, unmarked, live, dirty, size) at (c.store_labels-run.ensures s.blocks area) in
    let stored = rw (size, live, c.from_slice.ensures) at c.store_blocks-run.ensures in
    let moves = c.live_length.ensures.0 fit in
    let marks = rw (unmarked, live, dirty, size) at c.size.ensures.0 in
    let blocks = rw live at c.size-2.ensures.0 in
    rw (c.ended.ensures, live)
    (carried s _ _ c.args.budget _ area _ output
    (write_ran s k bytes fit.range.disks _ moved marked stored) _
    (omega (arith, moves, marks, blocks, write_length s k bytes fit)))

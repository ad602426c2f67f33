use native.Mathlib.Omega.{arith}
use lib.ListN.{length-append}
use Rattle.protocol.specs.Lists.{commits, restart_list}
use Rattle.budget.proofs.Runs.{in_sequence}
use Rattle.dirty.specs.DirtyBits.{dirty_regions}
use Rattle.budget.proofs.Lengths.{commits_size}
use Rattle.budget.proofs.Carrying.{carried}
use Rattle.budget.proofs.Sizes.{sound-fits}
use Rattle.recovery.specs.RegionLists.{resyncs_of}
use Rattle.recovery.proofs.RestartList.{resyncs_by_regions}
use Rattle.recovery.proofs.restarting.restart_stores.Goals as goal

pub resyncs_length-requires : goal.resyncs_length-requires
resyncs_length-requires c =
    rw c.from-size.ensures (c.requires.0.fit.range.blocks, c.requires.2)

pub resync_all-run-requires : goal.resync_all-run-requires
resync_all-run-requires c =
    rw c.from-size.ensures (sound-fits c.requires.0, c.requires.1, c.requires.2)

pub store_labels-run-requires : goal.store_labels-run-requires
store_labels-run-requires c =
    (rw c.from-size.ensures c.requires.0.fit.range.disks, tt)

pub returns : goal.returns
unfolding restart_list commits
returns c output =
    let s = c.args.s in
    let set = c.args.set in
    let area = c.args.area.now in
    let size = c.from-size.ensures in
    let dirty = c.dirty_regions-dirty.ensures in
    let stores = resyncs_of s.disks s.blocks (dirty_regions s.labels set) set in
    let resynced = rw (size, dirty, c.started.ensures) at c.resync_all-run.ensures in
    let committed = rw size at (c.store_labels-run.ensures s.blocks c.resync_all-run.new.area) in
    let length = rw (size, dirty) at c.resyncs_length.ensures.0 in
    let members = commits_size s.disks set c.requires.2 in
    rw (
      c.ended.ensures,
      resyncs_by_regions s.disks s.blocks set s.labels c.requires.0.fit.range.disks c.requires.2,
    )
    (carried s _ _ c.args.budget _ area _ output (in_sequence s.blocks stores _ _ resynced committed) _
    (omega (arith, length, c.size.ensures.0, members, length-append stores (commits s.disks set))))

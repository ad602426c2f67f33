use mathlib.Core.Path.{◌≡◌, refl}
use native.Mathlib.Omega.{arith}
use Rattle.protocol.specs.Geometry.{regions}
use Rattle.protocol.specs.Loops.{ascending}
use Rattle.budget.proofs.Lengths.{length_next}
use Rattle.recovery.specs.RegionLists.{resyncs_of}
use Rattle.recovery.proofs.RestartList.{nothing_dirty}
use Rattle.recovery.proofs.resyncing.resyncs_length.Goals as goal

pub resync_length-stores-requires : goal.resync_length-stores-requires
unfolding regions
resync_length-stores-requires c =
    (c.requires.1, omega arith)

pub overflow_add-stores : goal.overflow_add-stores
unfolding regions
overflow_add-stores c = omega arith

pub loop-r-preserved : goal.loop-r-preserved
loop-r-preserved c =
    (length_next _ _ c.loop-r.invariant.0 c.resync_length-stores.ensures.0, omega arith)

pub returns-then-dirty-eq0 : goal.returns-then-dirty-eq0
returns-then-dirty-eq0 c = (rw (c.if-dirty-eq0.true, nothing_dirty), omega arith)

pub returns : goal.returns
unfolding regions resyncs_of
returns c =
    let e : c.loop-r.r ≡ regions c.args.size.blocks = omega arith in
    (rw e at c.loop-r.invariant.0, omega arith)

pub loop-r-init : goal.loop-r-init
unfolding ascending
loop-r-init c = (refl, omega arith)

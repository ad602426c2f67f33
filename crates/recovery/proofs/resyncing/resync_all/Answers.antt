use mathlib.Core.Path.{◌≡◌, refl}
use native.Mathlib.Omega.{arith}
use Rattle.protocol.specs.Geometry.{regions}
use Rattle.protocol.specs.Loops.{ascending}
use Rattle.budget.specs.Runs.{run_all}
use Rattle.budget.proofs.Runs.{run_next}
use Rattle.budget.proofs.Sizes.{still_fits}
use Rattle.recovery.specs.RegionLists.{resyncs_of}
use Rattle.recovery.proofs.RestartList.{nothing_dirty}
use Rattle.recovery.proofs.resyncing.resync_all.Goals as goal

pub resync-run-requires : goal.resync-run-requires
resync-run-requires c =
    let pre = c.requires in
    (still_fits pre.0 c.loop-r.invariant.0, pre.1, pre.2, omega arith)

pub loop-r-preserved : goal.loop-r-preserved
loop-r-preserved c = (
  omega arith,
  run_next _ _ _ _ c.loop-r.invariant.1 c.resync-run.ensures,
)

pub returns-then-dirty-eq0 : goal.returns-then-dirty-eq0
unfolding run_all
returns-then-dirty-eq0 c = rw (c.if-dirty-eq0.true, nothing_dirty)

pub returns : goal.returns
unfolding resyncs_of
returns c =
    let size = c.args.size in
    let e : c.loop-r.r ≡ regions size.blocks = omega arith in
    rw e at c.loop-r.invariant.1

pub loop-r-init : goal.loop-r-init
unfolding ascending run_all
loop-r-init c = (refl, refl)

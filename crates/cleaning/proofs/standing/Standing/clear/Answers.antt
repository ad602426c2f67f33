use mathlib.Core.Path.{◌≡◌, refl}
use native.Mathlib.Omega.{arith}
use Rattle.protocol.specs.Stores.{clear}
use Rattle.protocol.specs.Loops.{ascending}
use Rattle.budget.specs.Runs.{run_all}
use Rattle.budget.proofs.Runs.{run_next}
use Rattle.dirty.proofs.DirtyBits.{where_stands}
use Rattle.cleaning.specs.Clearing.{clears_of}
use Rattle.cleaning.proofs.standing.Standing.clear.Goals as goal

pub loop-r-init : goal.loop-r-init
unfolding ascending run_all
loop-r-init c b area = refl

pub loop-r-preserved : goal.loop-r-preserved
loop-r-preserved c b area =
    let l = c.loop-r in
    let v = c.args.self.now in
    run_next b (clears_of v.disks v.labels v.set) l.r _ (l.invariant b area)
    (rw (where_stands v.labels l.r v.disks v.within.0 v.set (λ d. clear d l.r))
    (rw c.on.ensures at (c.store_labels-run.ensures b area)))

pub returns : goal.returns
returns c b area =
    let e : c.loop-r.r ≡ c.args.self.now.regions = omega arith in rw e at (c.loop-r.invariant b area)

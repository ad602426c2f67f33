use mathlib.Core.Path.{◌≡◌, refl}
use native.Mathlib.Omega.{arith}
use Rattle.protocol.specs.Stores.{clear}
use Rattle.protocol.specs.Loops.{ascending}
use Rattle.dirty.proofs.DirtyBits.{standing_size}
use Rattle.budget.proofs.Lengths.{length_next}
use Rattle.cleaning.specs.Clearing.{clears_of}
use Rattle.cleaning.proofs.standing.Standing.count.Goals as goal

pub loop-r-preserved : goal.loop-r-preserved
loop-r-preserved c =
    let l = c.loop-r in
    let v = c.args.self.now in
    let size = standing_size v.labels l.r v.disks v.within.0 v.set (λ d. clear d l.r) in
    let here = rw (← size) at (rw c.on.ensures at c.size-bits.ensures.0) in
    (length_next (clears_of v.disks v.labels v.set) l.r l.invariant.0 here, omega arith)

pub returns : goal.returns
returns c =
    let e : c.loop-r.r ≡ c.args.self.now.regions = omega arith in rw e at c.loop-r.invariant.0

pub loop-r-init : goal.loop-r-init
unfolding ascending
loop-r-init c = (refl, omega arith)

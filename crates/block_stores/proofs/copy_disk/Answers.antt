use mathlib.Core.Path.{refl}
use native.Mathlib.Omega.{arith}
use Rattle.protocol.specs.Loops.{ascending}
use Rattle.protocol.specs.Stores.{copy}
use Rattle.budget.specs.Runs.{progress, run_all}
use Rattle.budget.proofs.Runs.{run_next, power_gone}
use Rattle.budget.proofs.Sizes.{still_fits}
use Rattle.block_stores.proofs.Copying.{in_area, copy_made}
use Rattle.block_stores.proofs.copy_disk.Goals as goal
use Rattle.block_stores.proofs.copy_disk.Goals.{then-run-ne0, else-run-ne0}

pub load-requires : goal.load-requires
load-requires c =
    in_area _ _ _ _ _ (still_fits c.requires.0 c.loop-k.invariant.0) c.requires.1 (omega arith)

pub store-requires : goal.store-requires
store-requires c =
    in_area _ _ _ _ _ (still_fits c.requires.0 c.loop-k.invariant.0) c.requires.2 (omega arith)

pub loop-k-preserved : goal.loop-k-preserved
loop-k-preserved c =
    let at = c.loop-k in
    let a = c.args in
    elim c.if-run-ne0.branch [
      | then-run-ne0 w ↦
          let made = copy_made a.size.blocks a.from a.to at.k at.run at.area w.if-run-ne0.true in (
            rw w.area-is (omega (arith, w.store.auto.area)),
            run_next _ _ _ _ at.invariant.1 (rw (w.run-is, w.area-is, w.store.ensures, w.load.ensures) made),
          )
      | else-run-ne0 w ↦
          let none = power_gone a.size.blocks (copy a.from a.to at.k) (progress at.run at.area) w.if-run-ne0.false in (
            rw w.area-is at.invariant.0,
            run_next _ _ _ _ at.invariant.1 (rw (w.run-is, w.area-is) none),
          )
    ]

pub loop-k-init : goal.loop-k-init
unfolding ascending run_all
loop-k-init c = (refl, refl)

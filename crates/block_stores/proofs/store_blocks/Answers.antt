use mathlib.Core.Path.{refl}
use native.Mathlib.Omega.{arith}
use Rattle.protocol.specs.Stores.{write}
use Rattle.protocol.specs.Loops.{ascending, for_each}
use Rattle.budget.specs.Runs.{progress, run_all}
use Rattle.budget.proofs.Runs.{run_next, none_made}
use Rattle.budget.proofs.Sizes.{still_fits}
use Rattle.block_stores.proofs.Copying.{in_area, block_made}
use Rattle.block_stores.proofs.store_blocks.Goals as goal
use Rattle.block_stores.proofs.store_blocks.Goals.{then-run-has, else-run-has}

pub store-requires : goal.store-requires
store-requires c =
    in_area _ _ _ _ _ (still_fits c.requires.0 c.loop-d.invariant.0) (omega arith) c.requires.1

pub loop-d-preserved : goal.loop-d-preserved
unfolding for_each
loop-d-preserved c =
    let at = c.loop-d in
    let a = c.args in
    let asked = c.has.ensures in
    elim c.if-run-has.branch [
      | then-run-has w ↦
          let made = block_made a.size.blocks a.set at.d a.k a.bytes at.run at.area (rw asked at w.if-run-has.true) in (
            rw w.area-is (omega (arith, w.store.auto.area)),
            run_next _ _ _ _ at.invariant.1 (rw (w.run-is, w.area-is, w.store.ensures) made),
          )
      | else-run-has w ↦
          let none = none_made a.size.blocks a.set at.d (write at.d a.k a.bytes) (progress at.run at.area)
          (rw asked at w.if-run-has.false) in (
            rw w.area-is at.invariant.0,
            run_next _ _ _ _ at.invariant.1 (rw (w.run-is, w.area-is) none),
          )
    ]

pub loop-d-init : goal.loop-d-init
unfolding for_each ascending run_all
loop-d-init c = (refl, refl)

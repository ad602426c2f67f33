use mathlib.Core.Path.{refl}
use native.Mathlib.Omega.{arith}
use Rattle.protocol.specs.Loops.{ascending}
use Rattle.budget.specs.Runs.{run_all}
use Rattle.budget.proofs.Runs.{run_next}
use Rattle.budget.proofs.Sizes.{still_fits}
use Rattle.block_stores.proofs.copy_blocks.Goals as goal

pub copy_block-run-requires : goal.copy_block-run-requires
copy_block-run-requires c =
    let pre = c.requires in
    (still_fits pre.0 c.loop-i.invariant.0, pre.1, pre.2, omega arith)

pub loop-i-preserved : goal.loop-i-preserved
loop-i-preserved c = (omega arith, run_next _ _ _ _ c.loop-i.invariant.1 c.copy_block-run.ensures)

pub loop-i-init : goal.loop-i-init
unfolding ascending run_all
loop-i-init c = (refl, refl)

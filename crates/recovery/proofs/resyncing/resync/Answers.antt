use mathlib.Core.Path.{◌∙◌, sym}
use native.Mathlib.Omega.{arith}
use Rattle.protocol.specs.Geometry.{regions}
use Rattle.protocol.proofs.States.{source_known}
use Rattle.budget.specs.Runs.{run_all}
use Rattle.protocol.proofs.RegionBlocks.{region_inside}
use Rattle.recovery.proofs.RestartList.{source_apart, resync-ran}
use Rattle.recovery.proofs.resyncing.resync.Goals as goal

pub returns-then-not-has : goal.returns-then-not-has
unfolding run_all
returns-then-not-has c = rw (sym c.has.ensures ∙ c.if-not-has.true)

pub overflow_mul-first : goal.overflow_mul-first
unfolding regions
overflow_mul-first c = omega (arith, c.requires.0.blocks, c.requires.3)

pub region_blocks-count-requires : goal.region_blocks-count-requires
unfolding regions
region_blocks-count-requires c = omega (arith, c.requires.3)

pub copy_blocks-run-requires : goal.copy_blocks-run-requires
unfolding regions
copy_blocks-run-requires c =
    let a = c.args in
    let known = source_known a.size.disks a.set c.requires.1 c.requires.2 in
    let inside = region_inside a.size.blocks a.r (omega (arith, c.requires.3)) in
    rw (c.others.ensures, c.source.ensures, c.region_blocks-count.ensures)
    (c.requires.0, known, source_apart a.set, inside)

pub store_labels-requires : goal.store_labels-requires
unfolding regions
store_labels-requires c =
    (c.requires.0.disks, omega (arith, c.requires.0.blocks, c.requires.3))

pub returns : goal.returns
returns c =
    let a = c.args in
    let others = c.others.ensures in
    let source = c.source.ensures in
    let blocks = c.region_blocks-count.ensures in
    let copied = rw (others, source, blocks) at c.copy_blocks-run.ensures in
    rw (sym c.has.ensures ∙ c.if-not-has.false)
    (resync-ran a.size.disks a.size.blocks a.set a.r _ copied
    (c.store_labels.ensures a.size.blocks _))

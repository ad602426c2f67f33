use mathlib.Core.Path.{sym, ◌∙◌}
use native.Mathlib.Omega.{arith}
use Rattle.recovery.proofs.RestartList.{resync_size, resync_most}
use Rattle.protocol.proofs.RegionBlocks.{region_short}
use Rattle.recovery.proofs.resyncing.resync_length.Goals as goal

pub overflow_mul-result : goal.overflow_mul-result
overflow_mul-result c =
    let blocks = c.region_blocks.result in
    omega (
      arith,
      resync_most blocks c.size.result (rw c.region_blocks.ensures (region_short _ _))
          c.size.ensures.1,
    )

pub overflow_add-result : goal.overflow_add-result
overflow_add-result c =
    let blocks = c.region_blocks.result in
    omega (
      arith,
      resync_most blocks c.size.result
          (rw c.region_blocks.ensures (region_short _ _)) c.size.ensures.1,
    )

pub returns-then-has : goal.returns-then-has
returns-then-has c =
    let a = c.args in
    let dirty = sym c.has.ensures ∙ c.if-has.true in
    let blocks = c.region_blocks.ensures in
    let others = rw c.others.ensures at c.size.ensures.0 in (
      rw (
        dirty,
        resync_size a.size.disks a.size.blocks a.set a.r c.requires.0,
        blocks,
        others,
        c.size-then-has.ensures.0,
      ),
      omega (
        arith,
        resync_most c.region_blocks.result c.size.result (rw blocks (region_short _ _))
            c.size.ensures.1,
      ),
    )

pub returns-else-has : goal.returns-else-has
returns-else-has c = (rw (sym c.has.ensures ∙ c.if-has.false), omega arith)

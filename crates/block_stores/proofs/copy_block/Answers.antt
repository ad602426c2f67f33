use mathlib.Core.Path.{◌∙◌}
use Rattle.budget.specs.Runs.{progress}
use Rattle.block_stores.proofs.Copying.{in_area, loaded_once}
use Rattle.block_stores.proofs.copy_block.Goals as goal

pub load-bytes-requires : goal.load-bytes-requires
load-bytes-requires c =
    let pre = c.requires in
    in_area _ _ _ _ _ pre.0 pre.1 pre.3

pub returns : goal.returns
returns c =
    let a = c.args in
    let pre = c.requires in
    rw (← c.load-bytes.ensures) c.store_blocks.ensures
    ∙ loaded_once a.size.disks a.size.blocks a.from a.k a.set (progress a.run a.area.now)
    pre.1 pre.3 pre.2 pre.0.size

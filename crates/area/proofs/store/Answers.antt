use native.Mathlib.Omega.{arith}
use Rattle.area.proofs.Parts.{disk_stores}
use Rattle.area.proofs.store.Goals as goal

pub returns : goal.returns
returns c =
    disk_stores _ _ _ _ _ _ c.requires c.part.ensures.start c.part.ensures.end _ _
    (omega arith) c.store_block.ensures

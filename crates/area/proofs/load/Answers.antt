use Rattle.area.proofs.Parts.{disk_loads}
use Rattle.area.proofs.load.Goals as goal

pub returns : goal.returns
returns c =
    disk_loads _ _ _ _ c.part.result.start c.part.result.end c.requires c.part.ensures.start
    c.part.ensures.end _ c.load_block.ensures

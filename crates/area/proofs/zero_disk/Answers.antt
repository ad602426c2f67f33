use Rattle.area.proofs.Parts.{disk_clears}
use Rattle.area.proofs.zero_disk.Goals as goal

pub returns : goal.returns
returns c =
    disk_clears _ _ _ _ _ _ c.requires c.part-disk.ensures.start c.part-disk.ensures.end _
    (c.fill.ensures.after (λ y same. same))

use Rattle.finder.specs.Stages.{stage_of}
use Rattle.finder.proofs.Masks.{candidate_by_masks}
use Rattle.finder.proofs.View.is_candidate.Goals as goal

pub returns : goal.returns
returns c =
    let v = c.args.self.now in
    rw (
      c.intersection-2.ensures,
      c.subset.ensures,
      c.intersection.ensures,
      c.holders-holding.ensures,
      c.backers-backing.ensures,
    ) (candidate_by_masks (stage_of c.args.stage) v.disks v.online v.labels v.within.0 v.within.1 c.args.x)

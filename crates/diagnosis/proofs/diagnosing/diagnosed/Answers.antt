use Rattle.protocol.specs.Diagnosis.{diagnosed}
use Rattle.protocol.proofs.Finder.{finds_found}
use Rattle.diagnosis.proofs.diagnosing.diagnosed.Goals as goal

pub returns : goal.returns
unfolding diagnosed
returns c number asked =
    let view = c.of-view.ensures in
    rw (
      c.set_without.ensures,
      c.find.ensures,
      c.reason_for-reason.ensures,
      view.disks,
      view.online,
      view.labels,
      finds_found c.args.s c.requires.0,
      c.own_set.ensures,
      asked,
    )

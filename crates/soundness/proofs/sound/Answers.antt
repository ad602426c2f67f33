use Rattle.soundness.specs.Clauses.{sound_given, sound_by_clauses}
use Rattle.soundness.proofs.Clauses.{clauses_agree}
use Rattle.soundness.proofs.sound.Goals as goal

pub returns : goal.returns
unfolding sound_by_clauses sound_given
returns c =
    let s = c.args.s in
    rw (
      c.in_range.ensures,
      c.below-known.ensures,
      c.union-named.ensures,
      c.union.ensures,
      c.below-regions_known.ensures,
      c.region_count.ensures,
      c.survey_labels-survey.ensures,
      c.filled.ensures,
      c.current-g.ensures,
      c.from-n.ensures,
      c.from-b.ensures,
    )
    (clauses_agree s)

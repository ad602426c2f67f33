use Rattle.label.specs.Reading.{reading}
use Rattle.label_reader.proofs.read_as.Goals as goal

pub returns : goal.returns
unfolding reading
returns c =
    rw (
      c.judge.ensures,
      c.fields-label.ensures,
      c.from-number.ensures,
      c.from.ensures,
      c.byte_at-place.ensures,
      c.byte_at-map.ensures,
    )

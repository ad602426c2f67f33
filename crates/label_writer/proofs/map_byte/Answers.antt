use Rattle.label.specs.Bytes.{map_byte}
use Rattle.label_writer.proofs.map_byte.Goals as goal

pub returns : goal.returns
unfolding map_byte
returns c =
    rw (
      c.present-dirty.ensures.0,
      c.from.ensures,
      c.present-tentative.ensures.0,
      c.number-2.ensures,
      c.present-committed.ensures.0,
      c.number.ensures,
    )

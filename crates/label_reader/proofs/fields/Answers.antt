use native.Mathlib.Nat.{lt_of_lt_of_le}
use lib.Pow.{pow_mono}
use Rattle.label.specs.Bytes.{fields_of}
use Rattle.label.proofs.Fields.{field_small}
use Rattle.label_reader.proofs.fields.Goals as goal

pub from_number-requires : goal.from_number-requires
from_number-requires c =
    rw c.field.ensures
    (lt_of_lt_of_le
    (field_small c.args.bytes.now _ _ _ (λ i. (c.shared_slice_known-1.given i).fits))
    (pow_mono c.requires.held))

pub from_number-requires-2 : goal.from_number-requires-2
from_number-requires-2 c =
    rw c.field-2.ensures
    (lt_of_lt_of_le
    (field_small c.args.bytes.now _ _ _ (λ i. (c.shared_slice_known-1.given i).fits))
    (pow_mono c.requires.held))

pub overflow_cast-result : goal.overflow_cast-result
overflow_cast-result c =
    record {
      fits = rw c.field-3.ensures
          (field_small c.args.bytes.now _ 1 _ (λ i. (c.shared_slice_known-1.given i).fits));
    }

pub returns : goal.returns
unfolding fields_of
returns c =
    rw (
      c.field-3.ensures,
      c.from_number-2.ensures,
      c.field-2.ensures,
      c.from_number.ensures,
      c.field.ensures,
      c.field_length.ensures.0,
      c.field_length-second.ensures.0,
    )

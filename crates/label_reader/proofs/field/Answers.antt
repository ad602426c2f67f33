use mathlib.Core.Path.{sym}
use Rattle.label.specs.Bytes.{field_at}
use Rattle.label.proofs.Fields.{not_read}
use Rattle.label_reader.proofs.field.Goals as goal

pub returns-then-bit-eq1 : goal.returns-then-bit-eq1
unfolding field_at
returns-then-bit-eq1 c = rw c.if-bit-eq1.true c.number_at.ensures

pub returns-else-bit-eq1 : goal.returns-else-bit-eq1
returns-else-bit-eq1 c = sym (not_read _ _ _ _ c.if-bit-eq1.false)

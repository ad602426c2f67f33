use mathlib.Core.Path.{refl}
use Rattle.label.specs.Reading.{empty_field}
use Rattle.label_reader.proofs.empty_field.Goals as goal

pub returns : goal.returns
unfolding empty_field
returns c = refl

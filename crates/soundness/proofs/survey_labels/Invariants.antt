use mathlib.Core.Path.{◌≡◌}
use Rattle.soundness.specs.Clauses.{survey_below}
use Rattle.soundness.proofs.survey_labels.Given as goal

abbrev pub invariant-loop-d : goal.invariant-loop-d
invariant-loop-d l = l.survey ≡ survey_below l.n l.g l.labels l.d

use mathlib.Core.Path.{◌∙◌}
use mathlib.Core.Bool.{Bool}
use lib.Dec.{eqb}
use Rattle.label.specs.declared.Label.{Label}
use native.Mathlib.Omega.{arith}
use Rattle.std.proofs.Common.{rules, tests}
use Rattle.std.proofs.lemmas.Iterator.{YieldsList-from_slice}
use Rattle.std.proofs.lemmas.Iterator.Search.{any_from_yields_List}
use Rattle.protocol.specs.Finder.{tried, tried_at, repeated}
use Rattle.finder.specs.Stages.{stage_of}
use Rattle.finder.proofs.Shortlists.{some_of_first}
use Rattle.finder.proofs.View.repeated.Goals as goal

pub returns : goal.returns
unfolding repeated
returns c =
    let a = c.args in
    let labels = a.self.now.labels in
    let same : Label → Bool = λ l. eqb (tried_at (stage_of a.stage) labels a.d) (tried (stage_of a.stage) l) in
    any_from_yields_List same _ _ _ c.any.ensures.ran (YieldsList-from_slice _ (search rules))
    (λ x b q k. search (rules, tests))
    ∙ some_of_first same labels a.d (omega arith)

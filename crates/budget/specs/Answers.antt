-- The answer of a call with a list of so many stores, of which as many were made as the budget allows; these
-- labels are what they left.
use Rattle.std.specs.Prelude.{cond, List, ℕ, ltb}
use Rattle.label.specs.declared.Label.{Label}
use Rattle.protocol.specs.declared.Answer.{Answer}
use Rattle.protocol.specs.declared.State.{State}
use Rattle.protocol.specs.declared.Power.TheVariants.{Stopped, Running}
use Rattle.protocol.specs.States.{with_labels}

unfoldable pub answered : State → List Label → ℕ → ℕ → ℕ → Answer
answered s labels stores g budget = record {
  refusal = cond (ltb budget stores) 15 0;
  stores = cond (ltb budget stores) budget stores;
  state = with_labels s labels (cond (ltb budget stores) Stopped (Running g));
}

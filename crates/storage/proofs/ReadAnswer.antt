-- A read's answer, once its move was carried out: with the block in the output where all stores were made, and the
-- output as it was where the power went. Assumes nothing.
use mathlib.Core.Path.{◌≡◌, refl, sym, ap, ◌∙◌}
use mathlib.Core.Logic.{◌≢◌}
use mathlib.Core.Bool.{true}
use mathlib.Core.List.{List, []}
use Prim.Native.Nat.{ℕ}
use native.Mathlib.Omega.{arith}
use lib.Dec.{eqb}
use borrow.Author.Tests.{eqb-true}
use Rattle.protocol.specs.declared.Answer.{Answer}
use Rattle.protocol.specs.declared.State.{State}
use Rattle.protocol.specs.declared.Power.TheVariants.{Running}
use Rattle.protocol.specs.Geometry.{block}
use Rattle.protocol.specs.States.{with_labels, current_of, live, source}
use Rattle.protocol.specs.Stores.{apply_all}
use Rattle.protocol.specs.Lists.{move_to_live}
use Rattle.protocol.specs.Outcomes.{Outcome, yields, outcome, runs_with, carry_out}
use Rattle.protocol.specs.Calls.{copies_out}
use Rattle.protocol.proofs.Outcomes.{is_whole, went_on, left_off}

-- where L is G there is no store to make
pub no_stores : (s : State) (budget : ℕ) (area output : List ℕ) → s.power ≡ Running (current_of s.power)
    → eqb (live s) (current_of s.power) ≡ true
    → yields (record { refusal = 0; stores = 0; state = s }) area output
    ≡ carry_out (move_to_live s) budget s area output (runs_with (live s) s output)
unfolding move_to_live apply_all
no_stores s budget area output runs same =
    rw same
    (ap (λ power. outcome 0 0 (with_labels s s.labels power) area output)
    (runs ∙ ap Running (sym (eqb-true _ _ same)))
    ∙ sym (is_whole [] budget s area output (runs_with (live s) s output) (omega arith)))

-- the block in the output, where all stores were made
module _ (s : State) (k budget : ℕ) (area output : List ℕ) (r : Answer)
    (moved : yields r area output ≡ carry_out (move_to_live s) budget s area output (runs_with (live s) s output)) where
  abbrev answered : Outcome
  answered = carry_out (move_to_live s) budget s area output (copies_out s k)

  abbrev filled_out : Outcome → Outcome
  filled_out o = yields o.answer o.area (block s.blocks o.area (source (live s)) k)

  pub filled : r.refusal ≡ 0 → filled_out (yields r area output) ≡ answered
  unfolding copies_out
  filled =
      went_on (move_to_live s) budget s area output (runs_with (live s) s output) filled_out (λ count w. refl) moved

  pub kept : r.refusal ≢ 0 → yields r area output ≡ answered
  unfolding copies_out
  kept = left_off (move_to_live s) budget s area output (runs_with (live s) s output) filled_out (λ count w. refl) moved

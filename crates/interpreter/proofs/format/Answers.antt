use mathlib.Core.List.{[]}
use borrow.Author.Tests.{ne_eqb}
use Rattle.interpreter.specs.Execution.{kept_state}
use Rattle.interpreter.proofs.Memory.{format_leaves}
use Rattle.interpreter.proofs.format.Goals as goal
use Rattle.interpreter.proofs.format.Goals.{then-answer-eq0, else-answer-eq0}

pub returns : goal.returns
unfolding kept_state
returns c =
    let done = rw (c.from.ensures, c.from-2.ensures) at (c.format-answer.ensures []) in
    let left = format_leaves _ _ c.args.state.now _ _ c.area_end-end.ensures done in
    elim c.if-answer-eq0.branch [
      | then-answer-eq0 w ↦ rw (c.reply_to.ensures, w.state-is, w.if-answer-eq0.true) (rw w.if-answer-eq0.true at left)
      | else-answer-eq0 w ↦ rw (c.reply_to.ensures, w.state-is) (rw (ne_eqb _ _ w.if-answer-eq0.false) at left)
    ]

use mathlib.Core.Path.{refl}
use Rattle.protocol.specs.Loops.{ascending, for_each}
use Rattle.protocol.proofs.Loops.{for_none}
use Rattle.budget.specs.declared.Run.{Run}
use Rattle.budget.specs.Runs.{progress, run_all}
use Rattle.budget.proofs.Runs.{run_next, none_made}
use Rattle.changes.specs.Changes.{change_on}
use Rattle.changes.proofs.Changes.{label_made}
use Rattle.changes.proofs.store_labels.Goals as goal
use Rattle.changes.proofs.store_labels.Goals.{then-left-has, else-left-has}

pub returns-then-set-eq0 : goal.returns-then-set-eq0
unfolding run_all
returns-then-set-eq0 c = λ b area. rw (c.if-set-eq0.true, for_none)

pub loop-d-preserved : goal.loop-d-preserved
unfolding for_each
loop-d-preserved c b area =
    let at = c.loop-d in
    let a = c.args in
    let asked = c.has.ensures in
    let run : Run = record { labels = at.labels; left = at.left } in
    run_next b _ _ _ (at.invariant b area)
    (elim c.if-left-has.branch [
      | then-left-has w ↦ rw (w.labels-is, w.left-is, w.apply.ensures)
          (label_made b a.set at.d a.change run area (rw asked at w.if-left-has.true))
      | else-left-has w ↦ rw (w.labels-is, w.left-is)
          (none_made b a.set at.d (change_on a.change at.d) (progress run area) (rw asked at w.if-left-has.false))
    ])

pub loop-d-init : goal.loop-d-init
unfolding for_each ascending run_all
loop-d-init c b area = refl

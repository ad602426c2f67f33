use mathlib.Core.Path.{refl, sym}
use Rattle.protocol.specs.Calls.{read_outcome}
use Rattle.protocol.proofs.Outcomes.{passed}
use Rattle.storage.proofs.Passed.{write_passed, read_passed, load_passed}
use Rattle.storage.proofs.ReadAnswer.{filled, kept}
use Rattle.storage.proofs.reading.read.Goals as goal

pub read_stores-answer-requires : goal.read_stores-answer-requires
read_stores-answer-requires c =
    let a = c.args in read_passed a.s a.area.now a.k a.output.now (sym c.in_default.ensures)

pub load-requires : goal.load-requires
load-requires c =
    let a = c.args in
    rw (c.from.ensures, c.source-from.ensures, c.live.ensures)
    (load_passed a.s a.area.now a.k a.output.now (sym c.in_default.ensures))

pub to_slice-requires : goal.to_slice-requires
to_slice-requires c =
    let a = c.args in (write_passed a.s a.area.now a.k a.output.now (sym c.in_default.ensures)).2

pub returns-then-answer-eq0 : goal.returns-then-answer-eq0
unfolding read_outcome
returns-then-answer-eq0 c =
    let a = c.args in
    passed _ _ _ _ _ c.in_default.ensures refl
    (rw (
      c.to_slice.ensures,
      c.load.ensures,
      c.from.ensures,
      c.source-from.ensures,
      c.live.ensures,
    )
    (filled a.s a.k a.budget a.area.now a.output.now _ (c.read_stores-answer.ensures _ _)
    c.if-answer-eq0.true))

pub returns-else-answer-eq0 : goal.returns-else-answer-eq0
unfolding read_outcome
returns-else-answer-eq0 c =
    let a = c.args in
    passed _ _ _ _ _ c.in_default.ensures refl
    (kept a.s a.k a.budget a.area.now a.output.now _ (c.read_stores-answer.ensures _ _)
    c.if-answer-eq0.false)

use mathlib.Core.Path.{refl, sym}
use Rattle.protocol.specs.Calls.{swap_outcome}
use Rattle.protocol.proofs.Outcomes.{passed}
use Rattle.swapping.proofs.Passed.{swap_sound, known_disk, disk_part}
use Rattle.swapping.proofs.SwapAnswer.{swapped, old_disk_in}
use Rattle.swapping.proofs.swapping.swap.Goals as goal

pub swap_stores-answer-requires : goal.swap_stores-answer-requires
swap_stores-answer-requires c =
    let a = c.args in swap_sound a.s a.area.now a.d (sym c.in_default.ensures)

pub returns-then-answer-ne0 : goal.returns-then-answer-ne0
unfolding swap_outcome
returns-then-answer-ne0 c output =
    let a = c.args in
    passed _ _ _ _ _ c.in_default.ensures refl
    (old_disk_in a.s a.d a.budget a.area.now output _ (c.swap_stores-answer.ensures _ output)
    c.if-answer-ne0.true)

pub zero_disk-requires : goal.zero_disk-requires
zero_disk-requires c =
    let a = c.args in rw c.from.ensures (disk_part a.s a.area.now a.d (sym c.in_default.ensures))

pub with_blank_label-requires : goal.with_blank_label-requires
with_blank_label-requires c =
    let a = c.args in known_disk a.s a.area.now a.d (sym c.in_default.ensures)

pub returns : goal.returns
unfolding swap_outcome
returns c output =
    let a = c.args in
    passed _ _ _ _ _ c.in_default.ensures refl
    (rw (c.with_blank_label.ensures, c.zero_disk.ensures, c.from.ensures)
    (swapped a.s a.d a.budget a.area.now output _ (c.swap_stores-answer.ensures _ output)
    c.if-answer-ne0.false))

use Rattle.swapping.proofs.SwapAnswer.{member_moved, spare_stays}
use Rattle.swapping.proofs.swapping.swap_stores.Goals as goal

pub returns-then-has : goal.returns-then-has
returns-then-has c area output =
    let a = c.args in
    member_moved a.s a.d a.budget area output
    (rw (c.has.ensures, c.current.ensures) at c.if-has.true)
    (c.moved_to_live.ensures area output)

pub returns-else-has : goal.returns-else-has
returns-else-has c area output =
    let a = c.args in
    rw c.done.ensures
    (spare_stays a.s a.d a.budget area output
    (rw (c.has.ensures, c.current.ensures) at c.if-has.false))

pub moved_to_live-requires : goal.moved_to_live-requires
moved_to_live-requires c = c.requires

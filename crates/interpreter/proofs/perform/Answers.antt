use Rattle.interpreter.proofs.Memory.{call_leaves}
use Rattle.interpreter.proofs.perform.Goals as goal

pub returns : goal.returns
returns c =
    let end = rw (c.from.ensures, c.from-2.ensures) at c.area_end-end.ensures in
    let done = rw (c.as_slice.ensures, c.lend-lent.ensures) at c.apply-answer.ensures in
    rw c.reply_to.ensures (call_leaves _ _ _ _ _ end done)

use mathlib.Core.Path.{sym}
use native.Mathlib.Omega.{arith}
use lib.ListN.{length}
use borrow.Author.Tests.{leb-false}
use Rattle.label.proofs.Accepting.{writer_accepts, in_range_lem}
use Rattle.label_writer.proofs.write_as.Goals as goal

pub put-requires : goal.put-requires
put-requires c =
    let a = c.args in
    let (proper, room) = writer_accepts a.form a.number a.disks a.label (length a.out.now)
    (sym c.in_ok-write_refusal.ensures) in
    let range = in_range_lem a.form a.disks proper.count in
    let below = leb-false a.disks a.number proper.number in
    (c.requires, omega arith, omega arith, omega arith, room)

use mathlib.Core.Path.{◌≡◌, sym}
use Prim.Native.Nat.{◌+◌, ◌/◌, ◌%◌, ◌<◌}
use native.Mathlib.Omega.{arith}
use lib.ListN.{length, length-set}
use borrow.Author.Rules.{rules}
use Rattle.buffers.proofs.Splicing.{splice_nothing, splice_one, splice_two}
use Rattle.label.proofs.Fields.{length-present, one_written, two_written}
use Rattle.label_writer.proofs.put_field.Goals as goal

pub returns-then-field-eq0 : goal.returns-then-field-eq0
returns-then-field-eq0 c = rw c.if-field-eq0.true (omega arith, sym (splice_nothing _ _))

pub bounds-out-at : goal.bounds-out-at
bounds-out-at c = let a = c.args in omega (arith, length-present a.width a.field c.if-field-eq0.false)

pub returns-then-width-eq1 : goal.returns-then-width-eq1
returns-then-width-eq1 c =
    let a = c.args in
    let inside : a.at < length a.out.now =
    omega (arith, length-present a.width a.field c.if-field-eq0.false) in
    rw (c.if-width-eq1.true, one_written a.field c.if-field-eq0.false, c.to_le_bytes.ensures)
    (omega arith, splice_one a.out.now a.at (a.field % 256) inside)

pub bounds-out-at-2 : goal.bounds-out-at-2
bounds-out-at-2 c =
    let a = c.args in
    rw length-set (omega (arith, length-present a.width a.field c.if-field-eq0.false))

pub returns : goal.returns
returns c =
    let a = c.args in
    let two : a.width ≡ 2 = omega arith in
    let room : a.at + 1 < length a.out.now =
    omega (arith, length-present a.width a.field c.if-field-eq0.false) in
    let high : a.field / 256 % 256 ≡ a.field / 256 = omega arith in
    rw (two, two_written a.field (search rules) c.if-field-eq0.false, c.to_le_bytes.ensures, high)
    (omega arith, splice_two a.out.now a.at (a.field % 256) (a.field / 256) room)

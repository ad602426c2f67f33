use native.Mathlib.Omega.{arith}
use lib.ListN.{length-set}
use Rattle.label.specs.Bytes.{place_byte}
use Rattle.label_writer.proofs.Stores.{encode_parts, stores_encode}
use Rattle.label_writer.proofs.put.Goals as goal

pub bounds-out-0 : goal.bounds-out-0
bounds-out-0 c =
    let a = c.args in omega (arith, encode_parts a.form a.number a.disks a.label)

pub bounds-out-1 : goal.bounds-out-1
bounds-out-1 c =
    let a = c.args in
    rw length-set (omega (arith, encode_parts a.form a.number a.disks a.label))

pub put_field-second-requires : goal.put_field-second-requires
put_field-second-requires c =
    let a = c.args in
    rw (c.number.ensures, length-set, length-set)
    (omega (arith, encode_parts a.form a.number a.disks a.label))

pub put_field-third-requires : goal.put_field-third-requires
put_field-third-requires c =
    let a = c.args in
    rw c.number-2.ensures
    (omega (
      arith,
      encode_parts a.form a.number a.disks a.label,
      rw c.number.ensures at c.put_field-second.ensures.0,
      simp length-set at c.put_field-second.auto.out,
    ))

pub put_field-requires : goal.put_field-requires
put_field-requires c =
    let a = c.args in
    rw c.from.ensures
    (omega (
      arith,
      encode_parts a.form a.number a.disks a.label,
      rw c.number.ensures at c.put_field-second.ensures.0,
      rw c.number-2.ensures at c.put_field-third.ensures.0,
      simp length-set at c.put_field-second.auto.out,
    ))

pub returns : goal.returns
unfolding place_byte
returns c =
    let a = c.args in
    stores_encode a.form a.number a.disks a.label a.out.now
    (omega (arith, encode_parts a.form a.number a.disks a.label))
    (rw (c.number.ensures, c.map_byte.ensures) at c.put_field-second.ensures)
    (rw c.number-2.ensures at c.put_field-third.ensures)
    (rw c.from.ensures at c.put_field.ensures)

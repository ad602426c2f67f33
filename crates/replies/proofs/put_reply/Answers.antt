use mathlib.Core.List.{◌++◌, append_assoc}
use Prim.Native.Nat.{◌≤◌}
use native.Mathlib.Omega.{arith}
use lib.ListN.{length}
use Rattle.buffers.proofs.Splicing.{stored_after}
use Rattle.replies.specs.Replies.{reply_line, field}
use Rattle.replies.proofs.put_reply.Goals as goal

pub returns-clause-stored : goal.returns-clause-stored
unfolding reply_line
returns-clause-stored c =
    let at = c.args.at in
    let reply = c.args.reply in
    let old = c.args.out.now in
    let room : at ≤ length old = omega arith in
    let one = field reply.result 32 in
    let two = one ++ field reply.stores 32 in
    let three = two ++ field reply.current 32 in
    let four = three ++ field reply.online 32 in
    let result = rw c.from.ensures at c.put_field-stores.ensures.stored in
    let stores = stored_after old one (field reply.stores 32) at room result c.put_field-current.ensures.stored in
    let current = stored_after old two (field reply.current 32) at room stores
    (rw c.number.ensures at c.put_field-online.ensures.stored) in
    let online = stored_after old three (field reply.online 32) at room current
    (rw c.number-2.ensures at c.put_field-byte.ensures.stored) in
    let byte = stored_after old four (field reply.byte 10) at room online
    (rw c.from-2.ensures at c.put_field.ensures.stored) in
    simp append_assoc at byte

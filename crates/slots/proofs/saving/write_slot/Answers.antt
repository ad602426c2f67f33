use native.Mathlib.Omega.{arith}
use Rattle.slots.proofs.Written.{takes, wrote, label_fits, slot_filled}
use Rattle.slots.proofs.saving.write_slot.Goals as goal

pub unwrap-length-requires : goal.unwrap-length-requires
unwrap-length-requires c = takes _ _ _ c.args.slot.now c.requires.0 c.requires.1 _ c.write.ensures.answer

pub slice_bounds-clear-count : goal.slice_bounds-clear-count
slice_bounds-clear-count c =
    let slot = c.args.slot.now in
    let length = wrote _ _ _ slot c.requires.0 c.requires.1 c.write.ensures.answer c.unwrap-length.ensures in
    omega (arith, label_fits _ _ _ slot c.requires.0 c.requires.1, c.write.auto.out)

pub slice_bounds-clear-start : goal.slice_bounds-clear-start
slice_bounds-clear-start c =
    let slot = c.args.slot.now in
    let length = wrote _ _ _ slot c.requires.0 c.requires.1 c.write.ensures.answer c.unwrap-length.ensures in
    omega (arith, label_fits _ _ _ slot c.requires.0 c.requires.1, c.write.auto.out)

pub returns : goal.returns
returns c =
    let slot = c.args.slot.now in
    let length = wrote _ _ _ slot c.requires.0 c.requires.1 c.write.ensures.answer c.unwrap-length.ensures in
    rw (c.write.auto.out, length)
    (slot_filled _ _ _ slot c.requires.0 c.requires.1 c.write.ensures.bytes
    (rw (c.write.auto.out, length) at c.clear.ensures))

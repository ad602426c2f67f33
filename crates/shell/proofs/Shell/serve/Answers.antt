use mathlib.Core.Path.{refl, sym}
use Prim.Native.Nat.{◌<◌}
use native.Mathlib.Nat.{add-zero}
use native.Mathlib.Omega.{arith}
use lib.ListN.{length}
use Rattle.buffers.proofs.Splicing.{splice_nothing}
use Rattle.shell.specs.Dialogue.{after_input, printed_input, dialogue}
use Rattle.shell.proofs.Blocks.{after_next, stores_next}
use Rattle.shell.proofs.Shell.serve.Goals as goal

pub loop-byte-init : goal.loop-byte-init
unfolding after_input printed_input
loop-byte-init c =
    record { leaves = refl; prints = (sym (add-zero _), sym (splice_nothing _ _)); room = omega arith }

pub loop-byte-preserved : goal.loop-byte-preserved
loop-byte-preserved c =
    let step = c.take_byte.ensures in
    let l = c.loop-byte in
    let before = l.invariant in
    let start = c.args in
    let d = dialogue start.self.now start.memory.now in
    let block = start.block.now in
    let here : l.byte-index < length block = omega arith in
    record {
      leaves = after_next block l.byte-index here d before.leaves step.dialogue;
      prints =
          stores_next block l.byte-index here d before.leaves start.out.now start.self.now.used (omega arith)
          before.prints step.output;
      room = omega (arith, step.room);
    }

use mathlib.Core.Path.{◌≡◌}
use Prim.Native.Nat.{◌+◌, ◌*◌, ◌≤◌}
use lib.ListN.{take}
use Rattle.buffers.specs.Buffers.{Stored}
use Rattle.replies.specs.Replies.{reply_most}
use Rattle.shell.specs.Dialogue.{after_input, printed_input, dialogue}
use Rattle.shell.proofs.Shell.serve.Given as goal

abbrev pub invariant-loop-byte : goal.invariant-loop-byte
invariant-loop-byte l = record {
  leaves : dialogue l.self l.memory
      ≡ after_input (take l.byte-index l.block) (dialogue l.initial.self l.initial.memory);
  prints : Stored l.initial.self.used
      (printed_input (take l.byte-index l.block) (dialogue l.initial.self l.initial.memory))
      l.initial.out l.self.used l.out;
  room : l.self.used ≤ l.initial.self.used + l.byte-index * reply_most;
}

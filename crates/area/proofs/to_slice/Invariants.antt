use Rattle.std.proofs.Common.{◌≡◌, take}
use Rattle.area.proofs.to_slice.Given as goal

abbrev pub invariant-loop-i : goal.invariant-loop-i
invariant-loop-i l = take l.i l.output ≡ take l.i l.bytes

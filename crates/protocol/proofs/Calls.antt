-- The table of calls: what each one preserves. Assumes nothing.
use mathlib.Core.List.{List}
use Rattle.protocol.specs.declared.Call.{Call}
use Rattle.protocol.specs.declared.Call.TheVariants.{Read, Write, Join, Clean, Restart, Detach, Attach, PowerOff}
use Rattle.protocol.specs.declared.Call.TheVariants.{Diagnose, Swap}
use Prim.Native.Nat.{ℕ}
use Rattle.protocol.specs.History.{Cabinet, perform}
use Rattle.protocol.specs.Reference.{carried_by}
use Rattle.protocol.proofs.Preservation.{Preserves}
use Rattle.protocol.proofs.StorelessCalls.{detach_preserves, attach_preserves}
use Rattle.protocol.proofs.StorelessCalls.{power_off_preserves, diagnose_preserves}
use Rattle.protocol.proofs.BlockReads.{read_preserves}
use Rattle.protocol.proofs.Writes.{write_preserves}
use Rattle.protocol.proofs.Joins.{join_preserves}
use Rattle.protocol.proofs.Swaps.{swap_preserves}
use Rattle.protocol.proofs.Cleans.{clean_preserves}
use Rattle.protocol.proofs.Restarts.{restart_preserves}

pub call_preserves : (call : Call) (bytes output : List ℕ) (c : Cabinet)
    → Preserves c (carried_by call bytes c) (perform call bytes output c)
unfolding perform carried_by
call_preserves (Read k budget) bytes output c = read_preserves c k output budget
call_preserves (Write k budget) bytes output c = write_preserves c k bytes output budget
call_preserves (Join d budget) bytes output c = join_preserves c d output budget
call_preserves (Clean budget) bytes output c = clean_preserves c output budget
call_preserves (Restart budget) bytes output c = restart_preserves c output budget
call_preserves (Detach d) bytes output c = detach_preserves c output d
call_preserves (Attach d) bytes output c = attach_preserves c output d bytes
call_preserves PowerOff bytes output c = power_off_preserves c output
call_preserves (Diagnose stage d) bytes output c = diagnose_preserves c output stage d
call_preserves (Swap d budget) bytes output c = swap_preserves c d output budget

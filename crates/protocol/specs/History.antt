-- Document 01, "The list and the book": the list of calls, and what it leaves of a cabinet.
use Rattle.std.specs.Prelude.{List, [], ◌∷◌, ℕ}
use Rattle.protocol.specs.declared.Call.{Call}
use Rattle.protocol.specs.declared.Call.TheVariants.{Read, Write, Join, Clean, Restart, Detach, Attach, PowerOff}
use Rattle.protocol.specs.declared.Call.TheVariants.{Diagnose, Swap}
use Rattle.protocol.specs.declared.State.{State}
use Rattle.protocol.specs.Outcomes.{Outcome}
use Rattle.protocol.specs.Calls.{read_outcome, write_outcome, join_outcome, clean_outcome}
use Rattle.protocol.specs.Calls.{restart_outcome, detach_outcome, attach_outcome, power_off_outcome, swap_outcome}
use Rattle.protocol.specs.Diagnosis.{diagnose_outcome}

-- A call of the list, "with whatever numbers and with data and output of its own". The bytes are a write's data, and of
-- a return "the label bytes that the disk shows" (document 02, 2.6): any bytes, whatever became of the disk meanwhile.
pub record Step : Type 0 where
  pub call : Call
  pub bytes : List ℕ
  pub output : List ℕ

-- What goes from one call to the next: "Each call gets the state and the disk area that the last one returned or left".
pub record Cabinet : Type 0 where
  pub state : State
  pub area : List ℕ

unfoldable pub perform : Call → List ℕ → List ℕ → Cabinet → Outcome
perform (Read k budget) bytes output c = read_outcome c.state c.area output k budget
perform (Write k budget) bytes output c = write_outcome c.state c.area output k bytes budget
perform (Join d budget) bytes output c = join_outcome c.state c.area output d budget
perform (Clean budget) bytes output c = clean_outcome c.state c.area output budget
perform (Restart budget) bytes output c = restart_outcome c.state c.area output budget
perform (Detach d) bytes output c = detach_outcome c.state c.area output d
perform (Attach d) bytes output c = attach_outcome c.state c.area output d bytes
perform PowerOff bytes output c = power_off_outcome c.state c.area output
perform (Diagnose stage d) bytes output c = diagnose_outcome c.state c.area output stage d
perform (Swap d budget) bytes output c = swap_outcome c.state c.area output d budget

abbrev pub outcome_of : Step → Cabinet → Outcome
outcome_of x c = perform x.call x.bytes x.output c

abbrev pub cabinet_of : Outcome → Cabinet
cabinet_of o = record { state = o.answer.state; area = o.area }

-- what the calls leave, one after the other
unfoldable pub ran : List Step → Cabinet → Cabinet
ran [] c = c
ran (x ∷ later) c = ran later (cabinet_of (outcome_of x c))

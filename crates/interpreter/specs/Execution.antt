-- Document 01, "The cabinet program": what a command does, and what it is answered.
use Rattle.std.specs.Prelude.{Bool, true, false, cond, ◌&&◌, List, [], ◌++◌, ℕ, eqb, take, drop, get_or, replicate}
use Rattle.protocol.specs.declared.Answer.{Answer}
use Rattle.protocol.specs.declared.Call.{Call}
use Rattle.protocol.specs.declared.Call.TheVariants.{Read, Write, Join, Clean, Restart, Detach, Attach, PowerOff}
use Rattle.protocol.specs.declared.Call.TheVariants.{Diagnose, Swap}
use Rattle.protocol.specs.declared.State.{State}
use Rattle.protocol.specs.Geometry.{block_size, area_size}
use Rattle.protocol.specs.States.{current_of}
use Rattle.protocol.specs.Outcomes.{Outcome}
use Rattle.protocol.specs.Calls.{format_outcome}
use Rattle.protocol.specs.History.{Step, Cabinet, outcome_of}
use Rattle.commands.specs.declared.Command.{Command}
use Rattle.commands.specs.declared.Command.TheVariants.{Format, Perform, Bad}
use Rattle.commands.specs.declared.Loan.{Loan}
use Rattle.commands.specs.Commands.{command_number}
use Rattle.replies.specs.declared.Reply.{Reply}
use Rattle.interpreter.specs.Lending.{lent_bytes}

-- What the program keeps from line to line: the cabinet's state, and a memory with the disk area at its front.
pub record Machine : Type 0 where
  pub state : State
  pub memory : List ℕ

abbrev pub machine_of : State → List ℕ → Machine
machine_of s memory = record { state = s; memory = memory }

-- What executing a command leaves, and its reply.
pub record Executed : Type 0 where
  pub machine : Machine
  pub reply : Reply

-- the same, as the code leaves it: the state, the memory, and the reply
abbrev pub executed_to : State → List ℕ → Reply → Executed
executed_to s memory reply = record { machine = machine_of s memory; reply = reply }

-- ---- the disk area in the memory

abbrev pub area_of : ℕ → ℕ → List ℕ → List ℕ
area_of n b memory = take (area_size n b) memory

abbrev pub with_area : ℕ → ℕ → List ℕ → List ℕ → List ℕ
with_area n b memory area = area ++ drop (area_size n b) memory

abbrev pub cabinet_in : Machine → Cabinet
cabinet_in m = record { state = m.state; area = area_of m.state.disks m.state.blocks m.memory }

-- ---- replies

-- "result, stores made, G (0 if stopped), R, and the first byte read"
unfoldable pub reply_to : ℕ → ℕ → State → ℕ → Reply
reply_to result stores s byte =
    record { result = result; stores = stores; current = current_of s.power; online = s.online; byte = byte }

abbrev pub is_read : Call → Bool
is_read (Read k budget) = true
is_read (Write k budget) = false
is_read (Join d budget) = false
is_read (Clean budget) = false
is_read (Restart budget) = false
is_read (Detach d) = false
is_read (Attach d) = false
is_read PowerOff = false
is_read (Diagnose stage d) = false
is_read (Swap d budget) = false

-- "(0 unless a read was done)"
unfoldable pub first_byte : Call → ℕ → ℕ → ℕ
first_byte call refusal byte = cond (is_read call && eqb refusal 0) byte 0

-- ---- commands

-- "refused, they yield one that is all zero and stopped, and the program then keeps the one it had"
unfoldable pub kept_state : Answer → State → State
kept_state a s = cond (eqb a.refusal 0) a.state s

unfoldable pub format_executed : ℕ → ℕ → Machine → Executed
format_executed n b m =
    let o = format_outcome (area_of n b m.memory) [] n b in
    let kept = kept_state o.answer m.state in
    record {
      machine = machine_of kept (with_area n b m.memory o.area);
      reply = reply_to o.answer.refusal o.answer.stores kept 0;
    }

-- the call of the list, on a cabinet of this state; the output is the program's own, zeros before
abbrev pub step_of : Call → Loan → State → Step
step_of call loan s = record { call = call; bytes = lent_bytes loan s; output = replicate block_size 0 }

-- what a call of the list yields, as a reply
unfoldable pub call_reply : Call → Outcome → Reply
call_reply call o =
    let byte = first_byte call o.answer.refusal (get_or o.output 0 0) in
    reply_to o.answer.refusal o.answer.stores o.answer.state byte

unfoldable pub call_executed : Call → Loan → Machine → Executed
call_executed call loan m =
    let o = outcome_of (step_of call loan m.state) (cabinet_in m) in
    record {
      machine = machine_of o.answer.state (with_area m.state.disks m.state.blocks m.memory o.area);
      reply = call_reply call o;
    }

-- "Any other line [..] gives 99 and changes nothing"
unfoldable pub executed : Command → Machine → Executed
executed (Format n b) m = format_executed n b m
executed (Perform call loan) m = call_executed call loan m
executed Bad m = record { machine = m; reply = reply_to (command_number Bad) 0 m.state 0 }

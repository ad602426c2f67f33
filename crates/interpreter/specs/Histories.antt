-- Commands and document 01's list: since the last good `f`, commands are a list of calls, and the program's cabinet is
-- what that list leaves. So what `protocol` claims of every list, demand 3 first of all, holds of the program.
use Rattle.std.specs.Prelude.{◌≡◌, Bool, true, cond, List, [], ◌∷◌, ◌++◌, ℕ, eqb, ltb, length}
use Rattle.protocol.specs.declared.Call.{Call}
use Rattle.protocol.specs.declared.Call.TheVariants.{Attach}
use Rattle.protocol.specs.Geometry.{most_disks, most_blocks, area_size}
use Rattle.protocol.specs.States.{zero_state}
use Rattle.protocol.specs.Calls.{zero_area, formatted, format_outcome}
use Rattle.protocol.specs.History.{Step, outcome_of}
use Rattle.protocol.specs.Demand3.{cabinet_after, Demand3}
use Rattle.commands.specs.declared.Command.{Command}
use Rattle.commands.specs.declared.Command.TheVariants.{Format, Perform, Bad}
use Rattle.commands.specs.declared.Loan.{Loan}
use Rattle.commands.specs.declared.Loan.TheVariants.{StoredLabel}
use Rattle.replies.specs.declared.Reply.{Reply}
use Rattle.interpreter.specs.Execution.{Machine, machine_of, cabinet_in, step_of, reply_to, call_reply, executed}

-- what commands leave, one after the other
unfoldable pub machine_after : List Command → Machine → Machine
machine_after [] m = m
machine_after (x ∷ later) m = machine_after later (executed x m).machine

-- ---- the calls since the last good `f`

-- none before the first one; then its n and b, and the calls that followed it
pub data SinceFormat : Type 0 where
  unformatted : SinceFormat
  calls : (n b : ℕ) → List Step → SinceFormat

-- an `f` that is done
abbrev pub good : ℕ → ℕ → Bool
good n b = eqb (format_outcome (zero_area n b) [] n b).answer.refusal 0

abbrev pub with_command : Command → SinceFormat → SinceFormat
with_command (Format n b) t = cond (good n b) (calls n b []) t
with_command (Perform call loan) unformatted = unformatted
with_command (Perform call loan) (calls n b earlier) =
    calls n b (earlier ++ (step_of call loan (cabinet_after n b (zero_area n b) earlier).state ∷ []))
with_command Bad t = t

unfoldable pub since_format : List Command → SinceFormat → SinceFormat
since_format [] t = t
since_format (x ∷ later) t = since_format later (with_command x t)

-- ---- and what they say of the program

-- before the first good `f` the state is all zero; after it, the cabinet is what the list leaves
abbrev pub Leaves : SinceFormat → Machine → Type 0
Leaves unformatted m = m.state ≡ zero_state
Leaves (calls n b earlier) m = (good n b ≡ true) × (cabinet_in m ≡ cabinet_after n b (zero_area n b) earlier)

-- what the list yields for a call behind it, as a reply
abbrev pub reply_after : (n b : ℕ) → List Step → Call → Loan → Reply
reply_after n b earlier call loan =
    let c = cabinet_after n b (zero_area n b) earlier in call_reply call (outcome_of (step_of call loan c.state) c)

pub record Conforms (t : SinceFormat) (m : Machine) : Type 0 where
  pub left : Leaves t m
  -- "Before the first good `f` the state is all zero and calls give 1."
  pub refused : t ≡ unformatted → (call : Call) (loan : Loan)
      → (executed (Perform call loan) m).reply ≡ reply_to 1 0 zero_state 0
  -- a call's reply is what that call of the list yields
  pub replies : (n b : ℕ) (earlier : List Step) → t ≡ calls n b earlier → (call : Call) (loan : Loan)
      → (executed (Perform call loan) m).reply ≡ reply_after n b earlier call loan
  -- "The program's `r d` line shows the stored label" (document 02, 2.6), so each disk of the cabinet comes back; there
  -- is no other, and its number gives 8
  pub returns : (n b : ℕ) (earlier : List Step) → t ≡ calls n b earlier → (d : ℕ)
      → (executed (Perform (Attach d) (StoredLabel d)) m).reply.result ≡ cond (ltb d n) 0 8
  -- of the list demand 3 holds
  pub demand_3 : (n b : ℕ) (earlier : List Step) → t ≡ calls n b earlier → Demand3 n b (zero_area n b) earlier
  -- an `f` in range is never refused for want of memory
  pub formats : (n b : ℕ) → good n b ≡ true → (executed (Format n b) m).reply ≡ reply_to 0 0 (formatted n b) 0

-- of every list of commands, in a memory that holds the largest disk area
abbrev pub CommandsAreHistories : Type 0
CommandsAreHistories = (memory : List ℕ) → length memory ≡ area_size most_disks most_blocks → (commands : List Command)
    → Conforms (since_format commands unformatted) (machine_after commands (machine_of zero_state memory))

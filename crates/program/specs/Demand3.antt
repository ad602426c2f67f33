-- The cabinet program, from the bytes of its input to demand 3: one claim, of what it prints and of what its memory
-- then holds.
use Rattle.std.specs.Prelude.{◌≡◌, ◌≢◌, true, ℕ, ◌≤◌, ◌<◌, length, replicate, get_or}
use mathlib.Core.List.{List, [], ◌∷◌, ◌++◌, map, flatten}
use Rattle.sets.specs.Sets.{has, all}
use Rattle.protocol.specs.declared.Call.TheVariants.{Read, Write, Restart}
use Rattle.protocol.specs.declared.Power.TheVariants.{Stopped}
use Rattle.protocol.specs.declared.State.{State}
use Rattle.protocol.specs.Geometry.{most_disks, most_blocks, block_size, area_size, block}
use Rattle.protocol.specs.States.{zero_state}
use Rattle.protocol.specs.Lists.{restart_list}
use Rattle.protocol.specs.Naming.{one, found_by}
use Rattle.protocol.specs.History.{Step}
use Rattle.protocol.specs.Reference.{Contents, zero_contents, replaced, contents_after}
use Rattle.protocol.specs.Claims.{source_store}
use Rattle.commands.specs.declared.Command.{Command}
use Rattle.commands.specs.declared.Command.TheVariants.{Perform}
use Rattle.commands.specs.declared.Loan.TheVariants.{Block}
use Rattle.commands.specs.Commands.{command_of}
use Rattle.replies.specs.declared.Reply.{Reply}
use Rattle.replies.specs.Replies.{reply_line}
use Rattle.interpreter.specs.Execution.{Machine, machine_of, Executed}
use Rattle.interpreter.specs.Histories.{machine_after, SinceFormat, unformatted, calls, since_format}
use Rattle.shell.specs.Dialogue.{lines, line_executed, answers, transcript, initial, printed_blocks, after_blocks}

-- ---- a line of an input

-- A line, those before it and those after it.
pub record LineIn (whole : List (List ℕ)) : Type 0 where
  pub before : List (List ℕ)
  pub this : List ℕ
  pub after : List (List ℕ)
  pub here : whole ≡ before ++ (this ∷ after)

abbrev pub commands_of : List (List ℕ) → List Command
commands_of lines = map command_of lines

-- the program's state and memory behind some lines
abbrev pub behind : List ℕ → List (List ℕ) → Machine
behind memory lines = machine_after (commands_of lines) (machine_of zero_state memory)

-- the calls since the last good `f` among some lines
abbrev pub calls_since : List (List ℕ) → SinceFormat
calls_since lines = since_format (commands_of lines) unformatted

-- what a line leaves, and its reply
abbrev pub executed_at : List ℕ → {whole : List (List ℕ)} → LineIn whole → Executed
executed_at memory c = line_executed c.this (behind memory c.before)

-- what the book of the calls since the last good `f` has. Before it there is none, and calls give 1: no reply speaks
-- of it.
abbrev pub book : SinceFormat → Contents
book unformatted = zero_contents
book (calls n b since) = contents_after n b since

-- a read: `g k p`
abbrev pub IsRead : List ℕ → ℕ → ℕ → Type 0
IsRead line k budget = command_of line ≡ Perform (Read k budget) (Block 0)

-- a write of 64 bytes v: `w k v p`
abbrev pub IsWrite : List ℕ → ℕ → ℕ → ℕ → Type 0
IsWrite line k v budget = command_of line ≡ Perform (Write k budget) (Block v)

-- a restart: `s p`
abbrev pub IsRestart : List ℕ → ℕ → Type 0
IsRestart line budget = command_of line ≡ Perform (Restart budget) (Block 0)

-- Each disk of a set holds, in the memory, the book of the calls since the last good `f`. Before it there is none.
abbrev pub Hold : SinceFormat → ℕ → List ℕ → Type 0
Hold unformatted set memory = ⊥
Hold (calls n b since) set memory =
    (d k : ℕ) → has set d ≡ true → k < b → block b memory d k ≡ contents_after n b since k

-- What a write leaves of the book, by its reply: "a write that gives 0 counts, and one cut before that store or
-- otherwise refused does not". `source_store` is the store on the source's place in the list of this state's write.
pub record Counts (k v : ℕ) (s : State) (reply : Reply) (earlier later : Contents) : Type 0 where
  pub acknowledged : reply.result ≡ 0 → later ≡ replaced k (replicate block_size v) earlier
  pub refused : reply.result ≢ 0 → reply.result ≢ 15 → later ≡ earlier
  pub cut_before : reply.result ≡ 15 → reply.stores < source_store s k → later ≡ earlier
  pub cut_behind : reply.result ≡ 15 → source_store s k ≤ reply.stores
      → later ≡ replaced k (replicate block_size v) earlier

-- ---- the claim

pub record Keeps (memory : List ℕ) (blocks : List (List ℕ)) (whole : List (List ℕ)) : Type 0 where
  -- What is printed is the transcript of the lines: each prints its reply, in its place.
  pub prints : printed_blocks blocks (initial memory) ≡ transcript memory (flatten blocks)
  pub in_place : (c : LineIn whole)
      → transcript memory (flatten blocks)
      ≡ answers c.before (machine_of zero_state memory)
      ++ (reply_line (executed_at memory c).reply ++ answers c.after (executed_at memory c).machine)
  -- What is left of state and memory is what the lines leave.
  pub leaves : (after_blocks blocks (initial memory)).machine ≡ behind memory whole
  -- "No restart in the list gives 14."
  pub one_set : (c : LineIn whole) (budget : ℕ) → IsRestart c.this budget
      → (executed_at memory c).reply.result ≢ 14
  -- "After each finished restart, for each disk d of that G and each k below b, block k of d in the disk area equals
  -- block k of the book": of the set that the line prints, and of the memory behind it.
  pub right : (c : LineIn whole) (budget : ℕ) → IsRestart c.this budget
      → (executed_at memory c).reply.result ≡ 0
      → Hold (calls_since (c.before ++ (c.this ∷ []))) (executed_at memory c).reply.current
      (executed_at memory c).machine.memory
  -- "Each one of a stopped cabinet with all n disks in R finds a set, and gives 0 when its supply is at least the
  -- length of its list of stores."
  pub finds : (c : LineIn whole) (budget : ℕ) → IsRestart c.this budget
      → (n b : ℕ) (since : List Step) → calls_since c.before ≡ calls n b since
      → (behind memory c.before).state.power ≡ Stopped → (behind memory c.before).state.online ≡ all n
      → (g : ℕ) × (found_by (behind memory c.before).state ≡ one g)
      × (length (restart_list (behind memory c.before).state g) ≤ budget
      → (executed_at memory c).reply.result ≡ 0)
  -- What the gate relies on: a read that prints 0 prints the first byte of the book's block.
  pub reads_right : (c : LineIn whole) (k budget : ℕ) → IsRead c.this k budget
      → (executed_at memory c).reply.result ≡ 0
      → (executed_at memory c).reply.byte ≡ get_or (book (calls_since (c.before ++ (c.this ∷ []))) k) 0 0
  -- What the till relies on: which writes count, by what they print.
  pub writes_count : (c : LineIn whole) (k v budget : ℕ) → IsWrite c.this k v budget
      → Counts k v (behind memory c.before).state (executed_at memory c).reply
      (book (calls_since c.before)) (book (calls_since (c.before ++ (c.this ∷ []))))

-- For any input, cut into blocks anywhere, in a memory that holds the largest disk area.
abbrev pub ProgramMeetsDemand3 : Type 0
ProgramMeetsDemand3 = (memory : List ℕ) → length memory ≡ area_size most_disks most_blocks → (blocks : List (List ℕ))
    → Keeps memory blocks (lines (flatten blocks))

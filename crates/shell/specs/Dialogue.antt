-- Document 01, "The cabinet program": lines in, lines out. First as the paper has it, over the lines of a whole
-- input; then byte by byte, as input comes.
use Rattle.std.specs.Prelude.{cond, List, [], ◌∷◌, ◌++◌, ℕ, ◌+◌, eqb, length}
use Rattle.buffers.specs.ByteLists.{bytes_of, with_byte_within}
use Rattle.protocol.specs.declared.State.{State}
use Rattle.protocol.specs.States.{zero_state}
use Rattle.commands.specs.Commands.{on_first, line_most, command_of}
use Rattle.replies.specs.Replies.{reply_line}
use Rattle.interpreter.specs.Execution.{Machine, machine_of, Executed, executed}
use Rattle.shell.specs.declared.Shell.{Shell}

-- ---- a whole input

-- "the last line may lack its line feed, and an end of input right after a line feed starts no line": 10 is the line
-- feed
unfoldable pub lines : List ℕ → List (List ℕ)
lines [] = []
lines (x ∷ input) = cond (eqb x 10) ([] ∷ lines input) (on_first x (lines input))

-- what a line does
abbrev pub line_executed : List ℕ → Machine → Executed
line_executed line m = executed (command_of line) m

-- "Each line prints one line"
unfoldable pub answers : List (List ℕ) → Machine → List ℕ
answers [] m = []
answers (line ∷ later) m = reply_line (line_executed line m).reply ++ answers later (line_executed line m).machine

-- "Before the first good `f` the state is all zero and calls give 1."
unfoldable pub transcript : List ℕ → List ℕ → List ℕ
transcript memory input = answers (lines input) (machine_of zero_state memory)

-- ---- byte by byte

-- the cabinet, and the line under way
pub record Dialogue : Type 0 where
  pub machine : Machine
  pub line : List ℕ

abbrev pub line_result : Dialogue → Executed
line_result d = line_executed d.line d.machine

abbrev pub line_ended : Dialogue → Dialogue
line_ended d = record { machine = (line_result d).machine; line = [] }

-- Of a line that is too long one byte more than a line may have is buffered: it "gives 99", however long.
abbrev pub line_buffer : ℕ
line_buffer = line_most + 1

abbrev pub with_byte : List ℕ → ℕ → List ℕ
with_byte line x = with_byte_within line_buffer line x

abbrev pub line_with_byte : ℕ → Dialogue → Dialogue
line_with_byte x d = record { machine = d.machine; line = with_byte d.line x }

unfoldable pub after_byte : ℕ → Dialogue → Dialogue
after_byte x d = cond (eqb x 10) (line_ended d) (line_with_byte x d)

unfoldable pub printed_byte : ℕ → Dialogue → List ℕ
printed_byte x d = cond (eqb x 10) (reply_line (line_result d).reply) []

-- what is left after some input, and what it printed
unfoldable pub after_input : List ℕ → Dialogue → Dialogue
after_input [] d = d
after_input (x ∷ input) d = after_input input (after_byte x d)

unfoldable pub printed_input : List ℕ → Dialogue → List ℕ
printed_input [] d = []
printed_input (x ∷ input) d = printed_byte x d ++ printed_input input (after_byte x d)

-- the end of the input ends a line that has begun
unfoldable pub printed_end : Dialogue → List ℕ
printed_end d = cond (eqb (length d.line) 0) [] (reply_line (line_result d).reply)

unfoldable pub after_end : Dialogue → Dialogue
after_end d = cond (eqb (length d.line) 0) d (line_ended d)

abbrev pub initial : List ℕ → Dialogue
initial memory = record { machine = machine_of zero_state memory; line = [] }

-- ---- the program's input comes in blocks, cut anywhere

-- what is printed block by block
unfoldable pub printed_blocks : List (List ℕ) → Dialogue → List ℕ
printed_blocks [] d = printed_end d
printed_blocks (block ∷ later) d = printed_input block d ++ printed_blocks later (after_input block d)

-- and what is left at its end
unfoldable pub after_blocks : List (List ℕ) → Dialogue → Dialogue
after_blocks [] d = after_end d
after_blocks (block ∷ later) d = after_blocks later (after_input block d)

-- ---- the same in the code

abbrev pub dialogue_of : List ℕ → State → List ℕ → Dialogue
dialogue_of line state memory = record { machine = machine_of state memory; line = line }

abbrev pub dialogue : Shell → List ℕ → Dialogue
dialogue shell memory = dialogue_of (bytes_of shell.line) shell.state memory

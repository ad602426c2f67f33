-- What blocks of input print and leave is what the lines of the whole do: byte by byte, and line by line. Assumes
-- nothing.
use mathlib.Core.Path.{◌≡◌, refl, sym, ◌∙◌}
use mathlib.Core.Bool.{true, false, cond}
use mathlib.Core.List.{List, [], ◌∷◌, ◌++◌, map, flatten, append_assoc, append-nil}
use Prim.Native.Nat.{ℕ}
use lib.Dec.{eqb, eqb-suc-zero}
use lib.ListN.{length, take}
use Rattle.sets.proofs.Tests.{Test, test, passes, fails}
use Rattle.protocol.specs.States.{zero_state}
use Rattle.commands.specs.Commands.{on_first, line_most, command_of}
use Rattle.replies.specs.Replies.{reply_line}
use Rattle.interpreter.specs.Execution.{Machine, machine_of}
use Rattle.interpreter.specs.Histories.{machine_after}
use Rattle.shell.specs.Dialogue.{line_buffer, lines, line_executed, answers}
use Rattle.shell.specs.Dialogue.{Dialogue, after_byte, printed_byte, after_input, printed_input}
use Rattle.shell.specs.Dialogue.{printed_end, after_end, initial, printed_blocks, after_blocks}
use Rattle.shell.proofs.Buffering.{same_command, with_byte-take}
use Rattle.shell.proofs.Blocks.{after_append, printed_append}

-- ---- the lines of an input, of which the first has begun with these bytes

lines_with_lem : List ℕ → List ℕ → List (List ℕ)
lines_with_lem line [] = cond (eqb (length line) 0) [] (line ∷ [])
lines_with_lem line (x ∷ input) =
    cond (eqb x 10) (line ∷ lines_with_lem [] input) (lines_with_lem (line ++ (x ∷ [])) input)

abbrev prefixed : List ℕ → List (List ℕ) → List (List ℕ)
prefixed [] later = later
prefixed (y ∷ line) [] = (y ∷ line) ∷ []
prefixed (y ∷ line) (first ∷ later) = (y ∷ line ++ first) ∷ later

prefixed_end : (line : List ℕ) (later : List (List ℕ)) → prefixed line ([] ∷ later) ≡ line ∷ later
prefixed_end [] later = refl
prefixed_end (y ∷ line) later = rw (append-nil line)

prefixed_byte : (line : List ℕ) (x : ℕ) (later : List (List ℕ))
    → prefixed (line ++ (x ∷ [])) later ≡ prefixed line (on_first x later)
prefixed_byte [] x [] = refl
prefixed_byte [] x (first ∷ later) = refl
prefixed_byte (y ∷ line) x [] = refl
prefixed_byte (y ∷ line) x (first ∷ later) = rw (append_assoc line (x ∷ []) first)

lines_with : (input line : List ℕ) → lines_with_lem line input ≡ prefixed line (lines input)
unfolding lines lines_with_lem
lines_with [] [] = refl
lines_with [] (y ∷ line) = rw (eqb-suc-zero (length line))
lines_with (x ∷ input) line = go (test (eqb x 10)) (lines_with input []) (lines_with input (line ++ (x ∷ [])))
  where
    go : Test (eqb x 10) → lines_with_lem [] input ≡ lines input
        → lines_with_lem (line ++ (x ∷ [])) input ≡ prefixed (line ++ (x ∷ [])) (lines input)
        → lines_with_lem line (x ∷ input) ≡ prefixed line (lines (x ∷ input))
    go (passes e) ended continued = rw (e, ended, prefixed_end line (lines input))
    go (fails e) ended continued = rw (e, continued, prefixed_byte line x (lines input))

-- ---- byte by byte, and line by line

-- the dialogue after a line's first bytes
abbrev mid_line : Machine → List ℕ → Dialogue
mid_line m line = record { machine = m; line = take line_buffer line }

abbrev printed_whole : List ℕ → Dialogue → List ℕ
printed_whole input d = printed_input input d ++ printed_end (after_input input d)

abbrev after_whole : List ℕ → Dialogue → Dialogue
after_whole input d = after_end (after_input input d)

-- a whole input prints and leaves what these lines do
abbrev IsLines : List ℕ → Dialogue → List (List ℕ) → Machine → Type 0
IsLines input d whole m =
    (printed_whole input d ≡ answers whole m)
    × (after_whole input d ≡ mid_line (machine_after (map command_of whole) m) [])

module _ (x : ℕ) (line : List ℕ) (m : Machine) where
  line_feed : eqb x 10 ≡ true
      → (printed_byte x (mid_line m line) ≡ reply_line (line_executed line m).reply)
      × (after_byte x (mid_line m line) ≡ mid_line (line_executed line m).machine [])
  unfolding printed_byte after_byte
  line_feed e = (rw (e, same_command line), rw (e, same_command line))

  other_byte : eqb x 10 ≡ false
      → (printed_byte x (mid_line m line) ≡ []) × (after_byte x (mid_line m line) ≡ mid_line m (line ++ (x ∷ [])))
  unfolding printed_byte after_byte
  other_byte e = (rw e, rw (e, with_byte-take line x))

input_end : (line : List ℕ) (m : Machine) → IsLines [] (mid_line m line) (lines_with_lem line []) m
unfolding printed_input after_input printed_end after_end answers lines_with_lem machine_after
input_end [] m = (refl, refl)
input_end (y ∷ line) m =
    let same = same_command (y ∷ line) in (
      rw (eqb-suc-zero (length line), eqb-suc-zero (length (take line_most line)), same, append-nil),
      rw (eqb-suc-zero (length line), eqb-suc-zero (length (take line_most line)), same),
    )

by_lines : (input line : List ℕ) (m : Machine) → IsLines input (mid_line m line) (lines_with_lem line input) m
unfolding printed_input after_input answers lines_with_lem machine_after
by_lines [] line m = input_end line m
by_lines (x ∷ input) line m =
    go (test (eqb x 10)) (by_lines input [] (line_executed line m).machine) (by_lines input (line ++ (x ∷ [])) m)
  where
    go : Test (eqb x 10)
        → IsLines input (mid_line (line_executed line m).machine []) (lines_with_lem [] input)
        (line_executed line m).machine
        → IsLines input (mid_line m (line ++ (x ∷ []))) (lines_with_lem (line ++ (x ∷ [])) input) m
        → IsLines (x ∷ input) (mid_line m line) (lines_with_lem line (x ∷ input)) m
    go (passes e) ended continued =
        let step = line_feed x line m e in
        let after = line_executed line m in
        let first = append_assoc (reply_line after.reply) (printed_input input (mid_line after.machine [])) _ in
        (rw (step.0, step.1, e) (first ∙ rw (← ended.0)), rw (step.1, e) ended.1)
    go (fails e) ended continued = let step = other_byte x line m e in rw (step.0, step.1, e) continued

-- ---- blocks

by_blocks : (blocks : List (List ℕ)) (d : Dialogue)
    → (printed_blocks blocks d ≡ printed_whole (flatten blocks) d)
    × (after_blocks blocks d ≡ after_whole (flatten blocks) d)
unfolding printed_blocks after_blocks flatten printed_input after_input
by_blocks [] d = (refl, refl)
by_blocks (block ∷ later) d =
    let append = printed_append block (flatten later) d in
    let after = after_append block (flatten later) d in
    let (printed, left) = by_blocks later (after_input block d) in
    (rw (append, after, printed) (sym (append_assoc (printed_input block d) _ _)), rw (after, left))

module _ (memory : List ℕ) (blocks : List (List ℕ)) where
  abbrev start : Machine
  start = machine_of zero_state memory

  pub blocks_print : printed_blocks blocks (initial memory) ≡ answers (lines (flatten blocks)) start
  blocks_print =
      (by_blocks blocks (initial memory)).0 ∙ (by_lines (flatten blocks) [] start).0
      ∙ rw (lines_with (flatten blocks) [])

  pub blocks_leave : after_blocks blocks (initial memory)
      ≡ mid_line (machine_after (map command_of (lines (flatten blocks))) start) []
  blocks_leave =
      (by_blocks blocks (initial memory)).1 ∙ (by_lines (flatten blocks) [] start).1
      ∙ rw (lines_with (flatten blocks) [])

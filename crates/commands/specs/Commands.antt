-- Document 01, "The cabinet program": which bytes are which command.
use Rattle.std.specs.Prelude.{Bool, true, cond, ◌&&◌, List, [], ◌∷◌, map, ℕ, eqb, ltb, leb, length}
use Rattle.decimal.specs.Numerals.{is_digit, numeral_value}
use Rattle.protocol.specs.declared.Call.TheVariants.{Read, Write, Join, Clean, Restart, Detach, Attach, PowerOff}
use Rattle.commands.specs.declared.Command.{Command}
use Rattle.commands.specs.declared.Command.TheVariants.{Format, Perform, Bad}
use Rattle.commands.specs.declared.Loan.TheVariants.{Block, StoredLabel}

-- ---- words and numbers

-- a byte in front of the first of several strings
abbrev pub on_first : ℕ → List (List ℕ) → List (List ℕ)
on_first x [] = (x ∷ []) ∷ []
on_first x (w ∷ later) = (x ∷ w) ∷ later

-- "one space between": each space (32) ends a word and begins the next. Two spaces have an empty word between them, a
-- space at an end has one beside it.
unfoldable pub words : List ℕ → List (List ℕ)
words [] = [] ∷ []
words (x ∷ line) = cond (eqb x 32) ([] ∷ words line) (on_first x (words line))

unfoldable pub are_digits : List ℕ → Bool
are_digits [] = true
are_digits (x ∷ w) = is_digit x && are_digits w

-- "at most 65,535"
abbrev pub number_most : ℕ
number_most = 65535

-- "1 to 5 digits", and the value
abbrev pub sized : ℕ → ℕ → Bool
sized count v = ltb 0 count && leb count 5 && leb v number_most

-- "numbers are decimal, 1 to 5 digits, at most 65,535"
unfoldable pub is_number : List ℕ → Bool
is_number w = are_digits w && sized (length w) (numeral_value w)

unfoldable pub are_numbers : List (List ℕ) → Bool
are_numbers [] = true
are_numbers (w ∷ later) = is_number w && are_numbers later

-- ---- commands: a letter, and its numbers

-- the entry of a table that a letter has
abbrev entry : ℕ → List (ℕ × Command) → Command
entry letter [] = Bad
entry letter ((x, command) ∷ later) = cond (eqb letter x) command (entry letter later)

-- `c` cut
abbrev with_none : List (ℕ × Command)
with_none = (99, Perform PowerOff (Block 0)) ∷ []

-- `x d` lose, `r d` return, `q p` quiet, `s p` restart; "The program's `r d` line shows the stored label" (document 02,
-- 2.6)
abbrev with_one : ℕ → List (ℕ × Command)
with_one a =
    (120, Perform (Detach a) (Block 0)) ∷
    (114, Perform (Attach a) (StoredLabel a)) ∷
    (113, Perform (Clean a) (Block 0)) ∷
    (115, Perform (Restart a) (Block 0)) ∷
    []

-- `f n b` fresh, `j d p` join; "The program's line becomes `g k p`", a read (document 02, 2.3)
abbrev with_two : ℕ → ℕ → List (ℕ × Command)
with_two a b = (102, Format a b) ∷ (106, Perform (Join a b) (Block 0)) ∷ (103, Perform (Read a b) (Block 0)) ∷ []

-- `w k v p`, "write a block of 64 bytes v (at most 255) with supply p"
abbrev with_three : ℕ → ℕ → ℕ → List (ℕ × Command)
with_three k v p = (119, cond (leb v 255) (Perform (Write k p) (Block v)) Bad) ∷ []

-- the command that a letter with these numbers is
unfoldable pub command_with : ℕ → List ℕ → Command
command_with letter [] = entry letter with_none
command_with letter (a ∷ []) = entry letter (with_one a)
command_with letter (a ∷ b ∷ []) = entry letter (with_two a b)
command_with letter (a ∷ b ∷ c ∷ []) = entry letter (with_three a b c)
command_with letter (a ∷ b ∷ c ∷ d ∷ more) = Bad

-- the first word is a letter and the others are numbers
unfoldable pub command_of_words : List (List ℕ) → Command
command_of_words [] = Bad
command_of_words ([] ∷ later) = Bad
command_of_words ((letter ∷ []) ∷ later) = cond (are_numbers later) (command_with letter (map numeral_value later)) Bad
command_of_words ((x ∷ y ∷ w) ∷ later) = Bad

-- "over 32 bytes before its line feed"
abbrev pub line_most : ℕ
line_most = 32

-- "Any other line, or one over 32 bytes before its line feed"
unfoldable pub command_of : List ℕ → Command
command_of line = cond (ltb line_most (length line)) Bad (command_of_words (words line))

-- "gives 99 and changes nothing": the number that a command gives by itself; 0 where a call's own follows
abbrev pub command_number : Command → ℕ
command_number (Format n b) = 0
command_number (Perform call loan) = 0
command_number Bad = 99

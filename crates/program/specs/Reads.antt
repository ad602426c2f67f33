-- What a read of the input gives, what it leaves and prints, and whether another follows.
use Rattle.std.specs.Prelude.{Bool, false, List, [], ℕ, zero, suc, ℤ, pos, negsuc, take, Option, Some, None}
use Rattle.shell.specs.Dialogue.{Dialogue, after_input, printed_input, printed_end, after_end}

-- what a read gave, as one number: how many bytes, or -1 where it failed
abbrev pub count_read : Option ℕ → ℤ
count_read None = negsuc 0
count_read (Some count) = pos count

-- Fewer than 0 bytes are an error, which ends no line, since it may be cut short; none is the end of the input; more
-- are so many of the block.
abbrev pub after_read : ℤ → List ℕ → Dialogue → Dialogue
after_read (negsuc k) block d = d
after_read (pos zero) block d = after_end d
after_read (pos (suc k)) block d = after_input (take (suc k) block) d

abbrev pub printed_read : ℤ → List ℕ → Dialogue → List ℕ
printed_read (negsuc k) block d = []
printed_read (pos zero) block d = printed_end d
printed_read (pos (suc k)) block d = printed_input (take (suc k) block) d

-- Another read follows where this one gave bytes, and what they printed could be written.
abbrev pub goes_on : ℤ → Bool → Bool
goes_on (negsuc k) written = false
goes_on (pos zero) written = false
goes_on (pos (suc k)) written = written

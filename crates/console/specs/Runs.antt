-- What a read of the program, and a run of it, is promised to leave and to hand to the writer.
use Rattle.std.specs.Prelude.{◌≡◌, ◌⊎◌, false, List, [], ◌∷◌, ◌++◌, ℕ, ◌+◌, ◌-◌, ◌^◌, ℤ, length}
use Rattle.shell.specs.declared.Shell.{Shell}
use Rattle.shell.specs.Dialogue.{Dialogue, dialogue, initial}
use Rattle.program.specs.Reads.{count_read, after_read, printed_read, goes_on}
use Rattle.program.specs.Rounds.{Round, after_rounds, AllGoOn}
use Rattle.console.specs.declared.Program.{Program}
use Rattle.console.specs.declared.Served.{Served}

-- What may be handed to the writer: all that is collected, which is what a read printed that left this state.
pub record Replies (got : ℤ) (h : Shell) (said : List ℕ) : Type 0 where
  pub all : length said ≡ h.used
  pub block : List ℕ
  pub before : Dialogue
  pub prints : said ≡ printed_read got block before
  pub leaves : h.state ≡ (after_read got block before).machine.state

-- a run makes at most so many reads
abbrev pub most_reads : ℕ
most_reads = 2 ^ 64 - 1

abbrev pub round_of : Served → List ℕ → Round
round_of last block = record { got = count_read last.got; block = block; written = last.written }

-- So many reads were made: each but the last is followed by another, and what is left is what they leave, one after the
-- other. The last is the one that is handed back, with the block that it filled.
pub record Made (reads : ℕ) (memory₀ : List ℕ) (program : Program) (last : Served) : Type 0 where
  pub earlier : List Round
  pub count : length earlier + 1 ≡ reads
  pub go_on : AllGoOn earlier
  pub left : dialogue program.shell program.memory
      ≡ after_rounds (earlier ++ (round_of last program.block ∷ [])) (initial memory₀)

-- A run ends at the first read that no other is to follow, or when it has made the most reads.
pub record Ran (memory₀ : List ℕ) (program : Program) (last : Served) : Type 0 where
  pub reads : ℕ
  pub made : Made reads memory₀ program last
  pub ends : (goes_on (count_read last.got) last.written ≡ false) ⊎ (reads ≡ most_reads)

-- The reads that follow one: where none is to follow, none is made, and nothing changes.
pub record Followed (first : Served) (program₀ : Program) (last : Served) (program : Program) : Type 0 where
  pub none : goes_on (count_read first.got) first.written ≡ false → (last ≡ first) × (program ≡ program₀)
  pub some : (start : List ℕ) → Made 1 start program₀ first → Ran start program last

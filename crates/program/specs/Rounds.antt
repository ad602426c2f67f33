-- The program's reads, one after the other: what they leave and print. What a read gave, and whether its replies could
-- be written, only the system knows: it stands in a `Round`.
use Rattle.std.specs.Prelude.{◌≡◌, Bool, true, ℤ, pos, negsuc, take, ℕ}
use mathlib.Core.List.{List, [], ◌∷◌, ◌++◌, map, flatten}
use Rattle.shell.specs.Dialogue.{Dialogue, transcript, initial, after_blocks}
use Rattle.program.specs.Reads.{after_read, printed_read, goes_on}

pub record Round : Type 0 where
  pub got : ℤ
  pub block : List ℕ
  pub written : Bool

unfoldable pub after_rounds : List Round → Dialogue → Dialogue
after_rounds [] d = d
after_rounds (t ∷ later) d = after_rounds later (after_read t.got t.block d)

unfoldable pub printed_rounds : List Round → Dialogue → List ℕ
printed_rounds [] d = []
printed_rounds (t ∷ later) d =
    printed_read t.got t.block d ++ printed_rounds later (after_read t.got t.block d)

-- each of them is followed by another
unfoldable pub AllGoOn : List Round → Type 0
AllGoOn [] = Unit {0}
AllGoOn (t ∷ later) = (goes_on t.got t.written ≡ true) × AllGoOn later

-- the bytes that came
abbrev pub bytes_read : ℤ → List ℕ → List ℕ
bytes_read (negsuc k) block = []
bytes_read (pos k) block = take k block

abbrev pub blocks_of : List Round → List (List ℕ)
blocks_of rounds = map (λ t. bytes_read t.got t.block) rounds

-- Where the end of the input ends the program, what it had printed is the transcript of all that came, and what it
-- leaves is what those blocks leave: `ProgramMeetsDemand3` speaks of both.
pub record Serve (memory : List ℕ) (rounds : List Round) (last : Round) : Type 0 where
  pub prints : printed_rounds (rounds ++ (last ∷ [])) (initial memory) ≡ transcript memory (flatten (blocks_of rounds))
  pub leaves : after_rounds (rounds ++ (last ∷ [])) (initial memory) ≡ after_blocks (blocks_of rounds) (initial memory)

abbrev pub RoundsServeInput : Type 0
RoundsServeInput = (memory : List ℕ) (rounds : List Round) → AllGoOn rounds → (last : Round) → last.got ≡ pos 0
    → Serve memory rounds last

-- Reads one after the other, and the blocks that they gave. Assumes nothing.
use mathlib.Core.Path.{◌≡◌, refl, ap, ◌∙◌}
use mathlib.Core.Bool.{Bool, true}
use mathlib.Core.List.{List, [], ◌∷◌, ◌++◌, append-nil}
use Prim.Native.Nat.{ℕ, zero, suc}
use lib.IntN.{ℤ, pos, negsuc}
use Rattle.sets.proofs.Tests.{clash}
use Rattle.shell.specs.Dialogue.{Dialogue, after_input, printed_input, printed_end, initial}
use Rattle.shell.specs.Dialogue.{printed_blocks, after_blocks, transcript}
use Rattle.shell.proofs.Transcript.{blocks_print}
use Rattle.program.specs.Reads.{after_read, printed_read, goes_on}
use Rattle.program.specs.Rounds.{Round, after_rounds, printed_rounds, AllGoOn, bytes_read, blocks_of}
use Rattle.program.specs.Rounds.{RoundsServeInput}

-- ---- one read more

pub rounds_last : (rounds : List Round) (t : Round) (d : Dialogue)
    → after_rounds (rounds ++ (t ∷ [])) d ≡ after_read t.got t.block (after_rounds rounds d)
unfolding after_rounds
rounds_last [] t d = refl
rounds_last (u ∷ rounds) t d = rounds_last rounds t (after_read u.got u.block d)

pub go_on_last : (rounds : List Round) (t : Round) → AllGoOn rounds → goes_on t.got t.written ≡ true
    → AllGoOn (rounds ++ (t ∷ []))
unfolding AllGoOn
go_on_last [] t h e = (e, tt)
go_on_last (u ∷ rounds) t h e = (h.0, go_on_last rounds t h.1 e)

-- ---- a read that another follows gave a block of the input

module _ (block : List ℕ) (d : Dialogue) where
  block_served : (got : ℤ) (written : Bool) → goes_on got written ≡ true
      → (after_read got block d ≡ after_input (bytes_read got block) d)
      × (printed_read got block d ≡ printed_input (bytes_read got block) d)
  block_served (negsuc k) written e = clash e refl
  block_served (pos zero) written e = clash e refl
  block_served (pos (suc k)) written e = (refl, refl)

module _ (last : Round) (ended : last.got ≡ pos 0) where
  by_rounds : (rounds : List Round) (d : Dialogue) → AllGoOn rounds
      → (printed_rounds (rounds ++ (last ∷ [])) d ≡ printed_blocks (blocks_of rounds) d)
      × (after_rounds (rounds ++ (last ∷ [])) d ≡ after_blocks (blocks_of rounds) d)
  unfolding printed_rounds after_rounds printed_blocks after_blocks AllGoOn
  by_rounds [] d h = rw (ended, append-nil (printed_end d)) (refl, refl)
  by_rounds (t ∷ rounds) d h =
      let (left, printed) = block_served t.block d t.got t.written h.0 in
      let later = by_rounds rounds (after_input (bytes_read t.got t.block) d) h.1 in
      (rw (printed, left, later.0), ap (after_rounds (rounds ++ (last ∷ []))) left ∙ later.1)

pub rounds_serve_input : RoundsServeInput
unfolding transcript
rounds_serve_input memory rounds h last ended =
    let (printed, left) = by_rounds last ended rounds (initial memory) h in
    record { prints = printed ∙ blocks_print memory (blocks_of rounds); leaves = left }

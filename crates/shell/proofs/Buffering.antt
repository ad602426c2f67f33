-- The bytes of a line that are buffered, instead of the whole line. Assumes nothing.
use mathlib.Core.Path.{◌≡◌}
use mathlib.Core.Bool.{cond}
use mathlib.Core.List.{List, [], ◌∷◌, ◌++◌}
use Prim.Native.Nat.{ℕ}
use native.Mathlib.Omega.{arith}
use lib.Dec.{ltb}
use lib.ListN.{length, take, length-append}
use lib.Seq.{take_all, take-append-le, length-take-le}
use borrow.Author.Tests.{ltb-true, ltb-false}
use Rattle.buffers.specs.ByteLists.{with_byte_within}
use Rattle.sets.proofs.Tests.{Test, test, passes, fails}
use Rattle.commands.specs.Commands.{line_most, command_of}
use Rattle.shell.specs.Dialogue.{line_buffer, with_byte}

-- they are the same command as the whole line
pub same_command : (line : List ℕ) → command_of (take line_buffer line) ≡ command_of line
unfolding command_of
same_command line = go (test (ltb line_most (length line)))
  where
    go : Test (ltb line_most (length line)) → command_of (take line_buffer line) ≡ command_of line
    go (passes e) =
        let h = ltb-true line_most (length line) e in
        rw (length-take-le line_buffer line h, e)
    go (fails e) = rw (take_all line_buffer line (omega (arith, ltb-false line_most (length line) e)))

pub with_byte-take : (line : List ℕ) (x : ℕ) → with_byte (take line_buffer line) x ≡ take line_buffer (line ++ (x ∷ []))
unfolding with_byte_within
with_byte-take line x = go (test (ltb (length line) line_buffer))
  where
    go : Test (ltb (length line) line_buffer)
        → cond (ltb (length (take line_buffer line)) line_buffer)
        (take line_buffer line ++ (x ∷ [])) (take line_buffer line)
        ≡ take line_buffer (line ++ (x ∷ []))
    go (passes e) =
        let h = ltb-true (length line) line_buffer e in
        let more = take_all line_buffer (line ++ (x ∷ [])) (omega (arith, h, length-append line (x ∷ []))) in
        rw (take_all line_buffer line (omega arith), e, more)
    go (fails e) =
        let h = ltb-false (length line) line_buffer e in
        rw (length-take-le line_buffer line h, take-append-le line_buffer line (x ∷ []) h)

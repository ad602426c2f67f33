-- Input byte by byte, and block by block. Assumes nothing.
use mathlib.Core.Path.{◌≡◌, refl, sym, ◌∙◌}
use mathlib.Core.Bool.{true, cond}
use mathlib.Core.List.{List, [], ◌∷◌, ◌++◌, append_assoc, append-nil}
use Prim.Native.Nat.{ℕ, ◌+◌, ◌≤◌, ◌<◌}
use native.Mathlib.Numerals.{add-one}
use lib.Dec.{eqb, eqb-suc-zero}
use lib.ListN.{length, take, get_or}
use lib.Seq.{take-suc}
use Rattle.buffers.specs.Buffers.{Stored}
use Rattle.buffers.proofs.Splicing.{splice_nothing, stored_after}
use Rattle.replies.specs.Replies.{reply_line}
use Rattle.interpreter.specs.Execution.{Machine}
use Rattle.shell.specs.Dialogue.{Dialogue, line_result, line_ended, line_with_byte, after_byte, printed_byte}
use Rattle.shell.specs.Dialogue.{after_input, printed_input, after_end, printed_end}

-- ---- what one byte and the end of the input leave and print, by their tests

pub after_byte_lem : (x : ℕ) (d : Dialogue) → after_byte x d ≡ cond (eqb x 10) (line_ended d) (line_with_byte x d)
unfolding after_byte
after_byte_lem x d = refl

pub printed_byte_lem : (x : ℕ) (d : Dialogue) → printed_byte x d ≡ cond (eqb x 10) (reply_line (line_result d).reply) []
unfolding printed_byte
printed_byte_lem x d = refl

pub after_end_lem : (d : Dialogue) → after_end d ≡ cond (eqb (length d.line) 0) d (line_ended d)
unfolding after_end
after_end_lem d = refl

pub printed_end_lem : (d : Dialogue) → printed_end d
    ≡ cond (eqb (length d.line) 0) [] (reply_line (line_result d).reply)
unfolding printed_end
printed_end_lem d = refl

-- where no line has begun, the end changes nothing
pub nothing_ends : (line : List ℕ) (m : Machine) → eqb (length line) 0 ≡ true
    → after_end (record { machine = m; line = line }) ≡ record { machine = m; line = [] }
unfolding after_end
nothing_ends [] m e = refl
nothing_ends (x ∷ line) m e = let no = eqb-suc-zero (length line) in cc

-- what the check needs to prove `take_byte` and `finish`
pub ruleset serving = (splice_nothing, after_byte_lem, printed_byte_lem, after_end_lem, printed_end_lem, nothing_ends)

-- ---- input in two parts

pub after_append : (first later : List ℕ) (d : Dialogue)
    → after_input (first ++ later) d ≡ after_input later (after_input first d)
unfolding after_input
after_append [] later d = refl
after_append (x ∷ first) later d = after_append first later (after_byte x d)

pub printed_append : (first later : List ℕ) (d : Dialogue)
    → printed_input (first ++ later) d ≡ printed_input first d ++ printed_input later (after_input first d)
unfolding after_input printed_input
printed_append [] later d = refl
printed_append (x ∷ first) later d =
    rw (printed_append first later (after_byte x d)) (sym (append_assoc (printed_byte x d) _ _))

-- ---- one byte more of a block

module _ (block : List ℕ) (i : ℕ) (here : i < length block) (d : Dialogue) {q : Dialogue}
    (so_far : q ≡ after_input (take i block) d) where
  pub after_next : {r : Dialogue} → r ≡ after_byte (get_or block i 0) q → r ≡ after_input (take (i + 1) block) d
  unfolding after_input
  after_next e = e ∙ rw (so_far, add-one i, take-suc block i 0 here) (sym (after_append (take i block) _ d))

  printed_next : printed_input (take (i + 1) block) d
      ≡ printed_input (take i block) d ++ printed_byte (get_or block i 0) q
  unfolding printed_input
  printed_next = rw (so_far, add-one i, take-suc block i 0 here) (printed_append (take i block) _ d ∙ rw append-nil)

  -- what it prints is stored behind what was printed
  pub stores_next : (old : List ℕ) (at : ℕ) {used used' : ℕ} {out out' : List ℕ} → at ≤ length old
      → Stored at (printed_input (take i block) d) old used out
      → Stored used (printed_byte (get_or block i 0) q) out used' out'
      → Stored at (printed_input (take (i + 1) block) d) old used' out'
  stores_next old at room before step =
      let earlier = printed_input (take i block) d in
      rw printed_next (stored_after old earlier (printed_byte (get_or block i 0) q) at room before step)

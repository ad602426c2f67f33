-- From words to commands: one pass over a line finds the command of its words. Assumes nothing.
use mathlib.Core.Path.{◌≡◌, refl, sym, ◌∙◌}
use mathlib.Core.Bool.{Bool, true, false, cond, ◌&&◌, and-true, and-false, and_assoc}
use mathlib.Core.List.{List, [], ◌∷◌, map, reverse, reverse_aux}
use mathlib.Core.Logic.{◌⊎◌, inl, inr}
use Prim.Native.Nat.{ℕ, suc, ◌<◌}
use native.Mathlib.Omega.{arith}
use lib.Dec.{eqb, ltb, leb, eqb-suc-zero, eqb-suc-suc}
use lib.ListN.{length}
use borrow.Author.Tests.{le-ltb, lt-leb, leb-true, ne_eqb}
use Rattle.sets.proofs.Tests.{Test, passes, fails, test, and_parts}
use Rattle.decimal.specs.Numerals.{numeral_value, value_from}
use Rattle.commands.specs.declared.Command.{Command}
use Rattle.commands.specs.declared.Command.TheVariants.{Bad}
use Rattle.commands.specs.declared.scanner.Scan.{Scan}
use Rattle.commands.specs.Commands.{number_most, sized, words, are_digits, is_number}
use Rattle.commands.specs.Commands.{are_numbers, command_with, command_of_words}
use Rattle.commands.specs.Scanning.{initial_scan, within, word_ended, scanned, decoded}
use Rattle.commands.proofs.Capped.{capped, Capped, large, exact, how_capped}
use Rattle.commands.proofs.ScanOf.{number_of, last_byte, end_fits, valid_of, scan_of}
use Rattle.commands.proofs.WordsFound.{split, pass_splits, words_some, words_split}

as_number : (w : List ℕ) → is_number w ≡ true → number_of w ≡ numeral_value w
unfolding is_number number_of within numeral_value
as_number w e = go (how_capped w 0)
  where
    small : leb (value_from 0 w) number_most ≡ true
    small =
        let sized = (and_parts (are_digits w) _ e).1 in
        (and_parts (ltb 0 (length w) && leb (length w) 5) (leb (value_from 0 w) number_most) sized).1

    go : Capped 0 w → number_of w ≡ value_from 0 w
    go (large h k) = absurd (omega (arith, k, leb-true (value_from 0 w) number_most small))
    go (exact h) = rw (h, le-ltb number_most (value_from 0 w) (leb-true (value_from 0 w) number_most small))

ends_as_number : (w : List ℕ) → (are_digits w && sized (length w) (capped w)) ≡ is_number w
unfolding is_number numeral_value
ends_as_number w = go (how_capped w 0)
  where
    go : Capped 0 w → (are_digits w && sized (length w) (capped w))
        ≡ (are_digits w && sized (length w) (value_from 0 w))
    go (large h k) = rw (lt-leb _ _ h, lt-leb _ _ k)
    go (exact h) = rw h

-- the first word is one byte, and each later one a number
abbrev fit_words : List (List ℕ) → Bool
fit_words [] = true
fit_words (w ∷ []) = eqb (length w) 1
fit_words (w ∷ v ∷ done) = fit_words (v ∷ done) && is_number w

valid_words : (done : List (List ℕ)) (w : List ℕ) → (valid_of done w && end_fits done w) ≡ fit_words (w ∷ done)
valid_words [] w = refl
valid_words (v ∷ done) w =
    and_assoc (valid_of done v && end_fits done v) (are_digits w) _ ∙ rw (ends_as_number w, valid_words done v)

-- the command of a first word and others, by tests of them
command_by_tests : List ℕ → List (List ℕ) → Command
command_by_tests first args =
    cond (eqb (length first) 1 && are_numbers args) (command_with (last_byte first) (map numeral_value args)) Bad

words_by_tests : (first : List ℕ) (args : List (List ℕ)) → command_of_words (first ∷ args) ≡ command_by_tests first args
unfolding command_of_words command_by_tests
words_by_tests [] args = refl
words_by_tests (x ∷ []) args = refl
words_by_tests (x ∷ y ∷ first) args = rw (eqb-suc-suc (suc (length first)) 0, eqb-suc-zero (length first))

numbers_agree : (args : List (List ℕ)) → are_numbers args ≡ true → map number_of args ≡ map numeral_value args
unfolding are_numbers
numbers_agree [] e = refl
numbers_agree (w ∷ args) e =
    let h = and_parts (is_number w) (are_numbers args) e in
    rw (as_number w h.0, numbers_agree args h.1)

-- the scan's numbers are those of the words wherever they are asked
scan_by_tests : (first : List ℕ) (args : List (List ℕ))
    → cond (eqb (length first) 1 && are_numbers args) (command_with (last_byte first) (map number_of args)) Bad
    ≡ command_by_tests first args
unfolding command_by_tests
scan_by_tests first args = go (test (are_numbers args))
  where
    go : Test (are_numbers args)
        → cond (eqb (length first) 1 && are_numbers args) (command_with (last_byte first) (map number_of args)) Bad
        ≡ command_by_tests first args
    go (passes e) = rw (numbers_agree args e)
    go (fails e) = rw (e, and-false (eqb (length first) 1))

same_either : (t : Bool) → cond t Bad Bad ≡ Bad
same_either true = refl
same_either false = refl

-- a line with fewer or more words than any command has
other_count : (s : Scan) → (s.words < 1) ⊎ (4 < s.words) → decoded s ≡ Bad
unfolding decoded
other_count s other =
    rw (
      ne_eqb s.words 1 (λ e. omega (arith, e, other)),
      ne_eqb s.words 2 (λ e. omega (arith, e, other)),
      ne_eqb s.words 3 (λ e. omega (arith, e, other)),
      ne_eqb s.words 4 (λ e. omega (arith, e, other)),
    )
    (same_either s.valid)

pub no_words : (s : Scan) → s.words < 1 → decoded s ≡ Bad
no_words s few = other_count s (inl few)

pub more_words : (s : Scan) → 4 < s.words → decoded s ≡ Bad
more_words s many = other_count s (inr many)

-- what the check needs to prove `decode`
pub ruleset other_counts = (no_words, more_words)

-- more words than any command has
too_many : (done : List (List ℕ)) (a b c d e : List ℕ) (later : List (List ℕ))
    → command_of_words (reverse_aux done (a ∷ b ∷ c ∷ d ∷ e ∷ later)) ≡ Bad
unfolding command_by_tests command_with
too_many [] a b c d e later =
    words_by_tests a (b ∷ c ∷ d ∷ e ∷ later) ∙ same_either (eqb (length a) 1 && are_numbers (b ∷ c ∷ d ∷ e ∷ later))
too_many (v ∷ done) a b c d e later = too_many done v a b c d (e ∷ later)

scan_valid : (w : List ℕ) (done : List (List ℕ)) → (scan_of (w ∷ done) []).valid ≡ fit_words (w ∷ done)
unfolding scan_of are_digits
scan_valid w done = and-true _ ∙ valid_words done w

decoded-words : (found : List (List ℕ)) → decoded (scan_of found []) ≡ command_of_words (reverse found)
unfolding decoded scan_of are_numbers command_of_words
decoded-words [] = refl
decoded-words (w₀ ∷ []) =
    rw (scan_valid w₀ [], words_by_tests w₀ [], ← scan_by_tests w₀ [], and-true (eqb (length w₀) 1))
decoded-words (w₁ ∷ w₀ ∷ []) =
    rw (scan_valid w₁ (w₀ ∷ []), words_by_tests w₀ (w₁ ∷ []), ← scan_by_tests w₀ (w₁ ∷ []), and-true (is_number w₁))
decoded-words (w₂ ∷ w₁ ∷ w₀ ∷ []) =
    rw (
      scan_valid w₂ (w₁ ∷ w₀ ∷ []),
      words_by_tests w₀ (w₁ ∷ w₂ ∷ []),
      ← scan_by_tests w₀ (w₁ ∷ w₂ ∷ []),
      and-true (is_number w₂),
      and_assoc (eqb (length w₀) 1) (is_number w₁) (is_number w₂),
    )
decoded-words (w₃ ∷ w₂ ∷ w₁ ∷ w₀ ∷ []) =
    rw (
      scan_valid w₃ (w₂ ∷ w₁ ∷ w₀ ∷ []),
      words_by_tests w₀ (w₁ ∷ w₂ ∷ w₃ ∷ []),
      ← scan_by_tests w₀ (w₁ ∷ w₂ ∷ w₃ ∷ []),
      and-true (is_number w₃),
      and_assoc (eqb (length w₀) 1) (is_number w₁) (is_number w₂),
      and_assoc (eqb (length w₀) 1) (is_number w₁ && is_number w₂) (is_number w₃),
      and_assoc (is_number w₁) (is_number w₂) (is_number w₃),
    )
decoded-words (w₄ ∷ w₃ ∷ w₂ ∷ w₁ ∷ w₀ ∷ done) =
    more_words (scan_of (w₄ ∷ w₃ ∷ w₂ ∷ w₁ ∷ w₀ ∷ done) []) (omega arith)
    ∙ sym (too_many done w₀ w₁ w₂ w₃ w₄ [])

-- one pass over a line finds the command of its words
pub one_pass_decodes : (line : List ℕ) → decoded (word_ended (scanned initial_scan line))
    ≡ command_of_words (words line)
unfolding initial_scan scan_of
one_pass_decodes line =
    rw (pass_splits line [] []) (decoded-words (split [] [] line) ∙ rw (words_split line [] [], words_some line))

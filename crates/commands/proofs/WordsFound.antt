-- The words of a line, as one pass finds them: the latest first. Assumes nothing.
use mathlib.Core.Path.{◌≡◌, refl}
use mathlib.Core.Bool.{cond}
use mathlib.Core.List.{List, [], ◌∷◌, ◌++◌, reverse, reverse_aux, append_assoc, append-nil}
use Prim.Native.Nat.{ℕ}
use lib.Dec.{eqb}
use Rattle.sets.proofs.Tests.{Test, passes, fails, test}
use Rattle.commands.specs.Commands.{words, on_first}
use Rattle.commands.specs.Scanning.{word_ended, stepped, scanned}
use Rattle.commands.proofs.ScanOf.{scan_of, ended-step, byte_step}

unfoldable pub split : List (List ℕ) → List ℕ → List ℕ → List (List ℕ)
split done w [] = w ∷ done
split done w (x ∷ line) = cond (eqb x 32) (split (w ∷ done) [] line) (split done (w ++ (x ∷ [])) line)

pub pass_splits : (line : List ℕ) (done : List (List ℕ)) (w : List ℕ)
    → word_ended (scanned (scan_of done w) line) ≡ scan_of (split done w line) []
unfolding scanned split stepped
pass_splits [] done w = ended-step done w
pass_splits (x ∷ line) done w =
    go (test (eqb x 32)) (pass_splits line (w ∷ done) []) (pass_splits line done (w ++ (x ∷ [])))
  where
    go : Test (eqb x 32) → word_ended (scanned (scan_of (w ∷ done) []) line) ≡ scan_of (split (w ∷ done) [] line) []
        → word_ended (scanned (scan_of done (w ++ (x ∷ []))) line) ≡ scan_of (split done (w ++ (x ∷ [])) line) []
        → word_ended (scanned (stepped (scan_of done w) x) line) ≡ scan_of (split done w (x ∷ line)) []
    go (passes e) space byte = rw (e, ended-step done w) space
    go (fails e) space byte = rw (e, byte_step done w x) byte

abbrev pub joined : List ℕ → List (List ℕ) → List (List ℕ)
joined w [] = w ∷ []
joined w (v ∷ later) = (w ++ v) ∷ later

joined_first : (w : List ℕ) (x : ℕ) (later : List (List ℕ)) → joined (w ++ (x ∷ [])) later ≡ joined w (on_first x later)
joined_first w x [] = refl
joined_first w x (v ∷ later) = rw (append_assoc w (x ∷ []) v)

pub words_some : (line : List ℕ) → joined [] (words line) ≡ words line
unfolding words
words_some [] = refl
words_some (x ∷ line) = go (test (eqb x 32)) (words line)
  where
    go : Test (eqb x 32) → (later : List (List ℕ))
        → joined [] (cond (eqb x 32) ([] ∷ later) (on_first x later)) ≡ cond (eqb x 32) ([] ∷ later) (on_first x later)
    go (passes e) later = rw e
    go (fails e) [] = rw e
    go (fails e) (v ∷ later) = rw e

pub words_split : (line : List ℕ) (done : List (List ℕ)) (w : List ℕ)
    → reverse (split done w line) ≡ reverse_aux done (joined w (words line))
unfolding words split
words_split [] done w = rw (append-nil w)
words_split (x ∷ line) done w =
    go (test (eqb x 32)) (words_split line (w ∷ done) []) (words_split line done (w ++ (x ∷ [])))
  where
    go : Test (eqb x 32) → reverse (split (w ∷ done) [] line) ≡ reverse_aux done (w ∷ joined [] (words line))
        → reverse (split done (w ++ (x ∷ [])) line) ≡ reverse_aux done (joined (w ++ (x ∷ [])) (words line))
        → reverse (split done w (x ∷ line)) ≡ reverse_aux done (joined w (words (x ∷ line)))
    go (passes e) space byte = rw (e, space, words_some line, append-nil w)
    go (fails e) space byte = rw (e, byte, joined_first w x (words line))

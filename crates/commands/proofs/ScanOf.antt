-- What a scan holds, from the words that have ended, the latest first, and the word under way. Assumes nothing.
use mathlib.Core.Path.{◌≡◌, refl, sym}
use mathlib.Core.Bool.{Bool, true, ◌&&◌, ◌||◌, and-true, and_assoc}
use mathlib.Core.List.{List, [], ◌∷◌, ◌++◌}
use Prim.Native.Nat.{ℕ}
use native.Mathlib.Numerals.{add-one}
use lib.Dec.{eqb, eqb-suc-zero}
use lib.ListN.{length, length-append}
use Rattle.decimal.specs.Numerals.{is_digit}
use Rattle.commands.specs.declared.scanner.Scan.{Scan}
use Rattle.commands.specs.Commands.{sized, are_digits}
use Rattle.commands.specs.Scanning.{within, fits, word_ended, letter_with, byte_read}
use Rattle.commands.proofs.Capped.{capped, capped_snoc}

unfoldable pub number_of : List ℕ → ℕ
number_of w = within (capped w)

abbrev pub last_number : List (List ℕ) → ℕ
last_number [] = 0
last_number (w ∷ done) = number_of w

abbrev pub second_number : List (List ℕ) → ℕ
second_number [] = 0
second_number (w ∷ done) = last_number done

abbrev pub third_number : List (List ℕ) → ℕ
third_number [] = 0
third_number (w ∷ done) = second_number done

abbrev pub last_byte : List ℕ → ℕ
last_byte [] = 0
last_byte (x ∷ []) = x
last_byte (x ∷ y ∷ w) = last_byte (y ∷ w)

abbrev pub letter_of : List (List ℕ) → List ℕ → ℕ
letter_of [] w = last_byte w
letter_of (v ∷ done) w = letter_of done v

-- whether a word may end behind these
abbrev pub end_fits : List (List ℕ) → List ℕ → Bool
end_fits [] w = eqb (length w) 1
end_fits (v ∷ done) w = sized (length w) (capped w)

abbrev pub valid_of : List (List ℕ) → List ℕ → Bool
valid_of [] w = true
valid_of (v ∷ done) w = valid_of done v && end_fits done v && are_digits w

unfoldable pub scan_of : List (List ℕ) → List ℕ → Scan
scan_of done w = record {
  letter = letter_of done w;
  words = length done;
  third = third_number done;
  second = second_number done;
  last = last_number done;
  bytes = length w;
  value = capped w;
  valid = valid_of done w;
}

-- ---- a step

last_byte_snoc : (w : List ℕ) (x : ℕ) → last_byte (w ++ (x ∷ [])) ≡ x
last_byte_snoc [] x = refl
last_byte_snoc (y ∷ []) x = refl
last_byte_snoc (y ∷ z ∷ w) x = last_byte_snoc (z ∷ w) x

digits_snoc : (w : List ℕ) (x : ℕ) → are_digits (w ++ (x ∷ [])) ≡ (are_digits w && is_digit x)
unfolding are_digits
digits_snoc [] x = and-true (is_digit x)
digits_snoc (y ∷ w) x = rw (digits_snoc w x) (sym (and_assoc (is_digit y) (are_digits w) (is_digit x)))

fits_end : (done : List (List ℕ)) (w : List ℕ) → fits (scan_of done w) ≡ end_fits done w
unfolding fits scan_of
fits_end [] w = refl
fits_end (v ∷ done) w = rw (eqb-suc-zero (length done))

pub ended-step : (done : List (List ℕ)) (w : List ℕ) → word_ended (scan_of done w) ≡ scan_of (w ∷ done) []
unfolding word_ended scan_of number_of are_digits
ended-step done w = rw (fits_end done w, add-one (length done), and-true (valid_of done w && end_fits done w))

letter_step : (done : List (List ℕ)) (w : List ℕ) (x : ℕ) → letter_with (scan_of done w) x
    ≡ letter_of done (w ++ (x ∷ []))
unfolding letter_with scan_of
letter_step [] w x = sym (last_byte_snoc w x)
letter_step (v ∷ done) w x = rw (eqb-suc-zero (length done))

valid_step : (done : List (List ℕ)) (w : List ℕ) (x : ℕ)
    → (valid_of done w && (eqb (length done) 0 || is_digit x)) ≡ valid_of done (w ++ (x ∷ []))
valid_step [] w x = refl
valid_step (v ∷ done) w x =
    rw (eqb-suc-zero (length done), digits_snoc w x)
    (and_assoc (valid_of done v && end_fits done v) (are_digits w) (is_digit x))

pub byte_step : (done : List (List ℕ)) (w : List ℕ) (x : ℕ) → byte_read (scan_of done w) x
    ≡ scan_of done (w ++ (x ∷ []))
unfolding byte_read scan_of
byte_step done w x = rw (letter_step done w x, valid_step done w x, capped_snoc w 0 x, length-append w (x ∷ []))

-- What one pass over a line finds: words as numbers, as the code reads them.
use Rattle.std.specs.Prelude.{Bool, true, cond, ◌&&◌, ◌||◌, List, [], ◌∷◌, ℕ, ◌+◌, ◌-◌, ◌*◌, eqb, ltb}
use Rattle.decimal.specs.Numerals.{is_digit}
use Rattle.commands.specs.declared.Command.{Command}
use Rattle.commands.specs.declared.Command.TheVariants.{Bad}
use Rattle.commands.specs.declared.scanner.Scan.{Scan}
use Rattle.commands.specs.Commands.{number_most, sized, command_with}

unfoldable pub initial_scan : Scan
initial_scan = record { letter = 0; words = 0; third = 0; second = 0; last = 0; bytes = 0; value = 0; valid = true }

-- one digit more, unless the value is too large already
unfoldable pub grown : ℕ → ℕ → ℕ
grown value x = cond (ltb number_most value) value (value * 10 + (x - 48))

unfoldable pub within : ℕ → ℕ
within value = cond (ltb number_most value) 0 value

unfoldable pub fits : Scan → Bool
fits s = cond (eqb s.words 0) (eqb s.bytes 1) (sized s.bytes s.value)

unfoldable pub word_ended : Scan → Scan
word_ended s = record {
  letter = s.letter;
  words = s.words + 1;
  third = s.second;
  second = s.last;
  last = within s.value;
  bytes = 0;
  value = 0;
  valid = s.valid && fits s;
}

unfoldable pub letter_with : Scan → ℕ → ℕ
letter_with s x = cond (eqb s.words 0) x s.letter

unfoldable pub byte_read : Scan → ℕ → Scan
byte_read s x = record {
  letter = letter_with s x;
  words = s.words;
  third = s.third;
  second = s.second;
  last = s.last;
  bytes = s.bytes + 1;
  value = grown s.value x;
  valid = s.valid && (eqb s.words 0 || is_digit x);
}

unfoldable pub stepped : Scan → ℕ → Scan
stepped s x = cond (eqb x 32) (word_ended s) (byte_read s x)

unfoldable pub scanned : Scan → List ℕ → Scan
scanned s [] = s
scanned s (x ∷ line) = scanned (stepped s x) line

-- the command of a line whose last word has ended
unfoldable pub decoded : Scan → Command
decoded s =
    cond s.valid
    (cond (eqb s.words 1) (command_with s.letter [])
    (cond (eqb s.words 2) (command_with s.letter (s.last ∷ []))
    (cond (eqb s.words 3) (command_with s.letter (s.second ∷ s.last ∷ []))
    (cond (eqb s.words 4) (command_with s.letter (s.third ∷ s.second ∷ s.last ∷ [])) Bad))))
    Bad

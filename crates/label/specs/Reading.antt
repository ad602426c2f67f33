-- Document 01, "Label reading".
use Rattle.std.specs.Prelude.{Bool, cond, not, ◌&&◌, ◌||◌, List, [], ◌∷◌, ℕ, ◌+◌, ◌/◌, ◌%◌, eqb, ltb, leb, length}
use Rattle.std.specs.Prelude.{get_or, Result, Ok, Err}
use Rattle.refusals.specs.declared.Refusal.{Refusal}
use Rattle.label.specs.declared.Form.{Form}
use Rattle.label.specs.Bytes.{blank, label_length, fields_of}
use Rattle.refusals.specs.Refusals.{first_of, number_of}
use Rattle.label.specs.Rules.{outside, wrong_sets}
use Rattle.label.specs.declared.Label.{Label}
use Rattle.label.specs.declared.Placed.{Placed}
use Rattle.label.specs.declared.Reading.{Reading}

-- a field whose bit of the map stands is 0
unfoldable pub empty_field : ℕ → Label → Bool
empty_field map l =
    (eqb (map % 2) 1 && eqb l.committed 0)
    || (eqb (map / 2 % 2) 1 && eqb l.tentative 0)
    || (eqb (map / 4 % 2) 1 && eqb l.dirty 0)

-- "Its refusals", for so many bytes with this map, number d, n and fields.
unfoldable pub read_refusals : Form → ℕ → ℕ → ℕ → ℕ → Label → List (ℕ × Bool)
read_refusals f len map d n l =
    -- "16, fewer than 2 bytes."
    (16, ltb len 2) ∷
    -- "17, a bit from 3 up stands in the map": one that the form does not fix.
    (17, not (eqb (map / 8) f.fixed)) ∷
    -- "18, n outside 1 to 8 or the number not below n."
    (18, outside f n || leb n d) ∷
    -- "16, fewer bytes than the map asks."
    (16, ltb len (label_length f map)) ∷
    -- "19, a present field is 0, first in bit order."
    (19, empty_field map l) ∷
    (20, wrong_sets l d n) ∷
    []

unfoldable pub read_refusal : Form → ℕ → ℕ → ℕ → ℕ → Label → ℕ
read_refusal f len map d n l = first_of (read_refusals f len map d n l)

abbrev pub found : ℕ → ℕ → Label → ℕ → Reading
found d n l len = record { refusal = 0; number = d; disks = n; label = l; length = len }

-- "refused, it yields zeros for all of these"
abbrev pub refused : ℕ → Reading
refused r = record { refusal = r; number = 0; disks = 0; label = blank; length = 0 }

-- what the reader's code gives, as the paper has it
abbrev pub reading_of : Result Placed Refusal → Reading
reading_of (Ok p) = found p.number p.disks p.label p.length
reading_of (Err r) = refused (number_of r)

-- what a map, a number, n and fields found in so many bytes yield
unfoldable pub judged : Form → ℕ → ℕ → ℕ → ℕ → Label → Reading
judged f len map d n l =
    cond (eqb (read_refusal f len map d n l) 0) (found d n l (label_length f map))
    (refused (read_refusal f len map d n l))

-- "Label reading yields the disk number, n, the three fields and the label's length."
unfoldable pub reading : Form → List ℕ → Reading
reading f s =
    judged f (length s) (get_or s 0 0) (get_or s 1 0 % 16) (get_or s 1 0 / 16 + f.base) (fields_of f s (get_or s 0 0))

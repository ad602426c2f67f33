-- Document 01, "The cabinet program": the line that each line prints.
use Rattle.std.specs.Prelude.{List, [], ◌∷◌, ◌++◌, ℕ, ◌+◌, ◌*◌}
use Rattle.decimal.specs.Numerals.{numeral}
use Rattle.replies.specs.declared.Reply.{Reply}

-- a number of at most five digits and the byte that ends it, and five of these
abbrev pub field_most : ℕ
field_most = 5 + 1

abbrev pub reply_most : ℕ
reply_most = 5 * field_most

-- a number and the byte that ends it
unfoldable pub field : ℕ → ℕ → List ℕ
field n end = numeral n ++ (end ∷ [])

-- "one line of five decimal numbers, one space between: result, stores made, G (0 if stopped), R, and the first byte
-- read (0 unless a read was done)" 32 is a space, 10 the line feed.
unfoldable pub reply_line : Reply → List ℕ
reply_line r =
    field r.result 32 ++
    (field r.stores 32 ++ (field r.current 32 ++ (field r.online 32 ++ field r.byte 10)))

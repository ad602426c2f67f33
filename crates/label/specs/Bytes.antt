-- Document 01, "Label bytes": the bytes that a label is written as, and where each part of a label is found in bytes.
use Rattle.std.specs.Prelude.{cond, List, [], ◌∷◌, ◌++◌, ℕ, zero, suc, ◌+◌, ◌-◌, ◌*◌, ◌/◌, ◌%◌, eqb, get_or, drop}
use Rattle.label.specs.declared.Form.{Form}
use Rattle.label.specs.declared.Label.{Label}

-- a label all of whose fields are 0
abbrev pub blank : Label
blank = record { committed = 0; tentative = 0; dirty = 0 }

-- ---- a label as bytes

-- "A field of 0 has no bit."
abbrev pub present : ℕ → ℕ
present zero = 0
present (suc v) = 1

-- "The first byte is a bit map: bit 0 for C, bit 1 for T, bit 2 for the dirty map."
unfoldable pub map_byte : Form → Label → ℕ
map_byte f l = f.fixed * 8 + (present l.committed + 2 * present l.tentative + 4 * present l.dirty)

-- "The second has the disk number in its low four bits and n in its high four."
unfoldable pub place_byte : Form → ℕ → ℕ → ℕ
place_byte f d n = d + 16 * (n - f.base)

-- a number in so many bytes, low byte first
unfoldable pub little_endian : ℕ → ℕ → List ℕ
little_endian zero v = []
little_endian (suc k) v = v % 256 ∷ little_endian k (v / 256)

-- the bytes of a field that has k of them when its bit stands
abbrev pub field_bytes : ℕ → ℕ → List ℕ
field_bytes k zero = []
field_bytes k (suc v) = little_endian k (suc v)

-- "Then one byte for each field whose bit stands, in bit order." A form may give a set more; the dirty map has one in
-- each, for at most 8 regions.
unfoldable pub encode : Form → ℕ → ℕ → Label → List ℕ
encode f d n l =
    map_byte f l ∷ place_byte f d n ∷
    (field_bytes f.width l.committed ++ (field_bytes f.width l.tentative ++ field_bytes 1 l.dirty))

-- "Length 2 to 5": the length of a label that has every field
unfoldable pub longest_label : Form → ℕ
longest_label f = 2 + f.width + f.width + 1

-- ---- bytes as a label

-- the length that a map asks
unfoldable pub label_length : Form → ℕ → ℕ
label_length f map = 2 + f.width * (map % 2) + f.width * (map / 2 % 2) + map / 4 % 2

-- the number that the first k bytes hold, low byte first
unfoldable pub from_little_endian : ℕ → List ℕ → ℕ
from_little_endian zero s = 0
from_little_endian (suc k) s = get_or s 0 0 + 256 * from_little_endian k (drop 1 s)

-- the field of k bytes at a place, by its bit of the map
unfoldable pub field_at : List ℕ → ℕ → ℕ → ℕ → ℕ
field_at s bit k at = cond (eqb bit 1) (from_little_endian k (drop at s)) 0

-- each field stands behind those present before it, in bit order
unfoldable pub fields_of : Form → List ℕ → ℕ → Label
fields_of f s map = record {
  committed = field_at s (map % 2) f.width 2;
  tentative = field_at s (map / 2 % 2) f.width (2 + f.width * (map % 2));
  dirty = field_at s (map / 4 % 2) 1 (2 + f.width * (map % 2) + f.width * (map / 2 % 2));
}

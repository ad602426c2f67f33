-- What reading and writing promise of each other, for any form: labels to bytes and back, one way of writing each.
use Rattle.std.specs.Prelude.{◌≡◌, ◌↔◌, List, ◌++◌, ℕ, ◌≤◌, ◌<◌, length, get_or, take}
use Rattle.label.specs.declared.Form.{Form}
use Rattle.label.specs.Form.{Roomy, narrow}
use Rattle.label.specs.Bytes.{encode, longest_label, label_length}
use Rattle.label.specs.Reading.{reading, found}
use Rattle.label.specs.Writing.{write_refusal}
use Rattle.label.specs.declared.Label.{Label}

-- every element is a byte
abbrev pub AreBytes : List ℕ → Type 0
AreBytes s = (i : ℕ) → get_or s i 0 < 256

-- the writer takes this label of disk d of n, given room for it
unfoldable pub Writable : Form → ℕ → ℕ → Label → Type 0
Writable f d n l = write_refusal f d n l (length (encode f d n l)) ≡ 0

-- some bytes are read as this label of disk d of n
unfoldable pub Readable : Form → ℕ → ℕ → Label → Type 0
Readable f d n l = (s : List ℕ) × (len : ℕ) × AreBytes s × (reading f s ≡ found d n l len)

-- What is written reads back as the same number, n, fields and length, whatever follows it. (A dirty map is a byte.)
abbrev pub WrittenReads : Form → Type 0
WrittenReads f = (d n : ℕ) (l : Label) (rest : List ℕ) → l.dirty < 256 → Writable f d n l
    → reading f (encode f d n l ++ rest) ≡ found d n l (length (encode f d n l))

-- Bytes that are read as a label are exactly what writing that label gives.
abbrev pub OneWay : Form → Type 0
OneWay f = (s : List ℕ) (d n : ℕ) (l : Label) (len : ℕ) → AreBytes s → reading f s ≡ found d n l len
    → (take len s ≡ encode f d n l) × (len ≡ length (encode f d n l))

-- "what follows is not read": strings that agree on as many bytes as the map asks are read alike, refused or not.
abbrev pub ReadAlike : Form → Type 0
ReadAlike f =
    (s t : List ℕ) → take (label_length f (get_or s 0 0)) s ≡ take (label_length f (get_or s 0 0)) t
    → reading f s ≡ reading f t

-- A readable label is one that the writer accepts, and the other way round.
abbrev pub ReadableIffWritable : Form → Type 0
ReadableIffWritable f = (d n : ℕ) (l : Label) → l.dirty < 256 → Readable f d n l ↔ Writable f d n l

-- What is written are bytes.
abbrev pub WrittenBytes : Form → Type 0
WrittenBytes f = (d n : ℕ) (l : Label) → Writable f d n l → AreBytes (encode f d n l)

-- No label is shorter than its first two bytes, or longer than one that has every field.
abbrev pub Lengths : Form → Type 0
Lengths f = (d n : ℕ) (l : Label) → (2 ≤ length (encode f d n l)) × (length (encode f d n l) ≤ longest_label f)

-- The whole of it.
pub record Codec (f : Form) : Type 0 where
  pub written_reads : WrittenReads f
  pub one_way : OneWay f
  pub read_alike : ReadAlike f
  pub readable_iff_writable : ReadableIffWritable f
  pub bytes_written : WrittenBytes f
  pub lengths : Lengths f

-- ---- the claims

-- of every form that can hold its labels ..
abbrev pub FormsAreCodecs : Type 0
FormsAreCodecs = (f : Form) → Roomy f → Codec f

-- .. and so of document 01's
abbrev pub NarrowIsCodec : Type 0
NarrowIsCodec = Codec narrow

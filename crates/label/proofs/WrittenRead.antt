-- A label that is written is read back, whatever follows it. Assumes nothing.
use mathlib.Core.Path.{◌≡◌, refl, sym, ap, ◌∙◌}
use mathlib.Core.Bool.{false}
use mathlib.Core.List.{List, ◌++◌}
use Prim.Native.Nat.{ℕ, ◌+◌, ◌*◌, ◌/◌, ◌%◌, ◌^◌, ◌≤◌, ◌<◌}
use native.Mathlib.Omega.{arith}
use lib.ListN.{length, get_or, drop, length-append}
use Rattle.label.specs.declared.Form.{Form}
use Rattle.label.specs.Form.{Roomy}
use Rattle.label.specs.Bytes.{map_byte, encode, label_length, fields_of}
use Rattle.label.specs.Reading.{empty_field, found, judged, reading}
use Rattle.label.specs.Codec.{Writable, WrittenReads}
use Rattle.label.specs.declared.Label.{Label}
use Rattle.label.proofs.Accepting.{Proper, Passed, passed, writer_accepts, sets_fit}
use Rattle.label.proofs.Fields.{field_read, field-behind, field_not_empty}
use Rattle.label.proofs.Places.{fields_then, encode_then, MapBits, map_bits, encode-length, place_bytes}

fields_read : (f : Form) (s rest : List ℕ) (map : ℕ) (l : Label) → MapBits f map l
    → drop 2 s ≡ fields_then f l rest → l.committed < 2 ^ (8 * f.width) → l.tentative < 2 ^ (8 * f.width)
    → l.dirty < 256 → fields_of f s map ≡ l
unfolding fields_of
fields_read f s rest map l b e hc ht hd =
    let second = field-behind s _ f.width 2 l.committed e in
    let third = field-behind s _ f.width _ l.tentative second in
    rw (
      b.committed,
      b.tentative,
      b.dirty,
      field_read s _ f.width 2 l.committed e hc,
      field_read s _ f.width _ l.tentative second ht,
      field_read s rest 1 _ l.dirty third hd,
    )

none_empty : (f : Form) (map : ℕ) (l : Label) → MapBits f map l → empty_field map l ≡ false
unfolding empty_field
none_empty f map l b =
    rw (
      b.committed,
      b.tentative,
      b.dirty,
      field_not_empty l.committed,
      field_not_empty l.tentative,
      field_not_empty l.dirty,
    )

read_as : (f : Form) (s : List ℕ) (map d n : ℕ) (l : Label) → get_or s 0 0 ≡ map → get_or s 1 0 % 16 ≡ d
    → get_or s 1 0 / 16 + f.base ≡ n → fields_of f s map ≡ l → Passed f (length s) map d n l
    → reading f s ≡ found d n l (label_length f map)
unfolding reading judged
read_as f s map d n l em ed en el p = rw (em, ed, en, el, passed f (length s) map d n l p)

pub written_reads : (f : Form) → Roomy f → WrittenReads f
unfolding Writable encode
written_reads f r d n l rest hd w =
    let p : Proper f d n l = (writer_accepts f d n l _ w).0 in
    let fits = sets_fit f d n l r p in
    let place = place_bytes f d n l r p in
    let bits = map_bits f l in
    let long : length (encode f d n l) ≤ length (encode f d n l ++ rest) =
    rw (length-append (encode f d n l) rest) (omega arith) in
    read_as f (encode f d n l ++ rest) (map_byte f l) d n l refl place.0 place.1
    (fields_read f _ rest (map_byte f l) l bits (ap (drop 2) (encode_then f d n l rest))
    fits.0 fits.1 hd)
    (record {
      two = omega arith;
      fixed = bits.fixed;
      proper = p;
      whole = rw (← encode-length f d n l) long;
      full = none_empty f (map_byte f l) l bits;
    })
    ∙ ap (found d n l) (sym (encode-length f d n l))

-- Where the parts of a label stand in its bytes. Assumes nothing.
use mathlib.Core.Path.{◌≡◌, ap}
use mathlib.Core.List.{List, ◌∷◌, ◌++◌, append_assoc}
use Prim.Native.Nat.{ℕ, ◌+◌, ◌/◌, ◌%◌, ◌<◌}
use native.Mathlib.Nat.{div-div-eq-div-mul}
use native.Mathlib.Omega.{arith}
use lib.ListN.{length, length-append}
use borrow.Author.Tests.{leb-false}
use Rattle.label.specs.declared.Form.{Form}
use Rattle.label.specs.Form.{Roomy}
use Rattle.label.specs.Bytes.{present, map_byte, place_byte, field_bytes, encode, label_length}
use Rattle.label.specs.declared.Label.{Label}
use Rattle.label.proofs.Accepting.{Proper, in_range_lem}
use Rattle.label.proofs.Fields.{present_le, length-field}

-- the bytes of a label's fields, and what follows them
abbrev pub fields_then : Form → Label → List ℕ → List ℕ
fields_then f l rest =
    field_bytes f.width l.committed ++ (field_bytes f.width l.tentative ++ (field_bytes 1 l.dirty ++ rest))

append_three : (a b c rest : List ℕ) → (a ++ (b ++ c)) ++ rest ≡ a ++ (b ++ (c ++ rest))
append_three a b c rest = simp append_assoc

pub encode_then : (f : Form) (d n : ℕ) (l : Label) (rest : List ℕ)
    → encode f d n l ++ rest ≡ map_byte f l ∷ place_byte f d n ∷ fields_then f l rest
unfolding encode
encode_then f d n l rest =
    ap (λ (x : List ℕ). map_byte f l ∷ place_byte f d n ∷ x)
    (append_three (field_bytes f.width l.committed) (field_bytes f.width l.tentative)
    (field_bytes 1 l.dirty) rest)

-- the map of a label, bit by bit
pub record MapBits (f : Form) (map : ℕ) (l : Label) : Type 0 where
  pub committed : map % 2 ≡ present l.committed
  pub tentative : map / 2 % 2 ≡ present l.tentative
  pub dirty : map / 4 % 2 ≡ present l.dirty
  pub fixed : map / 8 ≡ f.fixed

pub map_bits : (f : Form) (l : Label) → MapBits f (map_byte f l) l
unfolding map_byte
map_bits f l = omega (arith, present_le l.committed, present_le l.tentative, present_le l.dirty)

pub bits_map : (f : Form) (map : ℕ) (l : Label) → MapBits f map l → map_byte f l ≡ map
unfolding map_byte
bits_map f map l b = omega (arith, div-div-eq-div-mul map 2 2, div-div-eq-div-mul map 4 2)

pub encode-length : (f : Form) (d n : ℕ) (l : Label) → length (encode f d n l) ≡ label_length f (map_byte f l)
unfolding encode label_length
encode-length f d n l =
    let m = map_bits f l in
    rw (m.committed, m.tentative, m.dirty)
    (omega (
      arith,
      length-append (field_bytes f.width l.committed)
          (field_bytes f.width l.tentative ++ field_bytes 1 l.dirty),
      length-append (field_bytes f.width l.tentative) (field_bytes 1 l.dirty),
      length-field f.width l.committed,
      length-field f.width l.tentative,
      length-field 1 l.dirty,
    ))

-- the second byte holds the number and n
pub place_bytes : (f : Form) (d n : ℕ) (l : Label) → Roomy f → Proper f d n l
    → (place_byte f d n % 16 ≡ d) × (place_byte f d n / 16 + f.base ≡ n) × (place_byte f d n < 256)
unfolding place_byte
place_bytes f d n l r p = omega (arith, in_range_lem f n p.count, leb-false n d p.number, r)

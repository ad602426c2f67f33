-- Bytes that are read as a label are what writing it gives. Assumes nothing.
use mathlib.Core.Path.{◌≡◌, refl, sym, ap, ◌∙◌}
use mathlib.Core.Bool.{false, cond}
use mathlib.Core.List.{List, [], ◌∷◌, ◌++◌}
use Prim.Native.Nat.{ℕ, zero, suc, ◌+◌, ◌*◌, ◌/◌, ◌%◌, ◌≤◌}
use native.Mathlib.Nat.{one-mul, mod-lt}
use native.Mathlib.Omega.{arith}
use lib.Dec.{eqb, lit<, eqb-suc-zero}
use lib.ListN.{length, get_or, take, drop}
use lib.Seq.{take_at}
use Rattle.sets.proofs.Tests.{or_parts}
use Rattle.label.specs.declared.Form.{Form}
use Rattle.label.specs.Bytes.{map_byte, place_byte, encode, label_length, fields_of}
use Rattle.label.specs.Reading.{empty_field, found, refused, judged, reading}
use Rattle.label.specs.Codec.{AreBytes, OneWay}
use Rattle.label.specs.declared.Label.{Label}
use Rattle.label.specs.declared.Reading.{Reading}
use Rattle.label.proofs.Accepting.{Passed, reader_passes}
use Rattle.label.proofs.Fields.{field-written}
use Rattle.label.proofs.Places.{fields_then, encode_then, MapBits, bits_map, encode-length}

-- what the parts of a string of bytes that is read as a label are
pub record Parts (f : Form) (s : List ℕ) (d n : ℕ) (l : Label) (len : ℕ) : Type 0 where
  pub number : get_or s 1 0 % 16 ≡ d
  pub disks : get_or s 1 0 / 16 + f.base ≡ n
  pub label : fields_of f s (get_or s 0 0) ≡ l
  pub long : label_length f (get_or s 0 0) ≡ len
  pub passes_all : Passed f (length s) (get_or s 0 0) d n l

-- a reading that found a label was not refused
not_refused : (refusal : ℕ) (r : Reading) (d n : ℕ) (l : Label) (len : ℕ)
    → cond (eqb refusal 0) r (refused refusal) ≡ found d n l len
    → (refusal ≡ 0) × (r ≡ found d n l len)
not_refused zero r d n l len e = (refl, e)
not_refused (suc refusal) r d n l len e =
    absurd (omega (arith, ap (λ (x : Reading). x.refusal) (rw (eqb-suc-zero refusal) at e)))

pub read_parts : (f : Form) (s : List ℕ) (d n : ℕ) (l : Label) (len : ℕ) → reading f s ≡ found d n l len
    → Parts f s d n l len
unfolding reading judged
read_parts f s d n l len e =
    let q = not_refused _ _ d n l len e in
    let number = ap (λ (x : Reading). x.number) q.1 in
    let disks = ap (λ (x : Reading). x.disks) q.1 in
    let label = ap (λ (x : Reading). x.label) q.1 in
    record {
      number = number;
      disks = disks;
      label = label;
      long = ap (λ (x : Reading). x.length) q.1;
      passes_all = rw (number, disks, label) at (reader_passes f (length s) (get_or s 0 0) _ _ _ q.0);
    }

fields_written : (f : Form) (s : List ℕ) (map : ℕ) → label_length f map ≤ length s → map / 8 ≡ f.fixed → AreBytes s
    → empty_field map (fields_of f s map) ≡ false
    → MapBits f map (fields_of f s map) × (drop 2 s ≡ fields_then f (fields_of f s map) (drop (label_length f map) s))
unfolding fields_of empty_field label_length
fields_written f s map h fixed b e =
    let last = or_parts _ _ e in
    let first = or_parts _ _ last.0 in
    let second = 2 + f.width * (map % 2) in
    let third = second + f.width * (map / 2 % 2) in
    let c = field-written s (map % 2) f.width 2 (mod-lt map (lit< tt)) (omega arith) b first.0 in
    let t = field-written s (map / 2 % 2) f.width second (mod-lt _ (lit< tt)) (omega arith) b first.1 in
    let d = field-written s (map / 4 % 2) 1 third (mod-lt _ (lit< tt)) (omega arith) b last.1 in (
      record { committed = sym c.0; tentative = sym t.0; dirty = sym d.0; fixed = fixed },
      c.1 ∙ rw (t.1, d.1, one-mul (map / 4 % 2)),
    )

two_first : (s : List ℕ) → 2 ≤ length s → s ≡ get_or s 0 0 ∷ get_or s 1 0 ∷ drop 2 s
two_first [] h = absurd (omega arith)
two_first (x ∷ []) h = absurd (omega arith)
two_first (x ∷ y ∷ s) h = refl

pub one_way : (f : Form) → OneWay f
unfolding place_byte
one_way f s d n l len b e =
    let p = read_parts f s d n l len e in
    let map = get_or s 0 0 in
    let w =
    fields_written f s map p.passes_all.whole p.passes_all.fixed b (rw p.label p.passes_all.full) in
    let bits : MapBits f map l = rw p.label at w.0 in
    let same : map_byte f l ≡ map = bits_map f map l bits in
    let long : len ≡ length (encode f d n l) =
    sym p.long ∙ ap (label_length f) (sym same) ∙ sym (encode-length f d n l) in
    let place : place_byte f d n ≡ get_or s 1 0 = omega (arith, p.number, p.disks) in
    let body : drop 2 s ≡ fields_then f l (drop len s) = rw (p.label, p.long) at w.1 in
    let all : s ≡ encode f d n l ++ drop len s =
    two_first s p.passes_all.two ∙ rw (body, ← same, ← place) (sym (encode_then f d n l (drop len s))) in
    (ap (take len) all ∙ take_at (encode f d n l) (drop len s) len (sym long), long)

-- Reading and writing agree, for every form that can hold its labels. Assumes nothing.
use mathlib.Core.List.{List, [], ◌∷◌, ◌++◌, append-nil}
use Prim.Native.Nat.{ℕ, zero, suc}
use native.Mathlib.Nat.{le_refl}
use native.Mathlib.Omega.{arith}
use lib.ListN.{length, length-append}
use Rattle.label.specs.declared.Form.{Form}
use Rattle.label.specs.Form.{Roomy, narrow}
use Rattle.label.specs.Bytes.{map_byte, field_bytes, encode, longest_label}
use Rattle.label.specs.Codec.{AreBytes, Writable, Readable, WrittenBytes, Lengths, FormsAreCodecs, NarrowIsCodec}
use Rattle.label.proofs.Accepting.{accepted, writer_accepts}
use Rattle.label.proofs.Fields.{present_le, length-field_le, field_bytes_lem}
use Rattle.label.proofs.Places.{place_bytes}
use Rattle.label.proofs.WrittenRead.{written_reads}
use Rattle.label.proofs.ReadWritten.{read_parts, one_way}
use Rattle.label.proofs.Prefix.{read_alike}

bytes_append : (s t : List ℕ) → AreBytes s → AreBytes t → AreBytes (s ++ t)
bytes_append [] t hs ht i = ht i
bytes_append (x ∷ s) t hs ht zero = hs 0
bytes_append (x ∷ s) t hs ht (suc i) = bytes_append s t (λ j. hs (suc j)) ht i

bytes_written : (f : Form) → Roomy f → WrittenBytes f
unfolding encode map_byte Writable
bytes_written f r d n l w zero =
    omega (arith, r.map, present_le l.committed, present_le l.tentative, present_le l.dirty)
bytes_written f r d n l w (suc zero) = (place_bytes f d n l r (writer_accepts f d n l _ w).0).2
bytes_written f r d n l w (suc (suc i)) =
    bytes_append (field_bytes f.width l.committed)
    (field_bytes f.width l.tentative ++ field_bytes 1 l.dirty)
    (field_bytes_lem f.width l.committed)
    (bytes_append (field_bytes f.width l.tentative) (field_bytes 1 l.dirty)
    (field_bytes_lem f.width l.tentative) (field_bytes_lem 1 l.dirty))
    i

lengths : (f : Form) → Lengths f
unfolding encode longest_label
lengths f d n l =
    let c = field_bytes f.width l.committed in
    let t = field_bytes f.width l.tentative in
    let d = field_bytes 1 l.dirty in
    omega (
      arith,
      length-append c (t ++ d),
      length-append t d,
      length-field_le f.width l.committed,
      length-field_le f.width l.tentative,
      length-field_le 1 l.dirty,
    )

pub codec : FormsAreCodecs
unfolding Writable Readable
codec f r = record {
  written_reads = written_reads f r;
  one_way = one_way f;
  read_alike = read_alike f;
  readable_iff_writable = λ d n l h. (
    λ (s, len, b, e). accepted f d n l _ (read_parts f s d n l len e).passes_all.proper (le_refl _),
    λ w. (
      encode f d n l,
      length (encode f d n l),
      bytes_written f r d n l w,
      rw append-nil at (written_reads f r d n l [] h w),
    ),
  );
  bytes_written = bytes_written f r;
  lengths = lengths f;
}

-- document 01's form
narrow_roomy : Roomy narrow
narrow_roomy = omega arith

pub narrow_codec : NarrowIsCodec
narrow_codec = codec narrow narrow_roomy

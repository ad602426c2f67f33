-- The writer's stores, one after the other, make the label's bytes. Assumes nothing.
use mathlib.Core.Path.{◌≡◌, refl}
use mathlib.Core.List.{List, [], ◌∷◌, ◌++◌, append_assoc}
use Prim.Native.Nat.{ℕ, ◌+◌, ◌≤◌}
use native.Mathlib.Omega.{arith}
use lib.ListN.{length, set, length-append}
use Rattle.buffers.specs.Buffers.{Stored}
use Rattle.buffers.proofs.Splicing.{splice_two, stored_after}
use Rattle.label.specs.declared.Form.{Form}
use Rattle.label.specs.declared.Label.{Label}
use Rattle.label.specs.Bytes.{map_byte, place_byte, field_bytes, encode}

module _ (f : Form) (d n : ℕ) (l : Label) where
  pub encode_parts : length (encode f d n l)
      ≡ 2 + length (field_bytes f.width l.committed) + length (field_bytes f.width l.tentative)
      + length (field_bytes 1 l.dirty)
  unfolding encode
  encode_parts =
      let t = field_bytes f.width l.tentative in
      let r = field_bytes 1 l.dirty in
      omega (arith, length-append (field_bytes f.width l.committed) (t ++ r), length-append t r)

  -- the map and the place, then field by field
  pub stores_encode : (old : List ℕ) {r₁ r₂ r₃ : ℕ} {o₁ o₂ o₃ : List ℕ} → 2 ≤ length old
      → Stored 2 (field_bytes f.width l.committed) (set (set old 0 (map_byte f l)) 1 (place_byte f d n)) r₁ o₁
      → Stored r₁ (field_bytes f.width l.tentative) o₁ r₂ o₂ → Stored r₂ (field_bytes 1 l.dirty) o₂ r₃ o₃
      → Stored 0 (encode f d n l) old r₃ o₃
  unfolding encode
  stores_encode old h first second third =
      let front = map_byte f l ∷ place_byte f d n ∷ [] in
      let place : Stored 0 front old 2 (set (set old 0 (map_byte f l)) 1 (place_byte f d n)) =
      (refl, splice_two old 0 (map_byte f l) (place_byte f d n) (omega arith)) in
      let all = stored_after old _ (field_bytes 1 l.dirty) 0 (omega arith)
      (stored_after old _ (field_bytes f.width l.tentative) 0 (omega arith)
      (stored_after old _ (field_bytes f.width l.committed) 0 (omega arith) place first) second) third in
      rw (append_assoc (field_bytes f.width l.committed) (field_bytes f.width l.tentative)
      (field_bytes 1 l.dirty)) at all

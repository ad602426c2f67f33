-- Parts of the area. Assumes nothing.
use mathlib.Core.Path.{◌≡◌, sym, ap, ◌∙◌}
use mathlib.Core.List.{List, ◌++◌, append_assoc, append-nil}
use Prim.Native.Nat.{ℕ, ◌+◌, ◌*◌, ◌-◌, ◌≤◌, ◌<◌}
use native.Mathlib.Nat.{zero-add, add_assoc, mul-le-mul_right}
use native.Mathlib.Omega.{arith}
use lib.ListN.{length, take, drop, replicate, length-take, length-drop, length-replicate, take-append-drop}
use lib.Seq.{drop-length, drop-append-le, take-append-le, take-add, drop-drop, take-take}
use borrow.Rule.Slice.PartMut.{mid_of, put_mid}
use Rattle.buffers.specs.Buffers.{splice}
use Rattle.protocol.specs.Geometry.{most_disks, most_blocks, block_size, area_size, place, block, with_block}
use Rattle.protocol.specs.Geometry.{with_zero_disk}
use Rattle.area.specs.Parts.{InArea}

-- ---- n bytes from a on, as a part of the whole

module _ (whole : List ℕ) (a n : ℕ) (fits : a + n ≤ length whole) where
  -- what lies from m on, in the part and behind it
  behind : (m : ℕ) → m ≤ n → drop m (mid_of a n whole) ++ drop n (drop a whole) ≡ drop (a + m) whole
  behind m h =
      let l : m ≤ length (mid_of a n whole) = simp (length-take, length-drop) (omega arith) in
      sym (drop-append-le m (mid_of a n whole) (drop n (drop a whole)) l) ∙ rw (take-append-drop, drop-drop)

  -- what is stored in the part is stored in the whole
  stored : (at : ℕ) (new : List ℕ) → at + length new ≤ n
      → put_mid a n whole (splice at new (mid_of a n whole)) ≡ splice (a + at) new whole
  unfolding splice
  stored at new h =
      simp append_assoc
      (rw (
        behind (at + length new) h,
        take-take at n (drop a whole) (omega arith),
        ← append_assoc (take a whole),
        ← take-add,
        add_assoc,
      ))

  -- and what is read of the part, of the whole
  loaded : (at size : ℕ) → at + size ≤ n → take size (drop at (mid_of a n whole)) ≡ take size (drop (a + at) whole)
  loaded at size h =
      let l : size ≤ length (drop at (mid_of a n whole)) = simp (length-drop, length-take, length-drop) (omega arith) in
      sym (take-append-le size (drop at (mid_of a n whole)) (drop n (drop a whole)) l) ∙ rw (behind at (omega arith))

-- ---- a block by itself

pub alone_stored : (part bytes : List ℕ) → length bytes ≡ length part → splice 0 bytes part ≡ bytes
unfolding splice
alone_stored part bytes fits = rw (zero-add, fits, drop-length, append-nil)

-- ---- block k in the part of disk d, from where that disk starts to where the next one does

module _ (area : List ℕ) (b d k from to : ℕ) (h : InArea b d k area) (starts : from ≡ d * b * block_size)
    (ends : to ≡ (d + 1) * b * block_size) where
  size : to - from ≡ b * block_size
  size = omega arith

  place_in : place b d k ≡ from + k * block_size
  unfolding place
  place_in = omega arith

  pub disk_stores : (bytes last : List ℕ) → length bytes ≡ block_size
      → last ≡ splice (k * block_size) bytes (mid_of from (to - from) area)
      → put_mid from (to - from) area last ≡ with_block b area d k bytes
  unfolding with_block
  disk_stores bytes last full e =
      rw (e, size, place_in) (stored area from (b * block_size) (omega arith) (k * block_size) bytes (omega arith))

  pub disk_loads : (output : List ℕ) → output ≡ take block_size (drop (k * block_size) (mid_of from (to - from) area))
      → output ≡ block b area d k
  unfolding block
  disk_loads output e =
      e ∙ rw (size, place_in) (loaded area from (b * block_size) (omega arith) (k * block_size) block_size
      (omega arith))

  -- all of that part zero
  pub disk_clears : (last : List ℕ) → last ≡ replicate (length (mid_of from (to - from) area)) 0
      → put_mid from (to - from) area last ≡ with_zero_disk b area d
  unfolding with_zero_disk place
  disk_clears last e =
      let part = mid_of from (b * block_size) area in
      let full : length part ≡ b * block_size = simp (length-take, length-drop) (omega arith) in
      let zeros : List ℕ = replicate (b * block_size) 0 in
      let same = length-replicate {A = ℕ} (b * block_size) 0 in
      let front : from + 0 ≡ place b d 0 = omega arith in
      rw (e, size, full)
      (ap (λ bytes. put_mid from (b * block_size) area bytes) (sym (alone_stored part zeros (same ∙ sym full)))
      ∙ stored area from (b * block_size) (omega arith) 0 zeros (omega (arith, same))
      ∙ ap (λ at. splice at zeros area) front)

-- disk d of n has its part in the area
pub disk_in_area : (n b d k : ℕ) (area : List ℕ) → n ≤ most_disks → b ≤ most_blocks → length area ≡ area_size n b
    → d < n
    → k < b → InArea b d k area
unfolding area_size
disk_in_area n b d k area disks blocks fits below known = record {
  disk = omega arith;
  few = blocks;
  known = known;
  whole = rw fits (mul-le-mul_right 64 (mul-le-mul_right b (omega arith)));
}

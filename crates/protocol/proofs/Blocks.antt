-- Blocks in the disk area: a block that is stored is there, and the others stay; so are the zeros of a disk. Assumes
-- nothing.
use mathlib.Core.Path.{◌≡◌, sym, ap, ◌∙◌}
use mathlib.Core.Logic.{◌≢◌, ◌⊎◌, inl, inr}
use mathlib.Core.List.{List, ◌++◌}
use Prim.Native.Nat.{ℕ, ◌+◌, ◌-◌, ◌*◌, ◌≤◌, ◌<◌}
use native.Mathlib.Nat.{mul-le-mul_right}
use native.Mathlib.Omega.{arith}
use native.Mathlib.Decide.{dec_lt}
use lib.ListN.{length, get_or, take, drop, replicate, length-append, length-take}
use lib.ListN.{length-drop, length-replicate, get_or-append, get_or-replicate}
use lib.Seq.{ext_get_or, get_or-take, get_or-drop, get_or-append-add, length-take-le}
use Rattle.sets.proofs.Tests.{same_or_not}
use Rattle.buffers.specs.Buffers.{splice}
use Rattle.protocol.specs.Geometry.{block_size, region_of, regions, area_size, place, block, with_block, with_zero_disk}

-- ---- parts of a list

module _ (p : ℕ) (new old : List ℕ) (fits : p + length new ≤ length old) where
  splice-length : length (splice p new old) ≡ length old
  unfolding splice
  splice-length = simp (length-append, length-take, length-drop) (omega arith)

  splice_low : (i : ℕ) → i < p → get_or (splice p new old) i 0 ≡ get_or old i 0
  unfolding splice
  splice_low i h =
      get_or-append (take p old) (new ++ drop (p + length new) old) 0 i (rw (length-take-le p old (omega arith)) h)
      ∙ get_or-take p old i 0 h

  splice_from : (i : ℕ) → get_or (splice p new old) (p + i) 0 ≡ get_or (new ++ drop (p + length new) old) i 0
  unfolding splice
  splice_from i =
      ap (λ q. get_or (take p old ++ (new ++ drop (p + length new) old)) (q + i) 0)
      (sym (length-take-le p old (omega arith)))
      ∙ get_or-append-add (take p old) (new ++ drop (p + length new) old) i 0

  splice_mid : (i : ℕ) → i < length new → get_or (splice p new old) (p + i) 0 ≡ get_or new i 0
  splice_mid i h = splice_from i ∙ get_or-append new (drop (p + length new) old) 0 i h

  splice_high : (i : ℕ) → p + length new ≤ i → get_or (splice p new old) i 0 ≡ get_or old i 0
  splice_high i h =
      let j : ℕ = i - (p + length new) in
      let e : i ≡ p + (length new + j) = omega arith in
      let e' : p + length new + j ≡ i = omega arith in
      ap (λ q. get_or (splice p new old) q 0) e
      ∙ splice_from (length new + j)
      ∙ get_or-append-add new (drop (p + length new) old) j 0
      ∙ get_or-drop (p + length new) old j 0
      ∙ ap (λ q. get_or old q 0) e'

-- size bytes from p on
part_length : (size p : ℕ) (s : List ℕ) → p + size ≤ length s → length (take size (drop p s)) ≡ size
part_length size p s h = length-take-le size (drop p s) (simp length-drop (omega arith))

part_at : (size p : ℕ) (s : List ℕ) (i : ℕ) → i < size → get_or (take size (drop p s)) i 0 ≡ get_or s (p + i) 0
part_at size p s i h = get_or-take size (drop p s) i 0 h ∙ get_or-drop p s i 0

-- two lists that agree on a part of each
same_part : (size p q : ℕ) (s t : List ℕ) → p + size ≤ length s → q + size ≤ length t
    → ((i : ℕ) → i < size → get_or s (p + i) 0 ≡ get_or t (q + i) 0)
    → take size (drop p s) ≡ take size (drop q t)
same_part size p q s t hs ht same =
    ext_get_or 0 _ _ (part_length size p s hs ∙ sym (part_length size q t ht))
    (λ i h. let l : i < size = rw (part_length size p s hs) at h in part_at size p s i l ∙ same i l
    ∙ sym (part_at size q t i l))

-- ---- where blocks stand

-- each block lies in one of the regions
pub region_known : (b k : ℕ) → k < b → region_of k < regions b
unfolding region_of regions
region_known b k h = omega arith

place_fits : (n b d k : ℕ) → d < n → k < b → place b d k + block_size ≤ area_size n b
unfolding place area_size
place_fits n b d k h l = omega (arith, mul-le-mul_right b h)

disk_fits : (n b d : ℕ) → d < n → place b d 0 + b * block_size ≤ area_size n b
unfolding place area_size
disk_fits n b d h = omega (arith, mul-le-mul_right b h)

-- a block at q lies apart from so many bytes at p
data Apart (q p size : ℕ) : Type 0 where
  before : q + block_size ≤ p → Apart q p size
  behind : p + size ≤ q → Apart q p size

-- it stays when they are stored
stays : (q p size : ℕ) (new old : List ℕ) → length new ≡ size → p + size ≤ length old → q + block_size ≤ length old
    → Apart q p size → take block_size (drop q (splice p new old)) ≡ take block_size (drop q old)
stays q p size new old full room f lie =
    let fits : p + length new ≤ length old = rw full room in
    same_part block_size q q (splice p new old) old (rw (splice-length p new old fits) f) f (λ i h. go fits i h lie)
  where
    go : p + length new ≤ length old → (i : ℕ) → i < block_size → Apart q p size
        → get_or (splice p new old) (q + i) 0 ≡ get_or old (q + i) 0
    go fits i h (before l) = splice_low p new old fits (q + i) (omega arith)
    go fits i h (behind l) = splice_high p new old fits (q + i) (omega arith)

-- another disk's block lies apart from all blocks of d ..
other_disk : (b d e m : ℕ) → m < b → d ≢ e → Apart (place b e m) (place b d 0) (b * block_size)
unfolding place
other_disk b d e m hm ne = go (dec_lt d e) (dec_lt e d)
  where
    go : Dec (d < e) → Dec (e < d) → Apart ((e * b + m) * block_size) ((d * b + 0) * block_size) (b * block_size)
    go (yes l) g = behind (omega (arith, mul-le-mul_right b l))
    go (no l) (yes g) = before (omega (arith, mul-le-mul_right b g))
    go (no l) (no g) = absurd (ne (omega arith))

-- .. so it lies apart from each of them; and so do two blocks of one disk
apart : (b d k e m : ℕ) → k < b → m < b → (d ≢ e) ⊎ (k ≢ m) → Apart (place b e m) (place b d k) block_size
unfolding place
apart b d k e m hk hm ne = go (same_or_not d e) ne
  where
    narrower : Apart ((e * b + m) * block_size) ((d * b + 0) * block_size) (b * block_size)
        → Apart ((e * b + m) * block_size) ((d * b + k) * block_size) block_size
    narrower (before l) = before (omega arith)
    narrower (behind l) = behind (omega arith)

    blocks : (k ≢ m) → d ≡ e → Dec (k < m) → Apart ((e * b + m) * block_size) ((d * b + k) * block_size) block_size
    blocks ne same (yes l) = rw same (behind (omega arith))
    blocks ne same (no l) = rw same (before (omega arith))

    go : (d ≡ e) ⊎ (d ≢ e) → (d ≢ e) ⊎ (k ≢ m) → Apart ((e * b + m) * block_size) ((d * b + k) * block_size) block_size
    go (inr other) z = narrower (other_disk b d e m hm other)
    go (inl same) (inl ne) = absurd (ne same)
    go (inl same) (inr ne) = blocks ne same (dec_lt k m)

-- a part of zeros
zeros : (size p big : ℕ) → p + size ≤ big → take {A = ℕ} size (drop p (replicate big 0)) ≡ replicate size 0
zeros size p big f =
    let l = part_length size p (replicate big 0) (rw length-replicate f) in
    ext_get_or 0 _ _ (l ∙ sym (length-replicate {A = ℕ} size 0))
    (λ i h. let m : i < size = rw l at h in
    part_at size p (replicate big 0) i m ∙ get_or-replicate big (p + i) 0 0 (omega arith)
    ∙ sym (get_or-replicate size i 0 0 m))

-- ---- blocks

module _ (n b : ℕ) (area : List ℕ) (size : length area ≡ area_size n b) where
  pub block_length : (d k : ℕ) → d < n → k < b → length (block b area d k) ≡ block_size
  unfolding block
  block_length d k hd hk = part_length block_size (place b d k) area (rw size (place_fits n b d k hd hk))

  module _ (d k : ℕ) (hd : d < n) (hk : k < b) (bytes : List ℕ) (full : length bytes ≡ block_size) where
    room : place b d k + length bytes ≤ length area
    room = rw (full, size) (place_fits n b d k hd hk)

    pub stored_size : length (with_block b area d k bytes) ≡ area_size n b
    unfolding with_block
    stored_size = splice-length (place b d k) bytes area room ∙ size

    pub stored_same : block b (with_block b area d k bytes) d k ≡ bytes
    unfolding block with_block
    stored_same =
        let p = place b d k in
        let l = splice-length p bytes area room in
        ext_get_or 0 _ _ (part_length block_size p (splice p bytes area) (omega (arith, room)) ∙ sym full)
        (λ i h.
        let m : i < block_size = rw (part_length block_size p (splice p bytes area) (omega (arith, room))) at h in
        part_at block_size p (splice p bytes area) i m ∙ splice_mid p bytes area room i (omega arith))

    pub stored_other : (e m : ℕ) → e < n → m < b → (d ≢ e) ⊎ (k ≢ m)
        → block b (with_block b area d k bytes) e m ≡ block b area e m
    unfolding block with_block
    stored_other e m he hm ne =
        stays (place b e m) (place b d k) block_size bytes area full (rw size (place_fits n b d k hd hk))
        (rw size (place_fits n b e m he hm)) (apart b d k e m hk hm ne)

  -- a disk whose blocks are all made zero
  module _ (d : ℕ) (hd : d < n) where
    abbrev blanks : List ℕ
    blanks = replicate (b * block_size) 0

    whole : length blanks ≡ b * block_size
    whole = length-replicate (b * block_size) 0

    zero_room : place b d 0 + length blanks ≤ length area
    zero_room = rw (whole, size) (disk_fits n b d hd)

    pub zeroed_size : length (with_zero_disk b area d) ≡ area_size n b
    unfolding with_zero_disk
    zeroed_size = splice-length (place b d 0) blanks area zero_room ∙ size

    pub zeroed_same : (k : ℕ) → k < b → block b (with_zero_disk b area d) d k ≡ replicate block_size 0
    unfolding block with_zero_disk place
    zeroed_same k hk =
        let l = splice-length (place b d 0) blanks area zero_room in
        same_part block_size (place b d k) (k * block_size) (splice (place b d 0) blanks area) blanks
        (rw (l, size) (place_fits n b d k hd hk)) (rw whole (omega arith))
        (λ i h. ap (λ q. get_or (splice (place b d 0) blanks area) q 0)
        (let e : place b d k + i ≡ place b d 0 + (k * block_size + i) = omega arith in e)
        ∙ splice_mid (place b d 0) blanks area zero_room (k * block_size + i) (rw whole (omega arith)))
        ∙ zeros block_size (k * block_size) (b * block_size) (omega arith)

    pub zeroed_other : (e k : ℕ) → e < n → k < b → d ≢ e → block b (with_zero_disk b area d) e k ≡ block b area e k
    unfolding block with_zero_disk
    zeroed_other e k he hk ne =
        stays (place b e k) (place b d 0) (b * block_size) blanks area whole (rw size (disk_fits n b d hd))
        (rw size (place_fits n b e k he hk)) (other_disk b d e k hk ne)

-- an area of zeros
pub zero_block : (n b d k : ℕ) → d < n → k < b → block b (replicate (area_size n b) 0) d k ≡ replicate block_size 0
unfolding block
zero_block n b d k hd hk = zeros block_size (place b d k) (area_size n b) (place_fits n b d k hd hk)

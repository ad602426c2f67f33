-- One field: what is written of it is read back, and what is read of it is what was written. Assumes nothing.
use mathlib.Core.Path.{◌≡◌, refl, sym, ◌∙◌}
use mathlib.Core.Bool.{false, cond, ◌&&◌}
use mathlib.Core.List.{List, [], ◌∷◌, ◌++◌}
use Prim.Native.Nat.{ℕ, zero, suc, ◌+◌, ◌*◌, ◌/◌, ◌%◌, ◌^◌, ◌≤◌, ◌<◌}
use native.Mathlib.Nat.{le_of_eq, mul-zero, mul-one, add-zero, mod-eq_of_lt}
use native.Mathlib.Omega.{arith}
use lib.Dec.{eqb, eqb-suc-zero}
use lib.Pow.{pow_pos}
use lib.ListN.{length, get_or, take, drop, length-drop, take-append-drop}
use lib.Seq.{drop-drop, drop_at, get_or-drop}
use borrow.Author.Tests.{eqb-false, ne_eqb}
use Rattle.sets.proofs.Tests.{Test, passes, fails, test}
use Rattle.label.specs.Bytes.{present, little_endian, field_bytes, from_little_endian, field_at}
use Rattle.label.specs.Codec.{AreBytes}
use Rattle.label.proofs.Numbers.{length-little_endian, value_little_endian}
use Rattle.label.proofs.Numbers.{little_endian_value, little_endian_bytes, value_small}

pub present_le : (v : ℕ) → present v ≤ 1
present_le zero = omega arith
present_le (suc v) = omega arith

-- a field that is not 0 has its bit and its bytes
pub not_zero : (k v : ℕ) → (v ≡ 0 → ⊥) → (present v ≡ 1) × (field_bytes k v ≡ little_endian k v)
not_zero k zero h = absurd (h refl)
not_zero k (suc v) h = (refl, refl)

pub length-field : (k v : ℕ) → length (field_bytes k v) ≡ k * present v
length-field k zero = sym (mul-zero k)
length-field k (suc v) = length-little_endian k (suc v) ∙ sym (mul-one k)

-- as many as it may have, if it is not 0
pub length-present : (k v : ℕ) → (v ≡ 0 → ⊥) → length (field_bytes k v) ≡ k
length-present k v h = length-field k v ∙ rw (not_zero k v h).0 (mul-one k)

pub length-field_le : (k v : ℕ) → length (field_bytes k v) ≤ k
length-field_le k zero = omega arith
length-field_le k (suc v) = le_of_eq (length-little_endian k (suc v))

pub field_bytes_lem : (k v : ℕ) → AreBytes (field_bytes k v)
field_bytes_lem k zero i = omega arith
field_bytes_lem k (suc v) i = little_endian_bytes k (suc v) i

-- ---- written, then read

-- a field that stands at a place is read there
pub field_read : (s rest : List ℕ) (k at v : ℕ) → drop at s ≡ field_bytes k v ++ rest → v < 2 ^ (8 * k)
    → field_at s (present v) k at ≡ v
unfolding field_at
field_read s rest k at zero e h = refl
field_read s rest k at (suc v) e h = rw e (value_little_endian k (suc v) rest h)

-- and what follows it stands behind it
pub field-behind : (s rest : List ℕ) (k at v : ℕ) → drop at s ≡ field_bytes k v ++ rest
    → drop (at + k * present v) s ≡ rest
field-behind s rest k at v e =
    sym (drop-drop (k * present v) at s) ∙ rw e (drop_at (field_bytes k v) rest (k * present v) (length-field k v))

-- a field that is written is not 0
pub field_not_empty : (v : ℕ) → (eqb (present v) 1 && eqb v 0) ≡ false
field_not_empty zero = refl
field_not_empty (suc v) = eqb-suc-zero v

-- ---- read, then written

-- a field that is read, unless it is present and 0, has the bit and the bytes that it is written with
pub field-written : (s : List ℕ) (bit k at : ℕ) → bit < 2 → at + k * bit ≤ length s → AreBytes s
    → (eqb bit 1 && eqb (field_at s bit k at) 0) ≡ false
    → (present (field_at s bit k at) ≡ bit) × (drop at s ≡ field_bytes k (field_at s bit k at) ++ drop (at + k * bit) s)
unfolding field_at
field-written s zero k at h l b e = (refl, rw (mul-zero k, add-zero at))
field-written s (suc zero) k at h l b e =
    let m : at + k ≤ length s = rw mul-one at l in
    let n = not_zero k (from_little_endian k (drop at s)) (eqb-false _ _ e) in
    let w : little_endian k (from_little_endian k (drop at s)) ≡ take k (drop at s) =
    little_endian_value k (drop at s) (rw length-drop (omega arith)) (λ i. rw (get_or-drop at s i 0) (b (at + i))) in
    (n.0, rw (mul-one k, n.1, w, ← drop-drop k at s) (sym (take-append-drop k (drop at s))))
field-written s (suc (suc bit)) k at h l b e = absurd (omega arith)

-- ---- a field of one byte or two

pub one_byte : (s : List ℕ) (at : ℕ) → get_or s at 0 ≡ from_little_endian 1 (drop at s)
unfolding from_little_endian
one_byte s at = rw (get_or-drop at s 0 0, add-zero at) (omega arith)

pub two_bytes : (s : List ℕ) (at : ℕ) → get_or s at 0 + 256 * get_or s (at + 1) 0 ≡ from_little_endian 2 (drop at s)
unfolding from_little_endian
two_bytes s at =
    rw (drop-drop 1 at s, get_or-drop at s 0 0, get_or-drop (at + 1) s 0 0, add-zero at, add-zero (at + 1))
    (omega arith)

pub one_written : (v : ℕ) → (v ≡ 0 → ⊥) → field_bytes 1 v ≡ v % 256 ∷ []
unfolding little_endian
one_written v h = (not_zero 1 v h).1

pub two_written : (v : ℕ) → v < 65536 → (v ≡ 0 → ⊥) → field_bytes 2 v ≡ v % 256 ∷ v / 256 ∷ []
unfolding little_endian
two_written v l h = let high : v / 256 < 256 = omega arith in (not_zero 2 v h).1 ∙ rw (mod-eq_of_lt high)

pub not_read : (s : List ℕ) (bit k at : ℕ) → (bit ≡ 1 → ⊥) → field_at s bit k at ≡ 0
unfolding field_at
not_read s bit k at h = rw (ne_eqb bit 1 h)

-- a field is no larger than its bytes can say
pub field_small : (s : List ℕ) (bit k at : ℕ) → AreBytes s → field_at s bit k at < 2 ^ (8 * k)
unfolding field_at
field_small s bit k at b = go (test (eqb bit 1))
  where
    go : Test (eqb bit 1) → cond (eqb bit 1) (from_little_endian k (drop at s)) 0 < 2 ^ (8 * k)
    go (passes e) = rw e (value_small k (drop at s) (λ i. rw (get_or-drop at s i 0) (b (at + i))))
    go (fails e) = rw e (pow_pos (8 * k))

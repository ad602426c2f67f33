-- Numbers as bytes, low byte first, and back. Assumes nothing.
use mathlib.Core.Path.{◌≡◌, refl, sym, ap}
use mathlib.Core.List.{List, [], ◌∷◌, ◌++◌}
use Prim.Native.Nat.{ℕ, zero, suc, ◌+◌, ◌*◌, ◌/◌, ◌%◌, ◌^◌, ◌≤◌, ◌<◌}
use native.Mathlib.Nat.{mul-suc}
use native.Mathlib.Omega.{arith}
use lib.Arith.{lt-one}
use lib.Dec.{lit<}
use lib.Pow.{shr_lt, pow-add}
use lib.ListN.{length, take, drop}
use lib.Seq.{get_or-drop}
use Rattle.label.specs.Bytes.{little_endian, from_little_endian}
use Rattle.label.specs.Codec.{AreBytes}

pub length-little_endian : (k v : ℕ) → length (little_endian k v) ≡ k
unfolding little_endian
length-little_endian zero v = refl
length-little_endian (suc k) v = ap suc (length-little_endian k (v / 256))

pub value_little_endian : (k v : ℕ) (rest : List ℕ) → v < 2 ^ (8 * k)
    → from_little_endian k (little_endian k v ++ rest) ≡ v
unfolding little_endian from_little_endian
value_little_endian zero v rest h = sym (lt-one h)
value_little_endian (suc k) v rest h =
    rw (value_little_endian k (v / 256) rest (shr_lt (8 * k) 8 (rw (mul-suc 8 k) at h))) (omega arith)

pub little_endian_value : (k : ℕ) (s : List ℕ) → k ≤ length s → AreBytes s
    → little_endian k (from_little_endian k s) ≡ take k s
unfolding little_endian from_little_endian
little_endian_value zero s h b = refl
little_endian_value (suc k) [] h b = absurd (omega arith)
little_endian_value (suc k) (x ∷ s) h b =
    let low : (x + 256 * from_little_endian k s) % 256 ≡ x = omega (arith, b 0) in
    let high : (x + 256 * from_little_endian k s) / 256 ≡ from_little_endian k s = omega (arith, b 0) in
    rw (low, high, little_endian_value k s (omega arith) (λ i. b (suc i)))

-- every byte of a number is a byte
pub little_endian_bytes : (k v : ℕ) → AreBytes (little_endian k v)
unfolding little_endian
little_endian_bytes zero v i = omega arith
little_endian_bytes (suc k) v zero = omega arith
little_endian_bytes (suc k) v (suc i) = little_endian_bytes k (v / 256) i

-- k bytes hold no number from 256 ^ k up
pub value_small : (k : ℕ) (s : List ℕ) → AreBytes s → from_little_endian k s < 2 ^ (8 * k)
unfolding from_little_endian
value_small zero s b = lit< tt
value_small (suc k) s b =
    let later = value_small k (drop 1 s) (λ i. rw (get_or-drop 1 s i 0) (b (1 + i))) in
    rw (mul-suc 8 k, pow-add 2 (8 * k) 8) (omega (arith, b 0))

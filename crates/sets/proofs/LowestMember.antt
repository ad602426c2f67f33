-- The lowest member. Assumes nothing.
use mathlib.Core.Path.{◌≡◌, refl, sym, ◌∙◌}
use mathlib.Core.Bool.{true, false}
use Prim.Native.Nat.{ℕ, zero, suc, ◌/◌, ◌%◌, ◌^◌, ◌<◌}
use native.Mathlib.Nat.{pow-suc}
use native.Mathlib.Numerals.{add-one}
use native.Mathlib.Decide.{dec_lt}
use native.Mathlib.Omega.{arith}
use lib.Dec.{lit<}
use lib.Pow.{shr_lt}
use lib.Count.{count_trailing_zeros, under}
use lib.Arith.{lt-one}
use borrow.Author.Tests.{eq-eqb}
use Rattle.sets.specs.Sets.{has, lowest}
use Rattle.sets.proofs.Tests.{clash}
use Rattle.sets.proofs.Membership.{has_empty, has_half, has-lowest_bit}
use Rattle.sets.proofs.Bounds.{member_below}

-- ---- the count of trailing zeros, at any width k that holds the set

trailing_has : (k s : ℕ) → s < 2 ^ k → 0 < s → has s (count_trailing_zeros k s) ≡ true
unfolding count_trailing_zeros
trailing_has zero s h p = absurd (omega (arith, lt-one h))
trailing_has (suc k) s h p = go (s % 2) refl (trailing_has k (s / 2) (shr_lt k 1 (rw add-one h)))
  where
    go : (r : ℕ) → s % 2 ≡ r → (0 < s / 2 → has (s / 2) (count_trailing_zeros k (s / 2)) ≡ true)
        → has s (under r (count_trailing_zeros k (s / 2))) ≡ true
    go zero e ih = has_half s (count_trailing_zeros k (s / 2)) ∙ ih (omega arith)
    go (suc r) e ih = has-lowest_bit s ∙ eq-eqb (s % 2) 1 (omega arith)

trailing_least : (k s d : ℕ) → d < count_trailing_zeros k s → has s d ≡ false
unfolding count_trailing_zeros
trailing_least zero s d h = absurd (omega arith)
trailing_least (suc k) s d h = go (s % 2) refl d h (trailing_least k (s / 2))
  where
    go : (r : ℕ) → s % 2 ≡ r → (d : ℕ) → d < under r (count_trailing_zeros k (s / 2))
        → ((e : ℕ) → e < count_trailing_zeros k (s / 2) → has (s / 2) e ≡ false) → has s d ≡ false
    go zero e zero l ih = has-lowest_bit s ∙ rw e
    go zero e (suc d) l ih = has_half s d ∙ ih d (omega arith)
    go (suc r) e d l ih = absurd (omega arith)

below_own_power : (s : ℕ) → s < 2 ^ s
below_own_power zero = lit< tt
below_own_power (suc s) = rw (pow-suc 2 s) (omega (arith, below_own_power s))

-- ---- the laws

pub lowest-has : (s : ℕ) → 0 < s → has s (lowest s) ≡ true
unfolding lowest
lowest-has s = trailing_has s s (below_own_power s)

pub lowest_least : (s d : ℕ) → d < lowest s → has s d ≡ false
unfolding lowest
lowest_least s = trailing_least s s

-- a set with a member is not 0
pub non_empty : (s d : ℕ) → has s d ≡ true → 0 < s
non_empty zero d h = clash h (has_empty d)
non_empty (suc s) d h = omega arith

-- a member with none below it is the lowest
lowest_is : (s i : ℕ) → has s i ≡ true → ((d : ℕ) → d < i → has s d ≡ false) → lowest s ≡ i
lowest_is s i h f = go (dec_lt (lowest s) i) (dec_lt i (lowest s))
  where
    go : Dec (lowest s < i) → Dec (i < lowest s) → lowest s ≡ i
    go (yes l) q = clash (lowest-has s (non_empty s i h)) (f (lowest s) l)
    go (no l) (yes g) = clash h (lowest_least s i g)
    go (no l) (no g) = omega arith

-- the code's way, at any width k that holds the set
pub trailing_lowest : (k s : ℕ) → s < 2 ^ k → 0 < s → count_trailing_zeros k s ≡ lowest s
trailing_lowest k s h p = sym (lowest_is s (count_trailing_zeros k s) (trailing_has k s h p) (trailing_least k s))

-- in a set of n disks, the empty one included, it is one of them
pub lowest-below : (n s : ℕ) → 0 < n → s < 2 ^ n → lowest s < n
unfolding lowest count_trailing_zeros
lowest-below n zero some known = some
lowest-below n (suc s) some known = member_below (suc s) n (lowest (suc s)) known (lowest-has (suc s) (omega arith))

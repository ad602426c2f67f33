-- Sets of disks as numbers. Document 01: "A set of disks is one byte, bit d for disk d." Nothing here depends
-- on how many bits a set has.
use Rattle.std.specs.Prelude.{Bool, cond, List, [], ◌∷◌, ◌++◌, ℕ, zero, suc, ◌-◌, ◌/◌, ◌%◌, ◌^◌, eqb, ltb}
use Rattle.std.specs.Int.Bits.{bit_and, bit_or}
use Rattle.std.specs.Int.Count.{ones, count_trailing_zeros}

-- d is a member of s: bit d of s stands
unfoldable pub has : ℕ → ℕ → Bool
has s d = eqb (s / 2 ^ d % 2) 1

unfoldable pub union : ℕ → ℕ → ℕ
union a b = bit_or a b

unfoldable pub intersection : ℕ → ℕ → ℕ
intersection a b = bit_and a b

-- the members of a that are not in b: a without the bits that it shares with b
unfoldable pub difference : ℕ → ℕ → ℕ
difference a b = a - intersection a b

-- each member of a is a member of b
unfoldable pub subset : ℕ → ℕ → Bool
subset a b = eqb (intersection a b) a

unfoldable pub singleton : ℕ → ℕ
singleton d = 2 ^ d

-- the disks below n
unfoldable pub all : ℕ → ℕ
all n = 2 ^ n - 1

-- s names only disks below n
unfoldable pub below : ℕ → ℕ → Bool
below s n = ltb s (2 ^ n)

-- "the size of a set is the number of its bits that stand"
unfoldable pub size : ℕ → ℕ
size s = ones s

-- "The lowest member is the one with the smallest number": as many as there are zeros below the lowest bit that stands.
-- 0 for the empty set, which has none. A number has no more digits than its value, so s of them are enough to look at.
unfoldable pub lowest : ℕ → ℕ
lowest s = count_trailing_zeros s s

-- the members of s below k, ascending
unfoldable pub members : ℕ → ℕ → List ℕ
members zero s = []
members (suc k) s = members k s ++ cond (has s k) (k ∷ []) []

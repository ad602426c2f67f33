-- "for each .., ascending": the one way in which lists are built and members are looked at. Each goes up from 0, as the
-- code's loops do.
use Rattle.std.specs.Prelude.{Bool, true, false, not, cond, ◌&&◌, ◌||◌, List, [], ◌++◌, ℕ, zero, suc, ◌+◌}
use Rattle.sets.specs.Sets.{has, union, singleton}

-- what f gives for 0, then for 1, and so on to n - 1
unfoldable pub ascending : {A : Type 0} → ℕ → (ℕ → List A) → List A
ascending zero f = []
ascending (suc i) f = ascending i f ++ f i

-- what f gives for each member of s below n, ascending
unfoldable pub for_each : {A : Type 0} → ℕ → ℕ → (ℕ → List A) → List A
for_each n s f = ascending n (λ d. cond (has s d) (f d) [])

unfoldable pub all_below : ℕ → (ℕ → Bool) → Bool
all_below zero p = true
all_below (suc i) p = all_below i p && p i

unfoldable pub some_below : ℕ → (ℕ → Bool) → Bool
some_below zero p = false
some_below (suc i) p = some_below i p || p i

-- p of every member of s below n
unfoldable pub every : ℕ → ℕ → (ℕ → Bool) → Bool
every n s p = all_below n (λ d. not (has s d) || p d)

-- p of some member of s below n
unfoldable pub some : ℕ → ℕ → (ℕ → Bool) → Bool
some n s p = some_below n (λ d. has s d && p d)

-- the sets that f gives for 0 to n - 1, as one
unfoldable pub union_below : ℕ → (ℕ → ℕ) → ℕ
union_below zero f = 0
union_below (suc i) f = union (union_below i f) (f i)

-- the disks below n of which p holds, as a set
unfoldable pub disks_where : ℕ → (ℕ → Bool) → ℕ
disks_where n p = union_below n (λ d. cond (p d) (singleton d) 0)

-- what f gives for 0 to n - 1, added up
unfoldable pub sum_below : ℕ → (ℕ → ℕ) → ℕ
sum_below zero f = 0
sum_below (suc i) f = sum_below i f + f i

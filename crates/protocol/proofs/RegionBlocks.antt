-- The blocks of a region, "the last may be short". Assumes nothing.
use mathlib.Core.Path.{◌≡◌, ap, ◌∙◌}
use mathlib.Core.Bool.{cond}
use mathlib.Core.List.{List, []}
use Prim.Native.Nat.{ℕ, ◌+◌, ◌-◌, ◌*◌, ◌≤◌}
use native.Mathlib.Omega.{arith}
use lib.Dec.{ltb}
use borrow.Author.Tests.{lt-ltb, ltb-true, ltb-false}
use Rattle.sets.proofs.Tests.{Test, passes, fails, test, same_test}
use Rattle.protocol.specs.Geometry.{region_size, region_blocks}
use Rattle.protocol.specs.Loops.{ascending}
use Rattle.protocol.specs.Stores.{Store}
use Rattle.protocol.specs.Lists.{for_blocks}
use Rattle.protocol.proofs.Loops.{same_iterations, until}

pub region_loop : (b r : ℕ) (f : ℕ → List Store)
    → for_blocks b r f ≡ ascending (region_blocks b r) (λ i. f (r * region_size + i))
unfolding for_blocks region_blocks
region_loop b r f =
    same_iterations region_size _ _ (λ i l. ap (λ t. cond t (f (first + i)) []) (counted-from-it i))
    ∙ until region_size (b - first) (λ i. f (first + i))
  where
    first : ℕ
    first = r * region_size

    counted-from-it : (i : ℕ) → ltb (first + i) b ≡ ltb i (b - first)
    counted-from-it i =
        same_test (ltb (first + i) b) (ltb i (b - first))
        (λ p. lt-ltb i (b - first) (omega (arith, ltb-true (first + i) b p)))
        (λ p. lt-ltb (first + i) b (omega (arith, ltb-true i (b - first) p)))

-- all of them are among the b blocks
pub region_inside : (b r : ℕ) → r * region_size ≤ b → r * region_size + region_blocks b r ≤ b
unfolding region_blocks
region_inside b r begins = go (test (ltb (b - r * region_size) region_size))
  where
    go : Test (ltb (b - r * region_size) region_size)
        → r * region_size + cond (ltb (b - r * region_size) region_size) (b - r * region_size) region_size ≤ b
    go (passes e) = rw e (omega arith)
    go (fails e) = rw e (omega (arith, ltb-false (b - r * region_size) region_size e))

pub region_short : (b r : ℕ) → region_blocks b r ≤ region_size
unfolding region_blocks
region_short b r = go (test (ltb (b - r * region_size) region_size))
  where
    go : Test (ltb (b - r * region_size) region_size)
        → cond (ltb (b - r * region_size) region_size) (b - r * region_size) region_size ≤ region_size
    go (passes e) = rw e (omega (arith, ltb-true (b - r * region_size) region_size e))
    go (fails e) = rw e (omega arith)

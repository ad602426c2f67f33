-- Sums that go up from 0, and the lengths of lists that loops build. Assumes nothing.
use mathlib.Core.Path.{◌≡◌, refl, sym, ◌∙◌}
use mathlib.Core.Bool.{Bool, true, false, cond}
use mathlib.Core.List.{List, [], ◌∷◌}
use Prim.Native.Nat.{ℕ, zero, suc, ◌+◌, ◌^◌, ◌<◌}
use native.Mathlib.Omega.{arith}
use lib.ListN.{length, length-append}
use Rattle.sets.specs.Sets.{has, size, members}
use Rattle.sets.proofs.Cardinality.{size_members}
use Rattle.protocol.specs.Loops.{ascending, sum_below}

pub sum_same : (n : ℕ) (f g : ℕ → ℕ) → ((i : ℕ) → i < n → f i ≡ g i) → sum_below n f ≡ sum_below n g
unfolding sum_below
sum_same zero f g same = refl
sum_same (suc n) f g same = rw (sum_same n f g (λ i l. same i (omega arith)), same n (omega arith))

pub sum_zero : (n : ℕ) → sum_below n (λ i. 0) ≡ 0
unfolding sum_below
sum_zero zero = refl
sum_zero (suc n) = rw (sum_zero n)

sum_add : (n : ℕ) (f g : ℕ → ℕ) → sum_below n (λ i. f i + g i) ≡ sum_below n f + sum_below n g
unfolding sum_below
sum_add zero f g = refl
sum_add (suc n) f g = omega (arith, sum_add n f g)

-- a table added up by rows is the table added up by columns
pub sum_swap : (m n : ℕ) (f : ℕ → ℕ → ℕ)
    → sum_below m (λ i. sum_below n (λ j. f i j)) ≡ sum_below n (λ j. sum_below m (λ i. f i j))
unfolding sum_below
sum_swap zero n f = sym (sum_zero n)
sum_swap (suc m) n f = rw (sum_swap m n f) (sym (sum_add n _ _))

pub length_loop : {A : Type 0} (n : ℕ) (f : ℕ → List A) → length (ascending n f) ≡ sum_below n (λ i. length (f i))
unfolding ascending sum_below
length_loop zero f = refl
length_loop (suc n) f = length-append (ascending n f) (f n) ∙ rw (length_loop n f)

-- a set is as large as it has members
pub sum_members : (n s : ℕ) → s < 2 ^ n → sum_below n (λ d. cond (has s d) 1 0) ≡ size s
unfolding sum_below members
sum_members n s small = counted n ∙ sym (size_members n s small)
  where
    one : (d : ℕ) (t : Bool) → cond t 1 0 ≡ length (cond t (d ∷ []) [])
    one d true = refl
    one d false = refl

    counted : (k : ℕ) → sum_below k (λ d. cond (has s d) 1 0) ≡ length (members k s)
    counted zero = refl
    counted (suc k) = rw (counted k, one k (has s k)) (sym (length-append (members k s) (cond (has s k) (k ∷ []) [])))

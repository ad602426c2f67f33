-- A numeral is one digit, or that of a tenth of the number and one digit more. Assumes nothing.
use mathlib.Core.Path.{◌≡◌, refl, sym}
use mathlib.Core.List.{List, [], ◌∷◌, ◌++◌}
use Prim.Native.Nat.{ℕ, zero, suc, ◌+◌, ◌/◌, ◌%◌, ◌≤◌, ◌<◌}
use native.Mathlib.Nat.{le_refl}
use native.Mathlib.Omega.{arith}
use lib.Dec.{ltb}
use lib.ListN.{length, length-append}
use borrow.Author.Tests.{ltb-true, ltb-false, lt-ltb, le-ltb}
use Rattle.sets.proofs.Tests.{Test, test, passes, fails}
use Rattle.decimal.specs.Numerals.{spelled, numeral}

spelled_digit : (more n : ℕ) → n < 10 → spelled more n ≡ (48 + n) ∷ []
unfolding spelled
spelled_digit zero n h = refl
spelled_digit (suc more) n h = rw (lt-ltb n 10 h)

-- a number has no more digits than it has units
enough : (a b n : ℕ) → n ≤ a → n ≤ b → spelled a n ≡ spelled b n
unfolding spelled
enough zero b n h k = sym (spelled_digit b n (omega arith))
enough (suc a) zero n h k = spelled_digit (suc a) n (omega arith)
enough (suc a) (suc b) n h k = rw (enough a b (n / 10) (omega arith) (omega arith))

pub one_digit : (n : ℕ) → n < 10 → numeral n ≡ (48 + n) ∷ []
unfolding numeral
one_digit n h = spelled_digit n n h

pub one_more : (n : ℕ) → 10 ≤ n → numeral n ≡ numeral (n / 10) ++ ((48 + n % 10) ∷ [])
unfolding numeral spelled
one_more zero h = absurd (omega arith)
one_more (suc m) h = rw (le-ltb (suc m) 10 h, enough m (suc m / 10) (suc m / 10) (omega arith) (le_refl _))

pub one_longer : (n : ℕ) → 10 ≤ n → length (numeral n) ≡ length (numeral (n / 10)) + 1
one_longer n h = rw (one_more n h) (length-append (numeral (n / 10)) _)

module _ (P : ℕ → List ℕ → Type 0)
    (one : (n : ℕ) → n < 10 → P n ((48 + n) ∷ []))
    (more : (n : ℕ) (tens : List ℕ) → 10 ≤ n → P (n / 10) tens → P n (tens ++ ((48 + n % 10) ∷ []))) where
  up_to : (k n : ℕ) → n ≤ k → P n (numeral n)
  up_to zero n h = rw (one_digit n (omega arith)) (one n (omega arith))
  up_to (suc k) n h = by_test (λ l. up_to k (n / 10) l) (test (ltb n 10)) where
    by_test : (n / 10 ≤ k → P (n / 10) (numeral (n / 10))) → Test (ltb n 10) → P n (numeral n)
    by_test tens (passes e) = let l = ltb-true n 10 e in rw (one_digit n l) (one n l)
    by_test tens (fails e) = let l = ltb-false n 10 e in rw (one_more n l) (more n _ l (tens (omega arith)))

  -- what holds of one digit, and with a numeral of that and one digit more, holds of every numeral
  pub every-numeral : (n : ℕ) → P n (numeral n)
  every-numeral n = up_to n n (le_refl n)

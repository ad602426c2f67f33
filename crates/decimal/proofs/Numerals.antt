-- Numerals are digits that stand for their number, and are short. Assumes nothing.
use mathlib.Core.Path.{◌≡◌, refl}
use mathlib.Core.Bool.{true}
use mathlib.Core.List.{List, [], ◌∷◌, ◌++◌}
use Prim.Native.Nat.{ℕ, zero, suc, ◌+◌, ◌-◌, ◌*◌, ◌/◌, ◌%◌, ◌^◌, ◌≤◌, ◌<◌}
use native.Mathlib.Nat.{mod-lt, pow-suc}
use native.Mathlib.Omega.{arith}
use lib.Dec.{ltb, lit<}
use lib.ListN.{length, get_or, length-append, get_or-append}
use lib.Seq.{get_or-append_seam}
use borrow.Author.Tests.{ltb-true, ltb-false, le-leb}
use Rattle.sets.proofs.Tests.{Test, test, passes, fails}
use Rattle.decimal.specs.Numerals.{numeral, numeral_value, value_from, is_digit, NumeralsReadBack}
use Rattle.decimal.proofs.Spelling.{every-numeral}

value_append : (v : ℕ) (a b : List ℕ) → value_from v (a ++ b) ≡ value_from (value_from v a) b
unfolding value_from
value_append v [] b = refl
value_append v (x ∷ a) b = value_append (v * 10 + (x - 48)) a b

reads : (n : ℕ) → numeral_value (numeral n) ≡ n
unfolding numeral_value value_from
reads =
    every-numeral (λ n w. numeral_value w ≡ n) (λ n h. omega arith)
    (λ n tens h e. rw (value_append 0 tens, e) (omega arith))

abbrev AreDigits : List ℕ → Type 0
AreDigits w = (i : ℕ) → i < length w → is_digit (get_or w i 0) ≡ true

digit_of : (x : ℕ) → x < 10 → is_digit (48 + x) ≡ true
unfolding is_digit
digit_of x h = rw (le-leb 48 (48 + x) (omega arith), le-leb (48 + x) 57 (omega arith))

digits_append : (w : List ℕ) (x : ℕ) → x < 10 → AreDigits w → AreDigits (w ++ ((48 + x) ∷ []))
digits_append w x h d i l = by_test (test (ltb i (length w))) where
  by_test : Test (ltb i (length w)) → is_digit (get_or (w ++ ((48 + x) ∷ [])) i 0) ≡ true
  by_test (passes e) = let k = ltb-true i (length w) e in rw (get_or-append w _ 0 i k) (d i k)
  by_test (fails e) =
      let same : i ≡ length w = omega (arith, ltb-false i (length w) e, length-append w ((48 + x) ∷ [])) in
      rw (same, get_or-append_seam w (48 + x) [] 0) (digit_of x h)

digits : (n : ℕ) → AreDigits (numeral n)
digits =
    every-numeral (λ n w. AreDigits w) (λ n h. digits_append [] n h (λ i l. absurd (omega arith)))
    (λ n tens h d. digits_append tens (n % 10) (mod-lt n (lit< tt)) d)

pub numerals_read_back : NumeralsReadBack
numerals_read_back = record { reads = reads; digits = digits }

-- a number below 10 ^ k has at most k digits, if a tenth of it has at most k - 1
short_tens : (n : ℕ) (tens : List ℕ) → 10 ≤ n → ((k : ℕ) → n / 10 < 10 ^ suc k → length tens ≤ suc k)
    → (k : ℕ) → n < 10 ^ suc k → length (tens ++ ((48 + n % 10) ∷ [])) ≤ suc k
short_tens n tens h shorter zero l = absurd (omega arith)
short_tens n tens h shorter (suc k) l =
    omega (arith, length-append tens ((48 + n % 10) ∷ []), shorter k (omega (arith, rw (pow-suc 10 (suc k)) at l)))

short_by : (n k : ℕ) → n < 10 ^ suc k → length (numeral n) ≤ suc k
short_by =
    every-numeral (λ n w. (k : ℕ) → n < 10 ^ suc k → length w ≤ suc k) (λ n h k l. omega arith)
    short_tens

-- five digits are enough for any number of 16 bits
pub short : (n : ℕ) → n < 100000 → length (numeral n) ≤ 5
short n h = short_by n 4 h

-- Decimal numerals, as ASCII bytes.
use Rattle.std.specs.Prelude.{◌≡◌, Bool, true, cond, ◌&&◌, List, [], ◌∷◌, ◌++◌, ℕ, zero, suc, ◌+◌, ◌-◌, ◌*◌, ◌/◌, ◌%◌}
use Rattle.std.specs.Prelude.{◌<◌, leb, ltb, length, get_or}

-- the numeral of n, of at most one digit more than the first number: that one only lets the definition end
unfoldable pub spelled : ℕ → ℕ → List ℕ
spelled zero n = (48 + n) ∷ []
spelled (suc more) n = cond (ltb n 10) ((48 + n) ∷ []) (spelled more (n / 10) ++ ((48 + n % 10) ∷ []))

-- the digits of n, the highest first, without leading zeros; 0 is "0"
unfoldable pub numeral : ℕ → List ℕ
numeral n = spelled n n

-- what digits stand for, behind others that stand for v
unfoldable pub value_from : ℕ → List ℕ → ℕ
value_from v [] = v
value_from v (x ∷ xs) = value_from (v * 10 + (x - 48)) xs

unfoldable pub numeral_value : List ℕ → ℕ
numeral_value w = value_from 0 w

-- "0" is 48 and "9" is 57
unfoldable pub is_digit : ℕ → Bool
is_digit x = leb 48 x && leb x 57

-- A numeral is digits and nothing else, and stands for its number.
pub record NumeralsReadBack : Type 0 where
  pub reads : (n : ℕ) → numeral_value (numeral n) ≡ n
  pub digits : (n i : ℕ) → i < length (numeral n) → is_digit (get_or (numeral n) i 0) ≡ true

-- Membership: which numbers are in a set, and that a set is its members. Assumes nothing.
use mathlib.Core.Path.{◌≡◌, refl, sym, ap, ap₂, ◌∙◌}
use mathlib.Core.Logic.{◌≢◌}
use mathlib.Core.Bool.{true, false, false≢true}
use Prim.Native.Nat.{ℕ, zero, suc, ◌+◌, ◌*◌, ◌/◌, ◌%◌, ◌^◌, ◌≤◌, ◌<◌}
use native.Mathlib.Nat.{mod-lt, div-one, zero-div, div-add-mod', div-eq_of_lt, lt_of_lt_of_le}
use native.Mathlib.Numerals.{one-add}
use native.Mathlib.Omega.{arith}
use lib.Dec.{eqb, lit<}
use lib.Arith.{bin_ind}
use lib.Pow.{pow_mono, shr-shr}
use Rattle.sets.specs.Sets.{has}
use Rattle.sets.proofs.Tests.{clash}

pub has_empty : (d : ℕ) → has 0 d ≡ false
unfolding has
has_empty d = rw zero-div

-- a member and a number that is none differ
pub outsider_differs : (s d e : ℕ) → has s d ≡ false → has s e ≡ true → e ≢ d
outsider_differs s d e out m same = clash m (rw same out)

pub has-lowest_bit : (s : ℕ) → has s 0 ≡ eqb (s % 2) 1
unfolding has
has-lowest_bit s = rw (div-one s)

-- the members of s / 2 ^ n are those of s from n up, counted from n
pub has_shift : (s n d : ℕ) → has (s / 2 ^ n) d ≡ has s (n + d)
unfolding has
has_shift s n d = rw (shr-shr s n d)

pub has_half : (s d : ℕ) → has s (suc d) ≡ has (s / 2) d
has_half s d = ap (has s) (sym (one-add d)) ∙ sym (has_shift s 1 d)

-- a set below 2 ^ n has no member from n up
pub has_above : (s n d : ℕ) → s < 2 ^ n → n ≤ d → has s d ≡ false
unfolding has
has_above s n d h l = rw (div-eq_of_lt (lt_of_lt_of_le h (pow_mono l)))

digit_same : (p q : ℕ) → p < 2 → q < 2 → eqb p 1 ≡ eqb q 1 → p ≡ q
digit_same zero zero hp hq e = refl
digit_same zero (suc zero) hp hq e = absurd (false≢true e)
digit_same (suc zero) zero hp hq e = absurd (false≢true (sym e))
digit_same (suc zero) (suc zero) hp hq e = refl
digit_same zero (suc (suc q)) hp hq e = absurd (omega arith)
digit_same (suc zero) (suc (suc q)) hp hq e = absurd (omega arith)
digit_same (suc (suc p)) q hp hq e = absurd (omega arith)

-- a set is its lowest bit and the set of the others
halves : (a b : ℕ) → a / 2 ≡ b / 2 → has a 0 ≡ has b 0 → a ≡ b
halves a b p q =
    sym (div-add-mod' a 2)
    ∙ ap₂ (λ (x y : ℕ). x * 2 + y) p
    (digit_same (a % 2) (b % 2) (mod-lt a (lit< tt)) (mod-lt b (lit< tt))
    (sym (has-lowest_bit a) ∙ q ∙ has-lowest_bit b))
    ∙ div-add-mod' b 2

no_member : (s : ℕ) → ((d : ℕ) → has s d ≡ false) → s ≡ 0
no_member =
    bin_ind (λ s. ((d : ℕ) → has s d ≡ false) → s ≡ 0) (λ h. refl)
    (λ s ih h. halves s 0 (ih (λ d. sym (has_half s d) ∙ h (suc d))) (h 0 ∙ sym (has_empty 0)))

-- two sets with the same members are equal
pub same_members : (a b : ℕ) → ((d : ℕ) → has a d ≡ has b d) → a ≡ b
same_members =
    bin_ind (λ a. (b : ℕ) → ((d : ℕ) → has a d ≡ has b d) → a ≡ b)
    (λ b h. sym (no_member b (λ d. sym (h d) ∙ has_empty d)))
    (λ a ih b h. halves a b (ih (b / 2) (λ d. sym (has_half a d) ∙ h (suc d) ∙ has_half b d)) (h 0))

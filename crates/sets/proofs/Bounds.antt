-- A set that names only disks below n. Assumes nothing.
use mathlib.Core.Path.{◌≡◌, sym, ◌∙◌}
use mathlib.Core.Logic.{◌↔◌, ◌⊎◌, inl, inr}
use mathlib.Core.Bool.{true, not, or-true}
use Prim.Native.Nat.{ℕ, ◌+◌, ◌/◌, ◌^◌, ◌<◌}
use native.Mathlib.Nat.{div-lt_iff_lt-mul, div-eq_of_lt, one-mul}
use native.Mathlib.Decide.{dec_lt}
use native.Mathlib.Omega.{arith}
use lib.Dec.{eqb, lit<}
use lib.Pow.{pow_pos}
use borrow.Author.Tests.{ltb-true, lt-ltb, eqb-true, eq-eqb}
use Rattle.sets.specs.Sets.{has, union, intersection, difference, singleton, below}
use Rattle.sets.proofs.Tests.{Test, passes, fails, test, same_test, clash, and_parts, or_either}
use Rattle.sets.proofs.Membership.{has_shift, has_above, has_empty, same_members}
use Rattle.sets.proofs.Operations.{has-union, has-intersection, has-difference, has-singleton}

pub below_pow : (s n : ℕ) → (below s n ≡ true) ↔ (s < 2 ^ n)
unfolding below
below_pow s n = (ltb-true s (2 ^ n), lt-ltb s (2 ^ n))

-- a set is below 2 ^ n if nothing is left of it after n shifts
shifted_out : (s n : ℕ) → (s / 2 ^ n ≡ 0) ↔ (s < 2 ^ n)
shifted_out s n =
    (λ e. rw one-mul at ((div-lt_iff_lt-mul {x = s} {y = 1} (pow_pos n)).0 (rw e (lit< tt))), div-eq_of_lt)

-- the code's way, a shift
pub below_shift : (s n : ℕ) → eqb (s / 2 ^ n) 0 ≡ below s n
below_shift s n =
    same_test (eqb (s / 2 ^ n) 0) (below s n)
    (λ e. (below_pow s n).1 ((shifted_out s n).0 (eqb-true _ _ e)))
    (λ e. eq-eqb _ _ ((shifted_out s n).1 ((below_pow s n).0 e)))

-- a set below 2 ^ n has only members below n, and a set with only such members is below 2 ^ n
pub member_below : (s n d : ℕ) → s < 2 ^ n → has s d ≡ true → d < n
member_below s n d h e = go (dec_lt d n)
  where
    go : Dec (d < n) → d < n
    go (yes l) = l
    go (no g) = clash e (has_above s n d h (omega arith))

pub below_members : (s n : ℕ) → (below s n ≡ true) ↔ ((d : ℕ) → has s d ≡ true → d < n)
below_members s n = (
  λ e d. member_below s n d ((below_pow s n).0 e),
  λ f. (below_pow s n).1 ((shifted_out s n).0 (same_members _ 0 (none f))),
)
  where
    none : ((d : ℕ) → has s d ≡ true → d < n) → (d : ℕ) → has (s / 2 ^ n) d ≡ has 0 d
    none f d = go (test (has s (n + d)))
      where
        go : Test (has s (n + d)) → has (s / 2 ^ n) d ≡ has 0 d
        go (passes e) = absurd (omega (arith, f (n + d) e))
        go (fails e) = has_shift s n d ∙ e ∙ sym (has_empty d)

-- ---- results that stay below n

pub below_empty : (n : ℕ) → below 0 n ≡ true
below_empty n = (below_pow 0 n).1 (pow_pos n)

pub below_inside : (a b n : ℕ) → ((d : ℕ) → has a d ≡ true → has b d ≡ true) → below b n ≡ true → below a n ≡ true
below_inside a b n inside h = (below_members a n).1 (λ d m. (below_members b n).0 h d (inside d m))

pub below-intersection : (a b n : ℕ) → below b n ≡ true → below (intersection a b) n ≡ true
below-intersection a b n =
    below_inside (intersection a b) b n (λ d m. (and_parts (has a d) (has b d) (sym (has-intersection a b d) ∙ m)).1)

pub below-difference : (a b n : ℕ) → below a n ≡ true → below (difference a b) n ≡ true
below-difference a b n =
    below_inside (difference a b) a n (λ d m. (and_parts (has a d) (not (has b d)) (sym (has-difference a b d) ∙ m)).0)

-- a union does where both its parts do, and only there
pub below-union : (a b n : ℕ) → (below (union a b) n ≡ true) ↔ ((below a n ≡ true) × (below b n ≡ true))
below-union a b n = (
  λ h. (
    below_inside a (union a b) n (λ d m. has-union a b d ∙ rw m) h,
    below_inside b (union a b) n (λ d m. has-union a b d ∙ rw m (or-true (has a d))) h,
  ),
  λ h. (below_members (union a b) n).1 (λ d m. go h d (or_either (has a d) (has b d) (sym (has-union a b d) ∙ m))),
)
  where
    go : (below a n ≡ true) × (below b n ≡ true) → (d : ℕ) → (has a d ≡ true) ⊎ (has b d ≡ true) → d < n
    go h d (inl m) = (below_members a n).0 h.0 d m
    go h d (inr m) = (below_members b n).0 h.1 d m

-- with one more disk below n
pub below_with : (a d n : ℕ) → below a n ≡ true → d < n → below (union a (singleton d)) n ≡ true
below_with a d n h l =
    (below_members (union a (singleton d)) n).1
    (λ e m. go e (or_either (has a e) (eqb e d) (sym (has-union a (singleton d) e ∙ rw (has-singleton d e)) ∙ m)))
  where
    go : (e : ℕ) → (has a e ≡ true) ⊎ (eqb e d ≡ true) → e < n
    go e (inl m) = (below_members a n).0 h e m
    go e (inr q) = rw (eqb-true e d q) l

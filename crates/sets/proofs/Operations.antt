-- The members that each operation on sets gives. Assumes nothing.
use mathlib.Core.Path.{◌≡◌, refl, sym, ap, ◌∙◌}
use mathlib.Core.Logic.{◌≢◌, ◌⊎◌, inl, inr, ◌↔◌}
use mathlib.Core.Bool.{Bool, true, false, not, ◌&&◌, ◌||◌, or-true, or-false, and-true, and-false}
use Prim.Native.Nat.{ℕ, zero, suc, ◌-◌, ◌*◌, ◌/◌, ◌%◌, ◌^◌, ◌<◌, min, max}
use native.Mathlib.Nat.{mod-lt, mul-mod_left, mul-div_cancel, pow-suc}
use lib.Arith.{lt-one}
use native.Mathlib.Numerals.{add-one}
use native.Mathlib.Omega.{arith}
use lib.Dec.{eqb, ltb, eqb-suc-zero, eqb-zero-suc, eqb-suc-suc, leb-suc-suc, leb-suc-zero, leb-zero, lit<}
use lib.Pow.{pow_pos, shr_lt}
use lib.Bits.{bit_and, bit_or, and_step, or_step, and_le_l}
use mir.Syntax.{Width}
use mir.Val.{Fits, bits}
use borrow.Author.Tests.{eqb-true, eq-eqb, ne_eqb}
use Rattle.sets.specs.Sets.{has, subset, union, intersection, difference, singleton, all}
use Rattle.sets.proofs.Tests.{and_parts, same_or_not}
use Rattle.sets.proofs.Membership.{has_empty, has-lowest_bit, has_half, same_members}

-- ---- operations that work bit by bit

-- g does to binary digits what f does to truth values, as its four cases show
on_digits : (g : ℕ → ℕ → ℕ) (f : Bool → Bool → Bool)
    → eqb (g 0 0) 1 ≡ f false false → eqb (g 0 1) 1 ≡ f false true → eqb (g 1 0) 1 ≡ f true false
    → eqb (g 1 1) 1 ≡ f true true
    → (p q : ℕ) → p < 2 → q < 2 → eqb (g p q) 1 ≡ f (eqb p 1) (eqb q 1)
on_digits g f e00 e01 e10 e11 zero zero hp hq = e00
on_digits g f e00 e01 e10 e11 zero (suc zero) hp hq = e01
on_digits g f e00 e01 e10 e11 (suc zero) zero hp hq = e10
on_digits g f e00 e01 e10 e11 (suc zero) (suc zero) hp hq = e11
on_digits g f e00 e01 e10 e11 zero (suc (suc q)) hp hq = absurd (omega arith)
on_digits g f e00 e01 e10 e11 (suc zero) (suc (suc q)) hp hq = absurd (omega arith)
on_digits g f e00 e01 e10 e11 (suc (suc p)) q hp hq = absurd (omega arith)

-- an operation that does g to the lowest digits and itself to the halves does f to membership
bitwise : (op g : ℕ → ℕ → ℕ) (f : Bool → Bool → Bool)
    → ((p q : ℕ) → p < 2 → q < 2 → eqb (g p q) 1 ≡ f (eqb p 1) (eqb q 1))
    → ((a b : ℕ) → op a b / 2 ≡ op (a / 2) (b / 2)) → ((a b : ℕ) → op a b % 2 ≡ g (a % 2) (b % 2))
    → (a b d : ℕ) → has (op a b) d ≡ f (has a d) (has b d)
bitwise op g f digits half low a b zero =
    has-lowest_bit (op a b)
    ∙ rw (low a b, has-lowest_bit a, has-lowest_bit b)
    (digits (a % 2) (b % 2) (mod-lt a (lit< tt)) (mod-lt b (lit< tt)))
bitwise op g f digits half low a b (suc d) =
    has_half (op a b) d ∙ rw (half a b, has_half a d, has_half b d) (bitwise op g f digits half low (a / 2) (b / 2) d)

pub has-union : (a b d : ℕ) → has (union a b) d ≡ (has a d || has b d)
unfolding union
has-union =
    bitwise bit_or max ◌||◌ (on_digits max ◌||◌ refl refl refl refl) (λ a b. omega (arith, or_step a b))
    (λ a b. omega (arith, or_step a b))

pub has-intersection : (a b d : ℕ) → has (intersection a b) d ≡ (has a d && has b d)
unfolding intersection
has-intersection =
    bitwise bit_and min ◌&&◌ (on_digits min ◌&&◌ refl refl refl refl) (λ a b. omega (arith, and_step a b))
    (λ a b. omega (arith, and_step a b))

pub has-difference : (a b d : ℕ) → has (difference a b) d ≡ (has a d && not (has b d))
unfolding difference intersection
has-difference =
    bitwise (λ a b. a - bit_and a b) (λ p q. p - min p q) (λ x y. x && not y)
    (on_digits (λ p q. p - min p q) (λ x y. x && not y) refl refl refl refl)
    (λ a b. omega (arith, and_step a b, and_le_l (a / 2) (b / 2)))
    (λ a b. omega (arith, and_step a b, and_le_l (a / 2) (b / 2)))

-- the complement of x below p * 2, halved, and its lowest digit
complement_half : (p x : ℕ) → x < p * 2 → (p * 2 - 1 - x) / 2 ≡ p - 1 - x / 2
complement_half p x h = omega arith

complement_low : (p x : ℕ) → x < p * 2 → (p * 2 - 1 - x) % 2 ≡ 1 - x % 2
complement_low p x h = omega arith

-- the code's way, a mask with the complement, at any width
and_complement : (k a b : ℕ) → a < 2 ^ k → b < 2 ^ k → bit_and a (2 ^ k - 1 - b) ≡ difference a b
unfolding difference intersection
and_complement zero a b ha hb = rw (lt-one ha)
and_complement (suc k) a b ha hb =
    let pb : b < 2 ^ k * 2 = rw (pow-suc 2 k) at hb in
    and_step a (2 ^ suc k - 1 - b)
    ∙ rw (
      pow-suc 2 k,
      complement_half (2 ^ k) b pb,
      complement_low (2 ^ k) b pb,
      and_complement k (a / 2) (b / 2) (shr_lt k 1 (rw add-one ha)) (shr_lt k 1 (rw add-one hb)),
    )
    (omega (arith, and_step a b, and_le_l (a / 2) (b / 2)))

-- the same of a mask of code, whatever its width
pub mask_complement : {w : Width} {a b : ℕ} → Fits w a → b < 2 ^ bits w → bit_and a (2 ^ bits w - 1 - b)
    ≡ difference a b
mask_complement {w} fa hb = and_complement (bits w) _ _ fa.fits hb

-- ---- a set of one disk, and of the disks below n

pub has-singleton : (i d : ℕ) → has (singleton i) d ≡ eqb d i
unfolding has singleton
has-singleton zero zero = refl
has-singleton zero (suc d) = has_half 1 d ∙ has_empty d ∙ sym (eqb-suc-zero d)
has-singleton (suc i) zero = has-lowest_bit (2 ^ suc i) ∙ rw (pow-suc 2 i, mul-mod_left, eqb-zero-suc i)
has-singleton (suc i) (suc d) =
    has_half (2 ^ suc i) d ∙ rw (pow-suc 2 i, mul-div_cancel (2 ^ i) (lit< tt), eqb-suc-suc) (has-singleton i d)

-- a set with a disk has it
pub has_with : (a d : ℕ) → has (union a (singleton d)) d ≡ true
has_with a d = has-union a (singleton d) d ∙ rw (has-singleton d d, eq-eqb d d refl) (or-true (has a d))

-- one more and one less, disk by disk
module _ (a d e : ℕ) where
  pub has_more : e ≢ d → has (union a (singleton d)) e ≡ has a e
  has_more ne = has-union a (singleton d) e ∙ rw (has-singleton d e, ne_eqb e d ne) (or-false (has a e))

  pub has_less : e ≢ d → has (difference a (singleton d)) e ≡ has a e
  has_less ne = has-difference a (singleton d) e ∙ rw (has-singleton d e, ne_eqb e d ne) (and-true (has a e))

pub has_without : (a d : ℕ) → has (difference a (singleton d)) d ≡ false
has_without a d = has-difference a (singleton d) d ∙ rw (has-singleton d d, eq-eqb d d refl) (and-false (has a d))

-- sets that agree on d and on all others are the same
same_but_for : (a b d : ℕ) → has a d ≡ has b d → ((e : ℕ) → e ≢ d → has a e ≡ has b e) → a ≡ b
same_but_for a b d here others = same_members a b (λ e. go e (same_or_not e d))
  where
    go : (e : ℕ) → (e ≡ d) ⊎ (e ≢ d) → has a e ≡ has b e
    go e (inl q) = rw q here
    go e (inr ne) = others e ne

-- a set with a member more is itself, and so is one without an outsider, or with a member taken out and put back
module _ (a d : ℕ) where
  pub with_member : has a d ≡ true → union a (singleton d) ≡ a
  with_member m = same_but_for _ a d (has_with a d ∙ sym m) (has_more a d)

  pub without_outsider : has a d ≡ false → difference a (singleton d) ≡ a
  without_outsider out = same_but_for _ a d (has_without a d ∙ sym out) (has_less a d)

  pub put_back : has a d ≡ true → union (difference a (singleton d)) (singleton d) ≡ a
  put_back m =
      same_but_for _ a d (has_with _ d ∙ sym m)
      (λ e ne. has_more (difference a (singleton d)) d e ne ∙ has_less a d e ne)

pub has_all : (n d : ℕ) → has (all n) d ≡ ltb d n
unfolding all
has_all zero d = has_empty d ∙ sym (leb-suc-zero d)
has_all (suc n) zero =
    let odd : (2 ^ suc n - 1) % 2 ≡ 1 = rw (pow-suc 2 n) (omega (arith, pow_pos n)) in
    has-lowest_bit (2 ^ suc n - 1) ∙ rw (odd, leb-suc-suc, leb-zero)
has_all (suc n) (suc d) =
    let half : (2 ^ suc n - 1) / 2 ≡ 2 ^ n - 1 = rw (pow-suc 2 n) (omega (arith, pow_pos n)) in
    has_half (2 ^ suc n - 1) d ∙ rw (half, leb-suc-suc) (has_all n d)

-- ---- subset

pub subset_members : (a b : ℕ) → (subset a b ≡ true) ↔ ((d : ℕ) → has a d ≡ true → has b d ≡ true)
unfolding subset
subset_members a b = (
  λ e d h. (and_parts (has a d) (has b d)
      (sym (has-intersection a b d) ∙ ap (λ (s : ℕ). has s d) (eqb-true _ _ e) ∙ h)).1,
  λ f. eq-eqb _ _ (same_members (intersection a b) a (λ d. has-intersection a b d ∙ common (has a d) (has b d) (f d))),
)
  where
    common : (p q : Bool) → (p ≡ true → q ≡ true) → (p && q) ≡ p
    common true q f = f refl
    common false q f = refl

-- The size of a set is the number of its members. Assumes nothing.
use mathlib.Core.Path.{◌≡◌, refl, sym, ap, ap₂, ◌∙◌}
use mathlib.Core.Logic.{◌≢◌, ◌⊎◌, inl, inr}
use mathlib.Core.Bool.{Bool, true, false, cond}
use mathlib.Core.List.{[], ◌∷◌}
use Prim.Native.Nat.{ℕ, zero, suc, ◌+◌, ◌/◌, ◌%◌, ◌^◌, ◌≤◌, ◌<◌}
use native.Mathlib.Nat.{mod-lt, mod-eq_of_lt, add_comm}
use native.Mathlib.Numerals.{one-add}
use native.Mathlib.Omega.{arith}
use lib.Dec.{eqb, lit<}
use lib.Pow.{pow_pos, mod-pow-add}
use lib.Arith.{lt-one}
use lib.Count.{ones, ones_in, ones_cat}
use lib.ListN.{length, length-append}
use Rattle.sets.specs.Sets.{has, difference, singleton, size, members}
use Rattle.sets.proofs.Tests.{same_or_not}
use Rattle.sets.proofs.Operations.{has_less, has_without}
use Rattle.sets.proofs.Bounds.{below_pow, below-difference, member_below}

one_digit : (k p : ℕ) → p < 2 → ones p ≡ length (cond (eqb p 1) (k ∷ []) [])
unfolding ones ones_in
one_digit k zero h = refl
one_digit k (suc zero) h = refl
one_digit k (suc (suc p)) h = absurd (omega arith)

-- of the k lowest bits
size_low : (k s : ℕ) → ones (s % 2 ^ k) ≡ length (members k s)
unfolding members has ones
size_low zero s = ap ones (lt-one (mod-lt s (lit< tt)))
size_low (suc k) s =
    ap (λ (j : ℕ). ones (s % 2 ^ j)) (sym (one-add k))
    ∙ ap ones (mod-pow-add s 1 k)
    ∙ ones_cat k (s / 2 ^ k % 2) (s % 2 ^ k) (mod-lt s (pow_pos k))
    ∙ ap₂ ◌+◌ (one_digit k (s / 2 ^ k % 2) (mod-lt _ (lit< tt))) (size_low k s)
    ∙ add_comm _ _
    ∙ sym (length-append (members k s) (cond (has s k) (k ∷ []) []))

pub size_members : (k s : ℕ) → s < 2 ^ k → size s ≡ length (members k s)
unfolding size
size_members k s h = ap ones (sym (mod-eq_of_lt h)) ∙ size_low k s

-- no set below n has more than n members
members_most : (k s : ℕ) → length (members k s) ≤ k
unfolding members
members_most zero s = omega arith
members_most (suc k) s =
    omega (arith, length-append (members k s) (cond (has s k) (k ∷ []) []), one (has s k), members_most k s)
  where
    one : (t : Bool) → length (cond t (k ∷ []) []) ≤ 1
    one true = omega arith
    one false = omega arith

pub size_most : (n s : ℕ) → s < 2 ^ n → size s ≤ n
size_most n s h = rw (size_members n s h) (members_most n s)

-- a set without one of its members has one less
module _ (s d : ℕ) (m : has s d ≡ true) where
  abbrev less : ℕ
  less = difference s (singleton d)

  below_it : (k : ℕ) → k ≤ d → members k less ≡ members k s
  unfolding members
  below_it zero h = refl
  below_it (suc k) h = rw (below_it k (omega arith), has_less s d k (λ e. omega arith))

  one_less : (k : ℕ) → d < k → length (members k less) + 1 ≡ length (members k s)
  unfolding members
  one_less zero h = absurd (omega arith)
  one_less (suc k) h = go (same_or_not k d) (one_less k)
    where
      go : (k ≡ d) ⊎ (k ≢ d) → (d < k → length (members k less) + 1 ≡ length (members k s))
          → length (members (suc k) less) + 1 ≡ length (members (suc k) s)
      go (inl e) ih = rw (e, has_without s d, m, below_it d (omega arith))
          (omega (arith, length-append (members d s) [], length-append (members d s) (d ∷ [])))
      go (inr ne) ih =
          rw (has_less s d k ne)
          (omega (
            arith,
            length-append (members k less) (cond (has s k) (k ∷ []) []),
            length-append (members k s) (cond (has s k) (k ∷ []) []),
            ih (omega arith),
          ))

  pub size_without : (n : ℕ) → s < 2 ^ n → size less + 1 ≡ size s
  size_without n h =
      let small = (below_pow less n).0 (below-difference s (singleton d) n ((below_pow s n).1 h)) in
      rw (size_members n less small, size_members n s h) (one_less n (member_below s n d h m))

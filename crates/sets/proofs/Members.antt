-- The ascending list of members. Assumes nothing.
use mathlib.Core.Path.{◌≡◌, refl}
use mathlib.Core.Logic.{◌↔◌, ◌⊎◌, inl, inr}
use mathlib.Core.Bool.{Bool, true, false, cond}
use mathlib.Core.List.Memᴰ
use mathlib.Core.List.{List, [], ◌∷◌, ◌++◌, append-nil, Memᴰ}
use Prim.Native.Nat.{ℕ, zero, suc, ◌<◌}
use native.Mathlib.Omega.{arith}
use native.Mathlib.Decide.{dec_lt}
use lib.ListN.{length, get_or, length-append, get_or-append}
use lib.Seq.{get_or-append_seam}
use Rattle.sets.specs.Sets.{has, members}

-- ---- exactly the members below k are listed

listed : (k s d : ℕ) → Memᴰ d (members k s) → (d < k) × (has s d ≡ true)
unfolding members
listed zero s d m = absurd (Memᴰ.not-nil m)
listed (suc k) s d m = go (has s k) refl (listed k s d) (Memᴰ.append_cases (members k s) m)
  where
    go : (b : Bool) → has s k ≡ b → (Memᴰ d (members k s) → (d < k) × (has s d ≡ true))
        → Memᴰ d (members k s) ⊎ Memᴰ d (cond b (k ∷ []) []) → (d < suc k) × (has s d ≡ true)
    go b e ih (inl m) = (omega (arith, (ih m).0), (ih m).1)
    go true e ih (inr m) = let q : d ≡ k = Memᴰ.eq_of_singleton m in (omega arith, rw q e)
    go false e ih (inr m) = absurd (Memᴰ.not-nil m)

lists : (k s d : ℕ) → d < k → has s d ≡ true → Memᴰ d (members k s)
unfolding members
lists zero s d l h = absurd (omega arith)
lists (suc k) s d l h = go (dec_lt d k) (lists k s d)
  where
    go : Dec (d < k) → (d < k → has s d ≡ true → Memᴰ d (members k s))
        → Memᴰ d (members k s ++ cond (has s k) (k ∷ []) [])
    go (yes p) ih = Memᴰ.append_left (cond (has s k) (k ∷ []) []) (ih p h)
    go (no q) ih =
        let e : d ≡ k = omega arith in
        Memᴰ.append_right (members k s) (rw (rw e at h) (Memᴰ.head e))

pub members_has : (k s d : ℕ) → Memᴰ d (members k s) ↔ ((d < k) × (has s d ≡ true))
members_has k s d = (listed k s d, λ h. lists k s d h.0 h.1)

-- ---- in ascending order

-- where element i of a list stands that x may follow
data Place (xs : List ℕ) (x i element : ℕ) : Type 0 where
  inside : i < length xs → element ≡ get_or xs i 0 → Place xs x i element
  last : i ≡ length xs → element ≡ x → Place xs x i element

place : (xs : List ℕ) (more : Bool) (x i : ℕ) → i < length (xs ++ cond more (x ∷ []) [])
    → Place xs x i (get_or (xs ++ cond more (x ∷ []) []) i 0)
place xs false x i h = inside (rw append-nil at h) (rw append-nil)
place xs true x i h = go (dec_lt i (length xs))
  where
    go : Dec (i < length xs) → Place xs x i (get_or (xs ++ x ∷ []) i 0)
    go (yes l) = inside l (get_or-append xs (x ∷ []) 0 i l)
    go (no g) =
        let e : i ≡ length xs = omega (arith, length-append xs (x ∷ [])) in
        last e (rw e (get_or-append_seam xs x [] 0))

below_end : (k s i : ℕ) → i < length (members k s) → get_or (members k s) i 0 < k
unfolding members
below_end zero s i h = absurd (omega arith)
below_end (suc k) s i h = go (place (members k s) (has s k) k i h) (below_end k s i)
  where
    go : {v : ℕ} → Place (members k s) k i v → (i < length (members k s) → get_or (members k s) i 0 < k) → v < suc k
    go (inside l e) ih = omega (arith, ih l)
    go (last l e) ih = omega arith

pub members_ascend : (k s i j : ℕ) → i < j → j < length (members k s)
    → get_or (members k s) i 0 < get_or (members k s) j 0
unfolding members
members_ascend zero s i j l h = absurd (omega arith)
members_ascend (suc k) s i j l h =
    go (place (members k s) (has s k) k i (omega arith)) (place (members k s) (has s k) k j h)
    (members_ascend k s i j l)
  where
    go : {v w : ℕ} → Place (members k s) k i v → Place (members k s) k j w
        → (j < length (members k s) → get_or (members k s) i 0 < get_or (members k s) j 0) → v < w
    go (inside p d) (inside q e) ih = omega (arith, ih q)
    go (inside p d) (last q e) ih = omega (arith, below_end k s i p)
    go (last p d) (inside q e) ih = absurd (omega arith)
    go (last p d) (last q e) ih = absurd (omega arith)

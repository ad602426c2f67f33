-- A loop's list, one iteration after another: what holds of each part, and where it stands. Assumes nothing.
use mathlib.Core.Path.{◌≡◌, refl, sym, ap, ◌∙◌}
use mathlib.Core.List.{List, [], ◌∷◌, ◌++◌, append-nil, append_assoc}
use Prim.Native.Nat.{ℕ, zero, suc, ◌*◌, ◌≤◌, ◌<◌}
use native.Mathlib.Nat.{add-zero, one-mul, mul-suc, mul-zero, mul-le-mul_left}
use native.Mathlib.Omega.{arith}
use lib.ListN.{length, get_or, drop, length-append, get_or-eq_default}
use lib.Seq.{drop_at, drop-append-le, get_or-drop}
use Rattle.protocol.specs.Loops.{ascending}
use Rattle.protocol.proofs.Loops.{or_last, Each, nil, cons}

-- ---- what holds of each element

module _ {A : Type 0} {P : A → Type 0} where
  -- what holds of each element of two lists in a row holds of each of either
  each_parts : (xs : List A) {ys : List A} → Each P (xs ++ ys) → Each P xs × Each P ys
  each_parts [] ps = (nil, ps)
  each_parts (x ∷ xs) (cons p ps) = let (q, r) = each_parts xs ps in (cons p q, r)

  -- what holds of each element of a loop's list holds of each that it gives for d
  pub each_iteration : (n : ℕ) (f : ℕ → List A) → Each P (ascending n f) → (d : ℕ) → d < n → Each P (f d)
  unfolding ascending
  each_iteration zero f ps d l = absurd (omega arith)
  each_iteration (suc n) f ps d l =
      let (q, r) = each_parts (ascending n f) ps in or_last (λ i. Each P (f i)) n d l (each_iteration n f q d) r

-- ---- loops that give as many elements in every iteration

module _ {A : Type 0} (m : ℕ) (f : ℕ → List A) (even : (i : ℕ) → length (f i) ≡ m) where
  -- n iterations give n times as many
  pub even_length : (n : ℕ) → length (ascending n f) ≡ m * n
  unfolding ascending
  even_length zero = sym (mul-zero m)
  even_length (suc n) = length-append (ascending n f) (f n) ∙ rw (even_length n, even n, mul-suc m n) (omega arith)

  -- what it gives for d stands behind d times as many
  pub even_iteration : (n d : ℕ) → d < n → (later : List A) × (drop (m * d) (ascending n f) ≡ f d ++ later)
  unfolding ascending
  even_iteration zero d l = absurd (omega arith)
  even_iteration (suc n) d l = or_last Behind n d l (λ k. earlier k (even_iteration n d k)) last
    where
      Behind : ℕ → Type 0
      Behind i = (later : List A) × (drop (m * i) (ascending n f ++ f n) ≡ f i ++ later)

      earlier : d < n → (later : List A) × (drop (m * d) (ascending n f) ≡ f d ++ later) → Behind d
      earlier k (later, e) =
          let room : m * d ≤ length (ascending n f) = rw (even_length n) (mul-le-mul_left m (omega arith)) in
          (later ++ f n, rw (drop-append-le (m * d) (ascending n f) (f n) room, e) (append_assoc (f d) later (f n)))

      last : Behind n
      last = ([], drop_at (ascending n f) (f n) (m * n) (even_length n) ∙ sym (append-nil (f n)))

-- ---- loops that give one

module _ {A : Type 0} (g : ℕ → A) (n : ℕ) where
  -- n iterations give n
  pub listed-length : length (ascending n (λ d. g d ∷ [])) ≡ n
  listed-length = even_length 1 _ (λ i. refl) n ∙ one-mul n

  -- element d is what it gives for d
  pub listed_at : (z : A) (d : ℕ) → d < n → get_or (ascending n (λ d. g d ∷ [])) d z ≡ g d
  listed_at z d l =
      let (later, e) = even_iteration 1 (λ d. g d ∷ []) (λ i. refl) n d l in
      rw (get_or-drop, add-zero) at (ap (λ xs. get_or xs 0 z) (rw one-mul at e))

  -- and from n up there is none
  pub listed_past : (z : A) (d : ℕ) → n ≤ d → get_or (ascending n (λ d. g d ∷ [])) d z ≡ z
  listed_past z d l = get_or-eq_default (ascending n _) z {n = d} (rw listed-length l)

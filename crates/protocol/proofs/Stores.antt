-- Lists of stores, whole and cut: what holds after them, and after each prefix of them. Assumes nothing.
use mathlib.Core.Path.{◌≡◌, refl, ap}
use mathlib.Core.Bool.{Bool, true, false, cond}
use mathlib.Core.List.{List, [], ◌∷◌, ◌++◌}
use Prim.Native.Nat.{ℕ, zero, suc, ◌≤◌, ◌<◌}
use native.Mathlib.Omega.{arith}
use lib.ListN.{take}
use lib.Seq.{take-nil}
use Rattle.sets.specs.Sets.{has}
use Rattle.protocol.specs.Loops.{ascending, for_each}
use Rattle.protocol.specs.Stores.{Disks, Store, apply, apply_all}
use Rattle.protocol.proofs.Loops.{or_last, Each, nil, cons, each_take}

-- a cut list of two parts is a cut first part, or the whole first part and a cut second one
pub data Cut {A : Type 0} (xs ys : List A) (k : ℕ) : Type 0 where
  in_first : (j : ℕ) → take k (xs ++ ys) ≡ take j xs → Cut xs ys k
  in_second : (j : ℕ) → take k (xs ++ ys) ≡ xs ++ take j ys → Cut xs ys k

pub cut : {A : Type 0} (xs ys : List A) (k : ℕ) → Cut xs ys k
cut [] ys k = in_second k refl
cut (x ∷ xs) ys zero = in_first 0 refl
cut (x ∷ xs) ys (suc k) = go (cut xs ys k)
  where
    go : Cut xs ys k → Cut (x ∷ xs) ys (suc k)
    go (in_first j e) = in_first (suc j) (ap (λ r. x ∷ r) e)
    go (in_second j e) = in_second j (ap (λ r. x ∷ r) e)

module _ (b : ℕ) where
  pub apply_append : (xs ys : List Store) (w : Disks) → apply_all b (xs ++ ys) w ≡ apply_all b ys (apply_all b xs w)
  unfolding apply_all
  apply_append [] ys w = refl
  apply_append (x ∷ xs) ys w = apply_append xs ys (apply b x w)

  -- P holds before the list, between any two of its stores and after it: wherever the power goes
  abbrev pub Along : (Disks → Type 0) → List Store → Disks → Type 0
  Along P stores w = (k : ℕ) → P (apply_all b (take k stores) w)

  pub along_append : (P : Disks → Type 0) (xs ys : List Store) (w : Disks) → Along P xs w
      → Along P ys (apply_all b xs w)
      → Along P (xs ++ ys) w
  along_append P xs ys w first second k = go (cut xs ys k)
    where
      go : Cut xs ys k → P (apply_all b (take k (xs ++ ys)) w)
      go (in_first j e) = rw e (first j)
      go (in_second j e) = rw (e, apply_append) (second j)

  pub along_nil : (P : Disks → Type 0) (w : Disks) → P w → Along P [] w
  unfolding apply_all
  along_nil P w p k = rw take-nil p

  -- ---- stores that each keep Q

  abbrev pub Keeps : (Disks → Type 0) → Store → Type 0
  Keeps Q x = (w : Disks) → Q w → Q (apply b x w)

  module _ (Q : Disks → Type 0) where
    pub keeps : {xs : List Store} → Each (Keeps Q) xs → (w : Disks) → Q w → Q (apply_all b xs w)
    unfolding apply_all
    keeps nil w q = q
    keeps (cons p ps) w q = keeps ps _ (p w q)

    pub keeps_along : {xs : List Store} → Each (Keeps Q) xs → (w : Disks) → Q w → Along Q xs w
    keeps_along ps w q k = keeps (each_take k ps) w q

  -- ---- loops

  -- I i holds before iteration i
  module _ (f : ℕ → List Store) (bound : ℕ) (I : ℕ → Disks → Type 0)
      (iteration : (i : ℕ) → i < bound → (w : Disks) → I i w → I (suc i) (apply_all b (f i) w)) where
    pub loop : (n : ℕ) → n ≤ bound → (w : Disks) → I 0 w → I n (apply_all b (ascending n f) w)
    unfolding ascending apply_all
    loop zero l w h = h
    loop (suc n) l w h = rw apply_append (iteration n l _ (loop n (omega arith) w h))

    pub loop_along : (P : Disks → Type 0) → ((i : ℕ) → i < bound → (w : Disks) → I i w → Along P (f i) w)
        → (n : ℕ) → n ≤ bound → (w : Disks) → P w → I 0 w → Along P (ascending n f) w
    unfolding ascending
    loop_along P part zero l w p h = along_nil P w p
    loop_along P part (suc n) l w p h =
        along_append P (ascending n f) (f n) w (loop_along P part n (omega arith) w p h)
        (part n l _ (loop n (omega arith) w h))

  -- a loop whose iterations keep K and each make their own Q, which the others keep, has made every Q
  module _ (f : ℕ → List Store) (K : Disks → Type 0) (Q : ℕ → Disks → Type 0) (n : ℕ)
      (makes : (i : ℕ) → i < n → (w : Disks) → K w → K (apply_all b (f i) w) × Q i (apply_all b (f i) w))
      (stays : (i j : ℕ) → i < n → j < i → (w : Disks) → K w → Q j w → Q j (apply_all b (f i) w)) where
    pub made_all : (w : Disks) → K w
        → K (apply_all b (ascending n f) w) × ((j : ℕ) → j < n → Q j (apply_all b (ascending n f) w))
    made_all w k =
        loop f n (λ i v. K v × ((j : ℕ) → j < i → Q j v))
        (λ i l v h. let m = makes i l v
        h.0 in (
          m.0,
          λ j q. or_last (λ e. Q e (apply_all b (f i) v)) i j q (λ r. stays i j l r v h.0 (h.1 j r))
              m.1,
        ))
        n (omega arith) w (k, λ j q. absurd (omega arith))

  -- the same over the members of a set, with one store for each
  module _ (x : ℕ → Store) (s : ℕ) (K : Disks → Type 0) (Q : ℕ → Disks → Type 0) (n : ℕ)
      (makes : (d : ℕ) → d < n → has s d ≡ true → (w : Disks) → K w → K (apply b (x d) w) × Q d (apply b (x d) w))
      (stays : (d e : ℕ) → d < n → has s d ≡ true → e < d → (w : Disks) → K w → Q e w → Q e (apply b (x d) w)) where
    pub made_members : (w : Disks) → K w
        → K (apply_all b (for_each n s (λ d. x d ∷ [])) w) × ((d : ℕ) → d < n → has s d ≡ true
        → Q d (apply_all b (for_each n s (λ d. x d ∷ [])) w))
    unfolding for_each apply_all
    made_members = made_all (λ d. cond (has s d) (x d ∷ []) []) K (λ d w. has s d ≡ true → Q d w) n
        (λ d l w k. make d l w k (has s d) refl) (λ d e l r w k q m. stay d e l r w k (q m) (has s d) refl)
      where
        make : (d : ℕ) → d < n → (w : Disks) → K w → (t : Bool) → has s d ≡ t
            → K (apply_all b (cond t (x d ∷ []) []) w) × (t ≡ true → Q d (apply_all b (cond t (x d ∷ []) []) w))
        make d l w k true e = let m = makes d l e w k in (m.0, λ z. m.1)
        make d l w k false e = (k, λ z. absurd (let y : ◌≡◌ {A = ℕ} 0 1 = cc in omega arith))

        stay : (d e : ℕ) → d < n → e < d → (w : Disks) → K w → Q e w → (t : Bool) → has s d ≡ t
            → Q e (apply_all b (cond t (x d ∷ []) []) w)
        stay d e l r w k q true m = stays d e l m r w k q
        stay d e l r w k q false m = q

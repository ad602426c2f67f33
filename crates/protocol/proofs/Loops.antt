-- What holds of loops that go up from 0, and of the lists that they build. Assumes nothing.
use mathlib.Core.Path.{◌≡◌, refl, sym, ap, ap₂, ◌∙◌}
use mathlib.Core.Logic.{◌≢◌, ◌⊎◌, inl, inr}
use mathlib.Core.Bool.{Bool, true, false, cond, ◌&&◌, ◌||◌, or-true}
use mathlib.Core.List.Memᴰ
use mathlib.Core.List.{List, [], ◌∷◌, ◌++◌, append-nil, append_assoc, Memᴰ}
use Prim.Native.Nat.{ℕ, zero, suc, ◌+◌, ◌≤◌, ◌<◌}
use native.Mathlib.Omega.{arith}
use lib.Dec.{ltb}
use lib.ListN.{length, take, length-append}
use borrow.Author.Tests.{eqb-true, eq-eqb, ltb-true, ltb-false, lt-ltb, le-ltb}
use Rattle.sets.specs.Sets.{has, singleton, below, size, members}
use Rattle.sets.proofs.Tests.{Test, passes, fails, test, clash, and_parts, or_either}
use Rattle.sets.proofs.Tests.{implied, implies, same_or_not, same_test}
use Rattle.sets.proofs.Membership.{has_empty, same_members}
use Rattle.sets.proofs.Operations.{has-union, has-singleton}
use Rattle.sets.proofs.Bounds.{below_pow, below_members}
use Rattle.sets.proofs.Cardinality.{size_members}
use Rattle.protocol.specs.Loops.{ascending, for_each, all_below, some_below, every, some, union_below, disks_where}

-- what holds below n and at n holds below n + 1
pub or_last : (P : ℕ → Type 0) (n d : ℕ) → d < suc n → (d < n → P d) → P n → P d
or_last P n d h low last = go (same_or_not d n)
  where
    go : (d ≡ n) ⊎ (d ≢ n) → P d
    go (inl e) = rw e last
    go (inr ne) = low (omega arith)

-- ---- tests of all, and of some

pub all_at : (n : ℕ) (p : ℕ → Bool) → all_below n p ≡ true → (d : ℕ) → d < n → p d ≡ true
unfolding all_below
all_at zero p h d l = absurd (omega arith)
all_at (suc n) p h d l =
    let parts = and_parts (all_below n p) (p n) h in or_last (λ e. p e ≡ true) n d l (all_at n p parts.0 d) parts.1

pub all_of : (n : ℕ) (p : ℕ → Bool) → ((d : ℕ) → d < n → p d ≡ true) → all_below n p ≡ true
unfolding all_below
all_of zero p h = refl
all_of (suc n) p h = rw (all_of n p (λ d l. h d (omega arith)), h n (omega arith))

pub some_at : (n : ℕ) (p : ℕ → Bool) → some_below n p ≡ true → (d : ℕ) × (d < n) × (p d ≡ true)
unfolding some_below
some_at zero p h = clash h refl
some_at (suc n) p h = go (some_at n p) (or_either (some_below n p) (p n) h)
  where
    go : (some_below n p ≡ true → (d : ℕ) × (d < n) × (p d ≡ true)) → (some_below n p ≡ true) ⊎ (p n ≡ true)
        → (d : ℕ) × (d < suc n) × (p d ≡ true)
    go ih (inl e) = let (d, l, q) = ih e in (d, omega arith, q)
    go ih (inr e) = (n, omega arith, e)

pub some_of : (n : ℕ) (p : ℕ → Bool) (d : ℕ) → d < n → p d ≡ true → some_below n p ≡ true
unfolding some_below
some_of zero p d l e = absurd (omega arith)
some_of (suc n) p d l e = go (some_of n p d) (same_or_not d n)
  where
    go : (d < n → p d ≡ true → some_below n p ≡ true) → (d ≡ n) ⊎ (d ≢ n) → (some_below n p || p n) ≡ true
    go ih (inl q) = rw (rw q at e) (or-true (some_below n p))
    go ih (inr q) = rw (ih (omega arith) e)

pub some_same : (n : ℕ) (p q : ℕ → Bool) → ((d : ℕ) → p d ≡ q d) → some_below n p ≡ some_below n q
unfolding some_below
some_same zero p q same = refl
some_same (suc n) p q same = rw (some_same n p q same, same n)

module _ (n s : ℕ) (p : ℕ → Bool) where
  pub every_at : every n s p ≡ true → (d : ℕ) → d < n → has s d ≡ true → p d ≡ true
  unfolding every
  every_at h d l m = implies (has s d) (p d) (all_at n _ h d l) m

  pub every_of : ((d : ℕ) → d < n → has s d ≡ true → p d ≡ true) → every n s p ≡ true
  unfolding every
  every_of h = all_of n _ (λ d l. implied (has s d) (p d) (h d l))

  pub some_member : some n s p ≡ true → (d : ℕ) × (d < n) × (has s d ≡ true) × (p d ≡ true)
  unfolding some
  some_member h = let (d, l, e) = some_at n _ h in let parts = and_parts (has s d) (p d) e in (d, l, parts.0, parts.1)

  pub some_is : (d : ℕ) → d < n → has s d ≡ true → p d ≡ true → some n s p ≡ true
  unfolding some
  some_is d l m e = some_of n _ d l (rw (m, e))

  -- none, where it is not some
  pub some_not : some n s p ≡ false → (d : ℕ) → d < n → has s d ≡ true → p d ≡ false
  some_not h d l m = go (test (p d))
    where
      go : Test (p d) → p d ≡ false
      go (passes e) = clash (some_is d l m e) h
      go (fails e) = e

-- disks from n on change nothing where the set names none of them
pub some_known : (m n s : ℕ) (p : ℕ → Bool) → n ≤ m → below s n ≡ true → some m s p ≡ some n s p
some_known m n s p few known =
    same_test (some m s p) (some n s p)
    (λ e. let (d, _, member, q) = some_member m s p e in some_is n s p d ((below_members s n).0 known d member)
    member q)
    (λ e. let (d, l, member, q) = some_member n s p e in some_is m s p d (omega arith) member q)

-- ---- unions

pub has-union_below : (f : ℕ → ℕ) (x n : ℕ) → has (union_below n f) x ≡ some_below n (λ d. has (f d) x)
unfolding union_below some_below
has-union_below f x zero = has_empty x
has-union_below f x (suc n) = has-union (union_below n f) (f n) x ∙ rw (has-union_below f x n)

-- the parts of a union that is empty are
pub empty_parts : (n : ℕ) (f : ℕ → ℕ) → union_below n f ≡ 0 → (d : ℕ) → d < n → f d ≡ 0
empty_parts n f none d l = same_members (f d) 0 (λ e. go e (test (has (f d) e)))
  where
    go : (e : ℕ) → Test (has (f d) e) → has (f d) e ≡ has 0 e
    go e (fails m) = m ∙ sym (has_empty e)
    go e (passes m) =
        clash (has-union_below f e n ∙ some_of n (λ i. has (f i) e) d l m) (rw none (has_empty e))

-- a set that stands under a condition
pub has_if : (t : Bool) (s d : ℕ) → has (cond t s 0) d ≡ (t && has s d)
has_if true s d = refl
has_if false s d = has_empty d

pub has-disks_where : (n : ℕ) (p : ℕ → Bool) (d : ℕ) → has (disks_where n p) d ≡ (ltb d n && p d)
unfolding disks_where
has-disks_where n p d =
    has-union_below _ d n
    ∙ same_test (some_below n here) (ltb d n && p d)
    (λ e. let (i, l, h) = some_at n here e in found i l h)
    (λ e. let (l, q) = and_parts (ltb d n) (p d) e in some_of n here d (ltb-true d n l) (own q))
  where
    here : ℕ → Bool
    here i = has (cond (p i) (singleton i) 0) d

    found : (i : ℕ) → i < n → here i ≡ true → (ltb d n && p d) ≡ true
    found i l h =
        let (q, same) = and_parts (p i) (has (singleton i) d) (sym (has_if (p i) (singleton i) d) ∙ h) in
        rw (eqb-true d i (sym (has-singleton i d) ∙ same), lt-ltb i n l, q)

    own : p d ≡ true → here d ≡ true
    own q = has_if (p d) (singleton d) d ∙ rw (q, has-singleton d d, eq-eqb d d refl)

-- ---- what holds of each element

pub data Each {A : Type 0} (P : A → Type 0) : List A → Type 0 where
  nil : Each P []
  cons : {x : A} {xs : List A} → P x → Each P xs → Each P (x ∷ xs)

module _ {A : Type 0} {P : A → Type 0} where
  pub each_append : {xs ys : List A} → Each P xs → Each P ys → Each P (xs ++ ys)
  each_append nil q = q
  each_append (cons p ps) q = cons p (each_append ps q)

  pub each_take : {xs : List A} (k : ℕ) → Each P xs → Each P (take k xs)
  each_take zero ps = nil
  each_take (suc k) nil = nil
  each_take (suc k) (cons {x = x} {xs = xs} p ps) = cons p (each_take {xs = xs} k ps)

  pub each_if : (t : Bool) {xs : List A} → (t ≡ true → Each P xs) → Each P (cond t xs [])
  each_if true h = h refl
  each_if false h = nil

  pub each_unless : (t : Bool) {xs : List A} → (t ≡ false → Each P xs) → Each P (cond t [] xs)
  each_unless true h = nil
  each_unless false h = h refl

  pub each_ascending : (n : ℕ) (f : ℕ → List A) → ((i : ℕ) → i < n → Each P (f i)) → Each P (ascending n f)
  unfolding ascending
  each_ascending zero f h = nil
  each_ascending (suc n) f h = each_append (each_ascending n f (λ i l. h i (omega arith))) (h n (omega arith))

  pub each_member : (n s : ℕ) (f : ℕ → List A) → ((d : ℕ) → d < n → has s d ≡ true → Each P (f d))
      → Each P (for_each n s f)
  unfolding for_each
  each_member n s f h = each_ascending n _ (λ d l. each_if (has s d) (h d l))

-- ---- how a loop begins, and how long its list is

-- a loop that gives nothing before a begins with what it gives for a
module _ {A : Type 0} (f : ℕ → List A) (a : ℕ) (nothing : (i : ℕ) → i < a → f i ≡ []) where
  pub nothing_before : (i : ℕ) → i ≤ a → ascending i f ≡ []
  unfolding ascending
  nothing_before zero l = refl
  nothing_before (suc i) l = rw (nothing_before i (omega arith)) (nothing i l)

  pub begins : (n : ℕ) → a < n → (later : List A) × (ascending n f ≡ f a ++ later)
  unfolding ascending
  begins zero l = absurd (omega arith)
  begins (suc n) l = go (same_or_not a n) (begins n)
    where
      go : (a ≡ n) ⊎ (a ≢ n) → (a < n → (later : List A) × (ascending n f ≡ f a ++ later))
          → (later : List A) × (ascending n f ++ f n ≡ f a ++ later)
      go (inl e) ih = ([], rw (← e, nothing_before a (omega arith), append-nil))
      go (inr ne) ih = let (later, e) = ih (omega arith) in (later ++ f n, rw e (append_assoc (f a) later (f n)))

-- a loop over members that gives at most one element for each is no longer than the set is large
pub for_length_le : {A : Type 0} (n s : ℕ) (f : ℕ → List A) → ((d : ℕ) → length (f d) ≤ 1)
    → length (for_each n s f) ≤ length (members n s)
unfolding for_each ascending members
for_length_le zero s f h = omega arith
for_length_le (suc n) s f h =
    omega (
      arith,
      length-append (for_each n s f) (cond (has s n) (f n) []),
      length-append (members n s) (cond (has s n) (n ∷ []) []),
      one_more (has s n),
      for_length_le n s f h,
    )
  where
    one_more : (t : Bool) → length (cond t (f n) []) ≤ length (cond t (n ∷ []) [])
    one_more true = h n
    one_more false = omega arith

-- one that gives one for each is as long as the set is large
pub for_length : {A : Type 0} (n s : ℕ) (f : ℕ → A) → below s n ≡ true → length (for_each n s (λ d. f d ∷ [])) ≡ size s
unfolding for_each ascending members
for_length n s f known = as-members n ∙ sym (size_members n s ((below_pow s n).0 known))
  where
    one_more : (i : ℕ) (t : Bool) → length (cond t (f i ∷ []) []) ≡ length (cond t (i ∷ []) [])
    one_more i true = refl
    one_more i false = refl

    as-members : (i : ℕ) → length (for_each i s (λ d. f d ∷ [])) ≡ length (members i s)
    as-members zero = refl
    as-members (suc i) =
        length-append (for_each i s (λ d. f d ∷ [])) (cond (has s i) (f i ∷ []) [])
        ∙ ap₂ ◌+◌ (as-members i) (one_more i (has s i))
        ∙ sym (length-append (members i s) (cond (has s i) (i ∷ []) []))

-- nothing, for each disk of no set
pub for_none : {A : Type 0} (n : ℕ) (f : ℕ → List A) → for_each n 0 f ≡ []
unfolding for_each ascending
for_none zero f = refl
for_none (suc n) f = rw (for_none n f, has_empty n)

-- a loop that gives at most one element each time is no longer than its bound
pub ascending-length : {A : Type 0} (n : ℕ) (f : ℕ → List A) → ((d : ℕ) → length (f d) ≤ 1)
    → length (ascending n f) ≤ n
unfolding ascending
ascending-length zero f h = omega arith
ascending-length (suc n) f h =
    omega (arith, length-append (ascending n f) (f n), h n, ascending-length n f h)

pub length_if : {A : Type 0} (t : Bool) (x : A) → length (cond t (x ∷ []) []) ≤ 1
length_if true x = omega arith
length_if false x = omega arith

-- what a loop lists that gives an element under a condition
module _ {A : Type 0} (p : ℕ → Bool) (f : ℕ → A) where
  abbrev chosen : ℕ → List A
  chosen n = ascending n (λ d. cond (p d) (f d ∷ []) [])

  pub ascending_lists : (n : ℕ) (x : A) → Memᴰ x (chosen n) → (d : ℕ) × (d < n) × (p d ≡ true) × (f d ≡ x)
  unfolding ascending
  ascending_lists zero x m = absurd (Memᴰ.not-nil m)
  ascending_lists (suc n) x m = go (p n) refl (ascending_lists n x) (Memᴰ.append_cases (chosen n) m)
    where
      go : (b : Bool) → p n ≡ b → (Memᴰ x (chosen n) → (d : ℕ) × (d < n) × (p d ≡ true) × (f d ≡ x))
          → Memᴰ x (chosen n) ⊎ Memᴰ x (cond b (f n ∷ []) [])
          → (d : ℕ) × (d < suc n) × (p d ≡ true) × (f d ≡ x)
      go b e ih (inl k) = let (d, l, q, same) = ih k in (d, omega arith, q, same)
      go true e ih (inr k) = (n, omega arith, e, sym (Memᴰ.eq_of_singleton k))
      go false e ih (inr k) = absurd (Memᴰ.not-nil k)

  pub lists_ascending : (n d : ℕ) (x : A) → d < n → p d ≡ true → f d ≡ x → Memᴰ x (chosen n)
  unfolding ascending
  lists_ascending zero d x l q same = absurd (omega arith)
  lists_ascending (suc n) d x l q same = go (same_or_not d n) (lists_ascending n d x)
    where
      go : (d ≡ n) ⊎ (d ≢ n) → (d < n → p d ≡ true → f d ≡ x → Memᴰ x (chosen n))
          → Memᴰ x (chosen n ++ cond (p n) (f n ∷ []) [])
      go (inl e) ih = Memᴰ.append_right (chosen n) (rw (rw e at q) (Memᴰ.head (sym same ∙ ap f e)))
      go (inr ne) ih = Memᴰ.append_left (cond (p n) (f n ∷ []) []) (ih (omega arith) q same)

-- ---- loops that give the same

pub same_iterations : {A : Type 0} (n : ℕ) (f g : ℕ → List A) → ((i : ℕ) → i < n → f i ≡ g i)
    → ascending n f ≡ ascending n g
unfolding ascending
same_iterations zero f g same = refl
same_iterations (suc n) f g same = rw (same_iterations n f g (λ i l. same i (omega arith)), same n (omega arith))

-- a loop that gives nothing from m on
pub until : {A : Type 0} (n m : ℕ) (f : ℕ → List A)
    → ascending n (λ i. cond (ltb i m) (f i) []) ≡ ascending (cond (ltb m n) m n) f
unfolding ascending
until zero m f = rw (le-ltb m 0 (omega arith))
until (suc n) m f = rw (until n m f) (go (test (ltb n m)))
  where
    least : (t : Bool) → ltb m n ≡ t → m ≤ n → cond t m n ≡ m
    least true e l = refl
    least false e l = omega (arith, ltb-false m n e)

    go : Test (ltb n m)
        → ascending (cond (ltb m n) m n) f ++ cond (ltb n m) (f n) [] ≡ ascending (cond (ltb m (suc n)) m (suc n)) f
    go (passes e) = let l = ltb-true n m e in rw (e, le-ltb m n (omega arith), le-ltb m (suc n) (omega arith))
    go (fails e) =
        let l : m ≤ n = ltb-false n m e in
        rw (e, lt-ltb m (suc n) (omega arith)) (append-nil _ ∙ ap (λ i. ascending i f) (least (ltb m n) refl l))

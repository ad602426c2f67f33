-- Going along a list, and from stage to stage: what was found. Assumes nothing.
use mathlib.Core.Path.{◌≡◌, refl, ap}
use mathlib.Core.Logic.{◌≢◌}
use mathlib.Core.Bool.{Bool, true, false, cond}
use mathlib.Core.List.{List, [], ◌∷◌, ◌++◌, append-nil}
use Prim.Native.Nat.{ℕ, ◌+◌, ◌≤◌, ◌<◌}
use native.Mathlib.Omega.{arith}
use lib.ListN.{length, get_or}
use Rattle.std.proofs.Common.{take}
use Rattle.std.proofs.lemmas.List.{take_more}
use Rattle.std.specs.Prelude.{Result, Ok, Err}
use Rattle.label.specs.declared.Label.{Label}
use Rattle.protocol.specs.Geometry.{most_disks}
use Rattle.protocol.specs.Loops.{union_below}
use Rattle.protocol.specs.States.{tentative_at}
use Rattle.protocol.specs.Naming.{Stage, first, second, Found, none, candidate, found_in, or_later}
use Rattle.protocol.specs.Finder.{tried, passing, found_among, among}
use Rattle.protocol.proofs.Loops.{empty_parts}
use Rattle.protocol.proofs.Finder.{passing_append, nothing_listed}
use Rattle.naming.specs.declared.Unnamed.{Unnamed}
use Rattle.naming.specs.declared.Unnamed.TheVariants.{Nothing, Several}
use Rattle.naming.specs.Meaning.{found_of}
use Rattle.finder.specs.Found.{another}

-- ---- one set more

pub found_more : (xs : List ℕ) (x : ℕ) → found_in (xs ++ x ∷ []) ≡ another (found_in xs) x
unfolding found_in another
found_more [] x = refl
found_more (y ∷ []) x = refl
found_more (y ∷ z ∷ xs) x = refl

-- what is found along a list: among none of its sets, and among one more
module _ (stage : Stage) (n online : ℕ) (labels : List Label) where
  pub found_none : found_among stage n online labels [] ≡ none
  unfolding found_among passing found_in
  found_none = refl

  pub found_next : (xs : List ℕ) (i : ℕ) → i < length xs
      → found_among stage n online labels (take (i + 1) xs)
      ≡ cond (candidate stage n online labels (get_or xs i 0))
      (another (found_among stage n online labels (take i xs)) (get_or xs i 0))
      (found_among stage n online labels (take i xs))
  unfolding found_among passing
  found_next xs i l =
      rw (take_more xs i 0 l, passing_append p (take i xs) (get_or xs i 0 ∷ [])) (go (p (get_or xs i 0)))
    where
      p : ℕ → Bool
      p = candidate stage n online labels

      go : (t : Bool) → found_in (passing p (take i xs) ++ cond t (get_or xs i 0 ∷ []) [])
          ≡ cond t (another (found_in (passing p (take i xs))) (get_or xs i 0)) (found_in (passing p (take i xs)))
      go true = found_more (passing p (take i xs)) (get_or xs i 0)
      go false = ap found_in (append-nil (passing p (take i xs)))

-- ---- stages one after the other

pub found_here : (r : Result ℕ Unnamed) (later : Found) → r ≢ Err Nothing → or_later (found_of r) later ≡ found_of r
unfolding or_later
found_here (Ok x) later decided = refl
found_here (Err Nothing) later decided = absurd (decided refl)
found_here (Err Several) later decided = refl

pub found_later : (r : Result ℕ Unnamed) (later : Found) → r ≡ Err Nothing → or_later (found_of r) later ≡ later
unfolding or_later
found_later r later nothing = rw nothing

-- where no label has a T, the first two stages have nothing to test
pub nothing_proposed : (n online : ℕ) (labels : List Label) (later : Found) → n ≤ most_disks
    → union_below most_disks (tentative_at labels) ≡ 0
    → or_later (among first n online labels) (or_later (among second n online labels) later) ≡ later
unfolding tried or_later
nothing_proposed n online labels later fit none_in =
    rw (nothing_listed first n online labels empty, nothing_listed second n online labels empty)
  where
    empty : (d : ℕ) → d < n → tentative_at labels d ≡ 0
    empty d l = empty_parts most_disks (tentative_at labels) none_in d (omega arith)

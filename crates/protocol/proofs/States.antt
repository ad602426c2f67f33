-- The parts of a state that have a name: the copy source of a set, the live set, and labels filled up with blank ones.
-- Assumes nothing.
use mathlib.Core.Path.{◌≡◌, refl, sym, ◌∙◌}
use mathlib.Core.Bool.{true, false, and-false}
use mathlib.Core.List.{List, [], ◌∷◌, ◌++◌}
use Prim.Native.Nat.{ℕ, zero, suc, ◌-◌, ◌≤◌, ◌<◌}
use native.Mathlib.Nat.{add-sub_of_le}
use lib.ListN.{length, get_or, replicate, length-append, length-replicate}
use Rattle.sets.specs.Sets.{has, below}
use Rattle.sets.proofs.Tests.{and_parts}
use Rattle.sets.proofs.Operations.{has-intersection}
use Rattle.sets.proofs.Bounds.{member_below, below_pow}
use Rattle.sets.proofs.LowestMember.{lowest-has}
use Rattle.label.specs.declared.Label.{Label}
use Rattle.label.specs.Bytes.{blank}
use Rattle.protocol.specs.declared.State.{State}
use Rattle.protocol.specs.Geometry.{most_disks}
use Rattle.protocol.specs.States.{label_at, filled_up, current_of, live, source}

-- the copy source of a set is a member of it
pub source_has : (x : ℕ) → 0 < x → has x (source x) ≡ true
unfolding source
source_has = lowest-has

-- so it is below n
pub source_known : (n set : ℕ) → 0 < set → below set n ≡ true → source set < n
source_known n set filled known = member_below set n (source set) ((below_pow set n).0 known) (source_has set filled)

-- what is live are members of the current set, and in reach
module _ (s : State) (d : ℕ) (m : has (live s) d ≡ true) where
  live_both : (has (current_of s.power) d ≡ true) × (has s.online d ≡ true)
  live_both = and_parts _ (has s.online d) (sym (has-intersection (current_of s.power) s.online d) ∙ m)

  pub live_inside : has (current_of s.power) d ≡ true
  live_inside = live_both.0

  pub live_in_reach : has s.online d ≡ true
  live_in_reach = live_both.1

-- a disk out of reach is not live
pub not_live : (s : State) (d : ℕ) → has s.online d ≡ false → has (live s) d ≡ false
not_live s d away =
    has-intersection (current_of s.power) s.online d ∙ rw away (and-false (has (current_of s.power) d))

-- labels that are filled up read as before: past its end a list has blank ones
pub filled_up_lem : (n : ℕ) (labels : List Label) (d : ℕ) → label_at (filled_up n labels) d ≡ label_at labels d
filled_up_lem n labels = go labels (most_disks - n)
  where
    go : (labels : List Label) (k d : ℕ) → get_or (labels ++ replicate k blank) d blank ≡ get_or labels d blank
    go [] zero d = refl
    go [] (suc k) zero = refl
    go [] (suc k) (suc d) = go [] k d
    go (l ∷ labels) k zero = refl
    go (l ∷ labels) k (suc d) = go labels k d

-- the labels of n disks fill the array
pub filled_up-length : (n : ℕ) (labels : List Label) → length labels ≡ n → n ≤ most_disks
    → length (filled_up n labels) ≡ most_disks
filled_up-length n labels e h = simp (length-append, length-replicate, e) (add-sub_of_le h)

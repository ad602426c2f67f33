-- "A write makes at most 4 times as many stores as L has disks." Assumes nothing.
use mathlib.Core.Bool.{Bool, true, false, cond}
use mathlib.Core.List.{List, [], ◌∷◌, ◌++◌}
use Prim.Native.Nat.{ℕ, ◌+◌, ◌*◌, ◌≤◌}
use native.Mathlib.Omega.{arith}
use lib.Dec.{eqb}
use lib.ListN.{length, length-append}
use Rattle.sets.specs.Sets.{size, members}
use Rattle.sets.proofs.Bounds.{below_pow}
use Rattle.sets.proofs.Cardinality.{size_members}
use Rattle.label.specs.declared.Label.{Label}
use Rattle.protocol.specs.declared.State.{State}
use Rattle.protocol.specs.Geometry.{region_of}
use Rattle.protocol.specs.States.{is_dirty, current_of, live}
use Rattle.protocol.specs.Soundness.{Sound}
use Rattle.protocol.specs.Stores.{mark, propose, commit}
use Rattle.protocol.specs.Lists.{proposals, commits, move, move_to_live, marks}
use Rattle.protocol.specs.Lists.{block_stores, preparations, write_list}
use Rattle.protocol.specs.Calls.{block_refusals, write_outcome}
use Rattle.protocol.specs.Claims.{WriteBound, ReportedBound}
use Rattle.protocol.proofs.Loops.{for_length_le}
use Rattle.protocol.proofs.Soundness.{live_known}
use Rattle.protocol.proofs.Outcomes.{refused_cut_or_whole}
use Rattle.protocol.proofs.NotRefused.{block_passed}

-- each part of the list has at most one store for each member, and a move has two parts
module _ (s : State) where
  abbrev n : ℕ
  n = s.disks

  abbrev l : ℕ
  l = live s

  abbrev most : ℕ
  most = length (members n l)

  move_most : length (move_to_live s) ≤ most + most
  unfolding move_to_live move proposals commits
  move_most = go (eqb l (current_of s.power))
    where
      go : (t : Bool) → length (cond t [] (proposals n l ++ commits n l)) ≤ most + most
      go true = omega arith
      go false = omega (
        arith,
        length-append (proposals n l) (commits n l),
        for_length_le n l (λ d. propose d l ∷ []) (λ d. omega arith),
        for_length_le n l (λ d. commit d l ∷ []) (λ d. omega arith),
      )

  marks_most : (labels : List Label) (r : ℕ) → length (marks n labels l r) ≤ most
  unfolding marks
  marks_most labels r = for_length_le n l _ (λ d. go (is_dirty labels d r) d)
    where
      go : (t : Bool) (d : ℕ) → length (cond t [] (mark d r ∷ [])) ≤ 1
      go true d = omega arith
      go false d = omega arith

  blocks_most : (k : ℕ) (bytes : List ℕ) → length (block_stores n l k bytes) ≤ most
  unfolding block_stores
  blocks_most k bytes = for_length_le n l _ (λ d. omega arith)

  list_most : (k : ℕ) (bytes : List ℕ) → Sound s → length (write_list s k bytes) ≤ 4 * size l
  unfolding write_list preparations
  list_most k bytes fit =
      let m = marks n s.labels l (region_of k) in
      omega (
        arith,
        size_members n l ((below_pow l n).0 (live_known s fit)),
        length-append (move_to_live s ++ m) (block_stores n l k bytes),
        length-append (move_to_live s) m,
        move_most,
        marks_most s.labels (region_of k),
        blocks_most k bytes,
      )

pub write_bound : WriteBound
write_bound s k bytes fit = list_most s k bytes fit

pub reported_bound : ReportedBound
unfolding write_outcome
reported_bound s area output k bytes budget =
    refused_cut_or_whole (write_list s k bytes) budget s area output _ (block_refusals s area k bytes)
    (λ o. o.answer.stores ≤ size (live s) * 4) (λ ne. omega arith)
    (λ e i. omega (arith, i, list_most s k bytes (block_passed s area k bytes e).fit))
    (λ e i. omega (arith, list_most s k bytes (block_passed s area k bytes e).fit))

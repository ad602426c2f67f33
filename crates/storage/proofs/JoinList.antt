-- A join's list, as code makes it: the moves, and between them the copies. Assumes nothing.
use mathlib.Core.Path.{◌≡◌}
use mathlib.Core.List.{[], ◌∷◌, ◌++◌}
use Prim.Native.Nat.{ℕ, ◌+◌}
use native.Mathlib.Omega.{arith}
use lib.ListN.{length, length-append}
use Rattle.sets.specs.Sets.{union, singleton}
use Rattle.protocol.specs.declared.State.{State}
use Rattle.protocol.specs.Loops.{ascending}
use Rattle.protocol.specs.States.{live, source}
use Rattle.protocol.specs.Stores.{copy}
use Rattle.protocol.specs.Lists.{move, move_to_live, fill, join_list}
use Rattle.protocol.proofs.Iterations.{listed-length}
use Rattle.budget.specs.Runs.{Progress, run_all}
use Rattle.budget.proofs.Runs.{in_sequence}

module _ (s : State) (d : ℕ) where
  pub join_ran : (p : Progress) {q r t : Progress}
      → q ≡ run_all s.blocks (move_to_live s) p
      → r ≡ run_all s.blocks (ascending s.blocks (λ k. copy (source (live s)) d k ∷ [])) q
      → t ≡ run_all s.blocks (move s.disks (union (live s) (singleton d))) r
      → t ≡ run_all s.blocks (join_list s d) p
  unfolding join_list fill
  join_ran p {q} first second third =
      in_sequence s.blocks _ _ p first (in_sequence s.blocks (fill s.blocks (live s) d) _ q second third)

  pub join_length : length (join_list s d)
      ≡ length (move_to_live s) + s.blocks + length (move s.disks (union (live s) (singleton d)))
  unfolding join_list fill
  join_length =
      let filled = fill s.blocks (live s) d in
      let last = move s.disks (union (live s) (singleton d)) in
      omega (
        arith,
        length-append (move_to_live s) (filled ++ last),
        length-append filled last,
        listed-length (λ k. copy (source (live s)) d k) s.blocks,
      )

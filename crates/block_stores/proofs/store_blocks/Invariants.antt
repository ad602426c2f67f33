use mathlib.Core.Path.{◌≡◌}
use mathlib.Core.List.{[], ◌∷◌}
use lib.ListN.{length}
use Rattle.protocol.specs.Stores.{write}
use Rattle.protocol.specs.Loops.{for_each}
use Rattle.budget.specs.Runs.{progress, run_all}
use Rattle.block_stores.proofs.store_blocks.Given as goal

abbrev pub invariant-loop-d : goal.invariant-loop-d
invariant-loop-d l =
    (length l.area ≡ length l.initial.area)
    × (progress l.run l.area ≡ run_all l.size.blocks (for_each l.d l.set (λ e. write e l.k l.bytes ∷ []))
    (progress l.initial.run l.initial.area))

use mathlib.Core.Path.{◌≡◌}
use mathlib.Core.List.{[], ◌∷◌}
use lib.ListN.{length}
use Rattle.protocol.specs.Loops.{ascending}
use Rattle.protocol.specs.Stores.{copy}
use Rattle.budget.specs.Runs.{progress, run_all}
use Rattle.block_stores.proofs.copy_disk.Given as goal

abbrev pub invariant-loop-k : goal.invariant-loop-k
invariant-loop-k l =
    (length l.area ≡ length l.initial.area)
    × (progress l.run l.area ≡ run_all l.blocks (ascending l.k (λ j. copy l.from l.to j ∷ []))
    (progress l.initial.run l.initial.area))

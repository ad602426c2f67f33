use mathlib.Core.Path.{◌≡◌}
use mathlib.Core.List.{[], ◌∷◌}
use Prim.Native.Nat.{◌+◌}
use lib.ListN.{length}
use Rattle.protocol.specs.Loops.{ascending, for_each}
use Rattle.protocol.specs.Stores.{copy}
use Rattle.budget.specs.Runs.{progress, run_all}
use Rattle.block_stores.proofs.copy_blocks.Given as goal

abbrev pub invariant-loop-i : goal.invariant-loop-i
invariant-loop-i l =
    (length l.area ≡ length l.initial.area)
    × (progress l.run l.area
    ≡ run_all l.size.blocks (ascending l.i (λ j. for_each l.size.disks l.set (λ d. copy l.from d (l.first + j) ∷ [])))
    (progress l.initial.run l.initial.area))

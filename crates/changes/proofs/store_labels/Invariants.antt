use mathlib.Core.Path.{◌≡◌}
use mathlib.Core.List.{List, [], ◌∷◌}
use Prim.Native.Nat.{ℕ}
use Rattle.protocol.specs.Loops.{for_each}
use Rattle.budget.specs.Runs.{progress, run_all}
use Rattle.changes.specs.Changes.{change_on}
use Rattle.changes.proofs.store_labels.Given as goal

abbrev pub invariant-loop-d : goal.invariant-loop-d
invariant-loop-d l =
    (b : ℕ) (area : List ℕ) → progress (record { labels = l.labels; left = l.left }) area
    ≡ run_all b (for_each l.d l.set (λ e. change_on l.change e ∷ []))
    (progress (record { labels = l.initial.labels; left = l.initial.left }) area)

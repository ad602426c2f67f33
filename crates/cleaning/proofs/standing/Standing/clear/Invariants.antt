use mathlib.Core.Path.{◌≡◌}
use mathlib.Core.List.{List}
use Prim.Native.Nat.{ℕ}
use Rattle.protocol.specs.Loops.{ascending}
use Rattle.budget.specs.Runs.{progress, run_all}
use Rattle.cleaning.specs.Clearing.{clears_of}
use Rattle.cleaning.proofs.standing.Standing.clear.Given as goal

abbrev pub invariant-loop-r : goal.invariant-loop-r
invariant-loop-r l =
    let v = l.self in
    (b : ℕ) (area : List ℕ) → progress l.run area
    ≡ run_all b (ascending l.r (clears_of v.disks v.labels v.set)) (progress l.initial.run area)

use mathlib.Core.Path.{◌≡◌}
use Prim.Native.Nat.{◌≤◌}
use Rattle.protocol.specs.Finder.{shortlist}
use Rattle.finder.specs.Stages.{stage_of}
use Rattle.finder.specs.SetLists.{listed}
use Rattle.finder.proofs.View.shortlist.Given as goal

abbrev pub invariant-loop-d : goal.invariant-loop-d
invariant-loop-d l =
    (l.list.count ≤ l.d) × (listed l.list ≡ shortlist (stage_of l.stage) l.d l.self.labels)

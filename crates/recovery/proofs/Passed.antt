-- What a restart that is not refused knows, before its first store. Assumes nothing.
use mathlib.Core.Path.{◌≡◌}
use mathlib.Core.Bool.{true}
use mathlib.Core.List.{List}
use Prim.Native.Nat.{ℕ, ◌<◌}
use Rattle.sets.specs.Sets.{below}
use Rattle.sets.proofs.Bounds.{below_inside}
use Rattle.refusals.specs.Refusals.{first_of}
use Rattle.protocol.specs.declared.State.{State}
use Rattle.protocol.specs.Naming.{the_set, found_by}
use Rattle.protocol.specs.Calls.{restart_refusals}
use Rattle.protocol.proofs.NotRefused.{restart_passed}
use Rattle.budget.specs.Sizes.{SoundCabinet}

pub restart_fits : (s : State) (area : List ℕ) → first_of (restart_refusals s area) ≡ 0
    → SoundCabinet s area × (0 < the_set (found_by s)) × (below (the_set (found_by s)) s.disks ≡ true)
restart_fits s area e =
    let pass = restart_passed s area e in
    let (stage, candidate) = pass.is_candidate in (
      record { fit = pass.fit; size = pass.size },
      candidate.filled,
      below_inside (the_set (found_by s)) s.online s.disks candidate.inside pass.fit.online,
    )

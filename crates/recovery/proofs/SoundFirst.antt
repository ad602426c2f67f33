-- An unsound state is refused before anything is asked of what its labels name. Assumes nothing.
use mathlib.Core.Path.{◌≡◌}
use mathlib.Core.Bool.{true}
use mathlib.Core.List.{List}
use Prim.Native.Nat.{ℕ}
use Rattle.sets.proofs.Tests.{Test, passes, fails, test}
use Rattle.refusals.specs.Refusals.{first_of}
use Rattle.protocol.specs.declared.State.{State}
use Rattle.protocol.specs.Soundness.{sound}
use Rattle.protocol.specs.Naming.{Found, found_by}
use Rattle.protocol.specs.Calls.{refusals_finding, restart_refusals}

pub sound_first : (s : State) (area : List ℕ) (found : Found) → (sound s ≡ true → found ≡ found_by s)
    → first_of (refusals_finding s area found) ≡ first_of (restart_refusals s area)
unfolding restart_refusals first_of
sound_first s area found same = go (test (sound s))
  where
    go : Test (sound s) → first_of (refusals_finding s area found) ≡ first_of (refusals_finding s area (found_by s))
    go (passes e) = rw (same e)
    go (fails e) = rw e

-- An area that loops over blocks may go through. Assumes nothing.
use mathlib.Core.Path.{◌≡◌, ◌∙◌}
use mathlib.Core.List.{List}
use Prim.Native.Nat.{ℕ}
use lib.ListN.{length}
use Rattle.protocol.specs.declared.State.{State}
use Rattle.budget.specs.Sizes.{Fits, SoundCabinet}

-- that of a sound state
pub sound-fits : {s : State} {area : List ℕ} → SoundCabinet s area → Fits s.disks s.blocks area
sound-fits cabinet =
    record { disks = cabinet.fit.range.disks; blocks = cabinet.fit.range.blocks; size = cabinet.size }

-- stores leave an area as long as it was
pub still_fits : {n b : ℕ} {area now : List ℕ} → Fits n b area → length now ≡ length area → Fits n b now
still_fits fits same = record { disks = fits.disks; blocks = fits.blocks; size = same ∙ fits.size }

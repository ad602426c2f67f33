-- What a program outside sees of a call, from what the call yields; and that each state has one writing. Assumes
-- nothing.
use mathlib.Core.Path.{◌≡◌, refl}
use mathlib.Core.Bool.{cond}
use mathlib.Core.List.{List}
use Prim.Native.Nat.{ℕ}
use native.Mathlib.Omega.{arith}
use lib.Dec.{eqb}
use borrow.Author.Tests.{eqb-true, ne_eqb}
use Rattle.sets.proofs.Tests.{Test, passes, fails, test}
use Rattle.label.specs.declared.Label.{Label}
use Rattle.protocol.specs.declared.Power.{Power}
use Rattle.protocol.specs.declared.Power.TheVariants.{Stopped, Running}
use Rattle.protocol.specs.States.{current_of}
use Rattle.protocol.specs.Soundness.{FitPower}
use Rattle.protocol.proofs.Diagnoses.{changes_nothing}
use Rattle.flat.specs.Flat.{power_of, opened, flat_state, flat_answer, flat_outcome}
use Rattle.flat.specs.Flat.{flat_diagnosis, DiagnosisIsCall, OpenedIsWritten, SoundIsWritten}

current_written : (g : ℕ) → current_of (power_of g) ≡ g
unfolding power_of
current_written g = go (test (eqb g 0))
  where
    go : Test (eqb g 0) → current_of (cond (eqb g 0) Stopped (Running g)) ≡ g
    go (passes e) = rw (e, eqb-true g 0 e)
    go (fails e) = rw e

pub opened_is_written : OpenedIsWritten
unfolding flat_state opened
opened_is_written f = rw (current_written f.current)

pub diagnosis_is_call : DiagnosisIsCall
unfolding flat_outcome flat_answer flat_diagnosis
diagnosis_is_call f area output stage d = rw (changes_nothing (opened f) area output stage d, opened_is_written f)

power_written : (n : ℕ) (labels : List Label) (p : Power) → FitPower n labels p → power_of (current_of p) ≡ p
unfolding power_of
power_written n labels Stopped h = refl
power_written n labels (Running g) h = rw (ne_eqb g 0 (λ e. omega (arith, h.filled)))

pub sound_is_written : SoundIsWritten
unfolding flat_state opened
sound_is_written s h = rw (power_written s.disks s.labels s.power h.power)

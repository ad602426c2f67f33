-- Lose and cut where they have no effect, and a disk that comes back. Assumes nothing.
use mathlib.Core.Path.{◌≡◌, refl, ap, ◌∙◌}
use mathlib.Core.Bool.{true, or-true}
use mathlib.Core.List.{List}
use Prim.Native.Nat.{ℕ, ◌<◌}
use borrow.Author.Tests.{eq-eqb, lt-ltb}
use Rattle.sets.specs.Sets.{has, difference, singleton}
use Rattle.sets.proofs.Operations.{has-intersection, has_without, without_outsider, put_back}
use Rattle.sets.proofs.Bounds.{below-difference}
use Rattle.refusals.specs.Refusals.{first_of}
use Rattle.protocol.specs.declared.State.{State}
use Rattle.protocol.specs.States.{with_online, current_of}
use Rattle.protocol.specs.Soundness.{Sound}
use Rattle.protocol.specs.Outcomes.{outcome, refused_or}
use Rattle.protocol.specs.Calls.{reach_refusals, detach_outcome, power_off_outcome}
use Rattle.protocol.specs.ReachClaims.{LostStays, StoppedStays, CurrentAgain, LossUndone}
use Rattle.protocol.proofs.Soundness.{test_agrees}
use Rattle.protocol.proofs.Saving.{stored_read}
use Rattle.protocol.proofs.Returns.{own_taken, returns_shown}

module _ (s : State) (area output : List ℕ) (d : ℕ) (fit : Sound s) (known : d < s.disks) where
  abbrev lost : State
  lost = with_online s (difference s.online (singleton d))

  detached : detach_outcome s area output d ≡ outcome 0 0 lost area output
  unfolding detach_outcome refused_or reach_refusals first_of
  detached = rw ((test_agrees s).1 fit, lt-ltb _ _ known)

  lost-sound : Sound lost
  lost-sound = record {
    range = fit.range;
    online = below-difference s.online (singleton d) s.disks fit.online;
    labels = fit.labels;
    power = fit.power;
  }

pub lost_stays : LostStays
lost_stays s area output d fit known away =
    detached s area output d fit known
    ∙ ap (λ online. outcome 0 0 (with_online s online) area output) (without_outsider s.online d away)

pub stopped_stays : StoppedStays
unfolding power_off_outcome refused_or first_of
stopped_stays s area output fit off = rw ((test_agrees s).1 fit, ← off)

pub current_again : CurrentAgain
current_again s area output d bytes g runs member z =
    let (online, is, members) = (returns_shown s area output d bytes).back z in
    let back : has online d ≡ true = members d ∙ rw (eq-eqb d d refl) (or-true (has s.online d)) in
    let inside : has (current_of s.power) d ≡ true = ap (λ p. has (current_of p) d) runs ∙ member in
    rw is (runs, has-intersection (current_of s.power) online d ∙ rw (inside, back))

pub loss_undone : LossUndone
loss_undone s area output d rest fit known near =
    let away = lost s area output d fit known in
    let sound = lost-sound s area output d fit known in
    rw (detached s area output d fit known) (
      refl,
      has_without s.online d,
      own_taken away area output d sound known (has_without s.online d) d s.disks _ _ _
          (stored_read away sound d known rest) refl refl refl
          ∙ ap (λ online. outcome 0 0 (with_online s online) area output) (put_back s.online d near),
    )

-- What the calls preserve that make no store: detach, attach, power off and diagnose. Assumes nothing.
use mathlib.Core.Path.{◌≡◌, refl}
use mathlib.Core.Logic.{◌≢◌}
use mathlib.Core.Bool.{Bool, true, false, cond}
use mathlib.Core.List.{List, []}
use Prim.Native.Nat.{ℕ, zero, suc}
use native.Mathlib.Omega.{arith}
use lib.Dec.{eqb, lit<, eqb-suc-zero}
use lib.ListN.{length}
use borrow.Author.Tests.{ne_eqb}
use Rattle.sets.specs.Sets.{below}
use Rattle.sets.proofs.Bounds.{below-difference, below_with}
use Rattle.label.specs.declared.Label.{Label}
use Rattle.label.specs.declared.Reading.{Reading}
use Rattle.label.specs.Reading.{read_refusals, read_refusal, refused, judged, reading}
use Rattle.protocol.specs.declared.Power.TheVariants.{Stopped}
use Rattle.protocol.specs.declared.State.{State}
use Rattle.protocol.specs.Geometry.{label_form}
use Rattle.protocol.specs.States.{with_online}
use Rattle.protocol.specs.Bays.{bay_refusals}
use Rattle.protocol.specs.Outcomes.{outcome, disks_of}
use Rattle.protocol.specs.Calls.{reach_refusals, detach_outcome, power_off_outcome}
use Rattle.protocol.specs.Calls.{shown_refusals, unseen, attach_refusals, attach_outcome}
use Rattle.protocol.specs.Diagnosis.{diagnose_refusals, diagnose_outcome}
use Rattle.protocol.specs.History.{Cabinet}
use Rattle.protocol.specs.Reference.{after_writes}
use Rattle.protocol.proofs.Refusals.{lacks, not_given}
use Rattle.protocol.proofs.NotRefused.{reach_passed, attach_passed}
use Rattle.protocol.proofs.Consistency.{held_restartable}
use Rattle.protocol.proofs.Preservation.{Preserves, fit_before, still_proper, ends_with, unless_refused}

-- no refusal of a label has the number 1
reader_lacks : (len map d n : ℕ) (l : Label) → eqb (judged label_form len map d n l).refusal 1 ≡ false
unfolding judged read_refusal read_refusals
reader_lacks len map d n l =
    ne_eqb _ 1 (other _ _ refl (not_given 1 (lit< tt) (read_refusals label_form len map d n l) refl))
  where
    other : (refusal : ℕ) (r : Reading) → r.refusal ≡ 0 → refusal ≢ 1
        → (cond (eqb refusal 0) r (refused refusal)).refusal ≢ 1
    other zero r none ne z = omega (arith, none, z)
    other (suc refusal) r none ne z = ne (rw (eqb-suc-zero refusal) at z)

-- nor has any of what a disk shows, whether it is looked at or not
shown_lacks : (s : State) (d : ℕ) (bytes : List ℕ) (unseen : Bool)
    → lacks 1 (cond unseen [] (shown_refusals s d bytes)) ≡ true
unfolding shown_refusals bay_refusals reading
shown_lacks s d bytes true = refl
shown_lacks s d bytes false = rw (reader_lacks (length bytes) _ _ _ _)

module _ (c : Cabinet) (output : List ℕ) where
  abbrev s : State
  s = c.state

  pub diagnose_preserves : (stage d : ℕ) → Preserves c [] (diagnose_outcome s c.area output stage d)
  unfolding diagnose_outcome diagnose_refusals after_writes
  diagnose_preserves stage d =
      unless_refused c [] _ output _ refl (λ ne. refl)
      (λ e. ends_with c [] 0 0 (disks_of s c.area) s.online s.power output (λ z. omega arith) (λ p. p)
      (λ contents h. h.held))

  -- another reach
  reaches : (online : ℕ) → below online s.disks ≡ true
      → Preserves c [] (outcome 0 0 (with_online s online) c.area output)
  unfolding after_writes
  reaches online known =
      ends_with c [] 0 0 (disks_of s c.area) online s.power output (λ z. omega arith)
      (λ p. still_proper c p _ online s.power (fit_before c p) known p.fit.power) (λ contents h. h.held)

  pub detach_preserves : (d : ℕ) → Preserves c [] (detach_outcome s c.area output d)
  unfolding detach_outcome reach_refusals
  detach_preserves d =
      unless_refused c [] _ output _ refl (λ ne. refl)
      (λ e. reaches _ (below-difference _ _ _ (reach_passed s d e).fit.online))

  pub attach_preserves : (d : ℕ) (bytes : List ℕ) → Preserves c [] (attach_outcome s c.area output d bytes)
  unfolding attach_outcome attach_refusals reach_refusals
  attach_preserves d bytes =
      unless_refused c [] _ output _ (shown_lacks s d bytes (unseen s d)) (λ ne. refl)
      (λ e. let pass = attach_passed s d bytes e in reaches _ (below_with _ d _ pass.fit.online pass.known))

  pub power_off_preserves : Preserves c [] (power_off_outcome s c.area output)
  unfolding power_off_outcome after_writes
  power_off_preserves =
      unless_refused c [] _ output _ refl (λ ne. refl)
      (λ e. ends_with c [] 0 0 (disks_of s c.area) s.online Stopped output (λ z. omega arith)
      (λ p. still_proper c p _ s.online Stopped (fit_before c p) p.fit.online tt)
      (λ contents h. held_restartable _ _ contents _ s.power h.held))

-- What a lose or a return that is not refused knows of its number, and in which order a return is refused. Assumes
-- nothing.
use mathlib.Core.Path.{◌≡◌}
use mathlib.Core.Bool.{not, cond}
use mathlib.Core.List.{List, []}
use Prim.Native.Nat.{ℕ, ◌<◌}
use native.Mathlib.Omega.{arith}
use lib.Dec.{eqb, lit<}
use Rattle.sets.specs.Sets.{has}
use Rattle.label.specs.Comparing.{same_label}
use Rattle.label.specs.Reading.{reading}
use Rattle.refusals.specs.Refusals.{first_of}
use Rattle.protocol.specs.declared.State.{State}
use Rattle.protocol.specs.Geometry.{label_form, most_disks}
use Rattle.protocol.specs.States.{label_at}
use Rattle.protocol.specs.Bays.{bay_refusals}
use Rattle.protocol.specs.Calls.{reach_refusals, shown_refusals, attach_refusals}
use Rattle.protocol.proofs.Loops.{nil, cons}
use Rattle.protocol.proofs.Refusals.{in_a_row}
use Rattle.protocol.proofs.NotRefused.{ReachPassed, reach_passed, attach_passed}
use Rattle.protocol.proofs.Assembling.{bay_numbered}

-- ---- the disk is one of the cabinet's

below_most : {s : State} {d : ℕ} → ReachPassed s d → d < most_disks
below_most pass = omega (arith, pass.known, pass.fit.range.disks)

pub disk_known : (s : State) (d : ℕ) → first_of (reach_refusals s d) ≡ 0 → d < most_disks
disk_known s d e = below_most (reach_passed s d e)

pub attached_known : (s : State) (d : ℕ) (bytes : List ℕ) → first_of (attach_refusals s d bytes) ≡ 0 → d < most_disks
attached_known s d bytes e = below_most (attach_passed s d bytes e)

-- ---- first 1 and 8, then, of a disk out of reach, what it shows

module _ (s : State) (d : ℕ) (bytes : List ℕ) where
  pub in_order : first_of (attach_refusals s d bytes)
      ≡ cond (eqb (first_of (reach_refusals s d)) 0)
      (first_of (cond (has s.online d) [] (shown_refusals s d bytes))) (first_of (reach_refusals s d))
  unfolding attach_refusals reach_refusals
  in_order = in_a_row _ (cons (λ z. lit< tt) (cons (λ z. lit< tt) nil))

  -- the label is held against its bay, and then against the stored one
  pub shown_in_order : first_of (shown_refusals s d bytes)
      ≡ let shown = reading label_form bytes in
      let bay = first_of (bay_refusals d s.disks s.blocks shown) in
      cond (eqb bay 0) (cond (not (same_label shown.label (label_at s.labels d))) 25 0) bay
  unfolding shown_refusals first_of
  shown_in_order = in_a_row _ (bay_numbered d s.disks s.blocks (reading label_form bytes))

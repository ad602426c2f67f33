-- A swap, cut anywhere, leaves disks that a restart can take up, the old disk among them. Whole, it leaves a blank disk
-- in its place, and disks that run with L, or with G where the disk was not in it. Assumes nothing.
use mathlib.Core.Path.{◌≡◌, refl, ◌∙◌}
use mathlib.Core.Bool.{true, false}
use mathlib.Core.List.{List, []}
use Prim.Native.Nat.{ℕ}
use native.Mathlib.Omega.{arith}
use Rattle.sets.specs.Sets.{has}
use Rattle.sets.proofs.Tests.{Test, passes, fails, test}
use Rattle.protocol.specs.declared.Power.TheVariants.{Running}
use Rattle.protocol.specs.declared.State.{State}
use Rattle.protocol.specs.States.{current_of, live}
use Rattle.protocol.specs.Soundness.{Proper, FitCurrent}
use Rattle.protocol.specs.Stores.{Disks, Store, apply_all}
use Rattle.protocol.specs.Lists.{move, swap_list}
use Rattle.protocol.specs.Outcomes.{disks_of, carry_out}
use Rattle.protocol.specs.Calls.{swap_refusals, swap_power, with_blank_disk, swaps_in, swap_outcome}
use Rattle.protocol.specs.History.{Cabinet}
use Rattle.protocol.specs.Reference.{Contents, after_writes}
use Rattle.protocol.proofs.Loops.{Each, nil}
use Rattle.protocol.proofs.Stores.{keeps, along_nil}
use Rattle.protocol.proofs.States.{not_live}
use Rattle.protocol.proofs.Consistency.{Consistent, InSync, Restartable, sync_restartable, sync_blanks}
use Rattle.protocol.proofs.Consistency.{held_in_sync}
use Rattle.protocol.proofs.FitStores.{FitDisks, KeepsFit, fit_blank, blank_current}
use Rattle.protocol.proofs.LiveMoves.{move-fits, moved_current, moved_cut, moved_done}
use Rattle.protocol.proofs.NotRefused.{SwapPassed, swap_passed}
use Rattle.protocol.proofs.Preservation.{Preserves, fit_before, fit_current, still_proper, ends_with}
use Rattle.protocol.proofs.Preservation.{unless_refused, carried_out}

-- ---- its list, and the power condition behind it

module _ (s : State) (d : ℕ) where
  module _ (m : has (current_of s.power) d ≡ true) where
    pub member_list : swap_list s d ≡ move s.disks (live s)
    unfolding swap_list
    member_list = rw m

    pub member_power : swap_power s d ≡ Running (live s)
    unfolding swap_power
    member_power = rw m

  module _ (m : has (current_of s.power) d ≡ false) where
    pub spare_list : swap_list s d ≡ []
    unfolding swap_list
    spare_list = rw m

    pub spare_power : swap_power s d ≡ s.power
    unfolding swap_power
    spare_power = rw m

-- ---- what it preserves

module _ (c : Cabinet) (d : ℕ) (output : List ℕ) (budget : ℕ) where
  abbrev s : State
  s = c.state

  abbrev n : ℕ
  n = s.disks

  abbrev b : ℕ
  b = s.blocks

  abbrev g : ℕ
  g = current_of s.power

  abbrev l : ℕ
  l = live s

  abbrev w : Disks
  w = disks_of s c.area

  module _ (pass : SwapPassed s c.area d) where
    in_sync : (contents : Contents) → Consistent contents c → InSync n b contents g w
    in_sync contents h = held_in_sync s.power pass.runs h.held

    -- these stores, and then a blank disk outside the set that the cabinet runs with
    blank_in : (stores : List Store) (current : ℕ) → swap_power s d ≡ Running current → Each (KeepsFit n b) stores
        → has current d ≡ false
        → (Proper s → FitCurrent n (apply_all b stores w).labels current)
        → ((contents : Contents) → Consistent contents c → InSync n b contents current (apply_all b stores w))
        → (count : ℕ) → Preserves c [] (swaps_in s d output count (apply_all b stores w))
    unfolding swaps_in after_writes
    blank_in stores current runs fits out fit sync count =
        let v = apply_all b stores w in
        rw runs
        (ends_with c [] 0 count (with_blank_disk b v d) s.online (Running current) output (λ z. omega arith)
        (λ p.
        let kept = keeps b (FitDisks n b) fits w (fit_before c p) in
        still_proper c p (with_blank_disk b v d) s.online (Running current) (fit_blank n b v d pass.known kept)
        p.fit.online
        (blank_current n b current v d (omega (arith, kept.slots, kept.few, pass.known)) out (fit p)))
        (λ contents h. sync_blanks n b contents current d v pass.known out (sync contents h)))

    by_membership : Test (has g d)
        → Preserves c [] (carry_out (swap_list s d) budget s c.area output (swaps_in s d output))
    unfolding after_writes apply_all
    by_membership (passes m) =
        let fits = move-fits c pass.fit pass.runs (pass.some m) in
        rw (member_list s d m)
        (carried_out c [] (move n l) fits budget output _
        (λ contents h. moved_cut c pass.fit pass.runs (pass.some m) contents h budget)
        (λ i. blank_in (move n l) l (member_power s d m) fits (not_live s d pass.away)
        (moved_current c pass.fit pass.runs (pass.some m))
        (moved_done c pass.fit pass.runs (pass.some m)) _))
    by_membership (fails m) =
        rw (spare_list s d m)
        (carried_out c [] [] nil budget output _
        (λ contents h. along_nil b (Restartable n b contents) w
        (sync_restartable n b contents (in_sync contents h)) budget)
        (λ i. blank_in [] g (spare_power s d m ∙ pass.runs) nil m (λ p. fit_current c p pass.runs) in_sync _))

  pub swap_preserves : Preserves c [] (swap_outcome s c.area output d budget)
  unfolding swap_outcome swap_refusals
  swap_preserves =
      unless_refused c [] _ output _ refl (λ ne. refl)
      (λ e. by_membership (swap_passed s c.area d e) (test (has g d)))

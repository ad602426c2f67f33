-- A clean, cut anywhere, leaves disks that run as before: every member of the current set holds the reference contents,
-- so its dirty bits are not needed. Assumes nothing.
use mathlib.Core.Path.{refl}
use mathlib.Core.List.{List, []}
use Prim.Native.Nat.{ℕ}
use Rattle.protocol.specs.declared.State.{State}
use Rattle.protocol.specs.Soundness.{Proper, FitCurrent}
use Rattle.protocol.specs.States.{current_of}
use Rattle.protocol.specs.Stores.{Disks, apply, apply_all}
use Rattle.protocol.specs.Lists.{clean_list}
use Rattle.protocol.specs.Outcomes.{disks_of}
use Rattle.protocol.specs.Calls.{clean_refusals, clean_outcome}
use Rattle.protocol.specs.History.{Cabinet}
use Rattle.protocol.specs.Reference.{Contents, after_writes}
use Rattle.protocol.proofs.Loops.{Each}
use Rattle.protocol.proofs.Lists.{each_clean}
use Rattle.protocol.proofs.Stores.{Along, Keeps, keeps, keeps_along}
use Rattle.protocol.proofs.Consistency.{Restartable, Consistent, InSync}
use Rattle.protocol.proofs.Consistency.{sync_restartable, sync_dirties, held_in_sync}
use Rattle.protocol.proofs.FitStores.{KeepsFit, fit_clear, current_clear}
use Rattle.protocol.proofs.NotRefused.{CleanPassed, clean_passed}
use Rattle.protocol.proofs.Preservation.{Preserves, fit_current, unless_refused, carried_out, runs_with_lem}

module _ (c : Cabinet) where
  abbrev s : State
  s = c.state

  abbrev n : ℕ
  n = s.disks

  abbrev b : ℕ
  b = s.blocks

  abbrev g : ℕ
  g = current_of s.power

  abbrev w : Disks
  w = disks_of s c.area

  -- it keeps the labels fit
  clean_fits : Each (KeepsFit n b) (clean_list s)
  clean_fits = each_clean s (λ d r i m. fit_clear n b d r i)

  module _ (pass : CleanPassed s) where
    clean_current : Proper s → FitCurrent n (apply_all b (clean_list s) w).labels g
    clean_current p =
        keeps b (λ v. FitCurrent n v.labels g) (each_clean s (λ d r i m. current_clear n b g d r)) w
        (fit_current c p pass.runs)

    -- and the disks in sync, after each store
    module _ (contents : Contents) (h : Consistent contents c) where
      in_sync : InSync n b contents g w
      in_sync = held_in_sync s.power pass.runs h.held

      clears_sync : Each (Keeps b (InSync n b contents g)) (clean_list s)
      unfolding apply
      clears_sync = each_clean s (λ d r i m v. sync_dirties n b contents v d _ g)

      clean_cut : Along b (Restartable n b contents) (clean_list s) w
      clean_cut k = sync_restartable n b contents (keeps_along b (InSync n b contents g) clears_sync w in_sync k)

      clean_done : InSync n b contents g (apply_all b (clean_list s) w)
      clean_done = keeps b (InSync n b contents g) clears_sync w in_sync

  pub clean_preserves : (output : List ℕ) (budget : ℕ) → Preserves c [] (clean_outcome s c.area output budget)
  unfolding clean_outcome clean_refusals after_writes
  clean_preserves output budget =
      unless_refused c [] _ output _ refl (λ ne. refl)
      (λ e.
      let pass = clean_passed s e in
      carried_out c [] (clean_list s) clean_fits budget output _ (λ contents h. clean_cut pass contents h budget)
      (λ i. runs_with_lem c [] (clean_list s) clean_fits g output (clean_current pass) (clean_done pass)))

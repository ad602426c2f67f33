-- The move to L, and "if L differs from G, move to L", of a running cabinet with a live disk: cut anywhere, they leave
-- disks that a restart can take up, and whole, disks that run with L. Assumes nothing.
use mathlib.Core.Path.{◌≡◌, refl}
use mathlib.Core.Bool.{Bool, true, false, cond}
use mathlib.Core.List.{[]}
use Prim.Native.Nat.{ℕ, ◌<◌}
use lib.Dec.{eqb}
use borrow.Author.Tests.{eqb-true}
use Rattle.sets.specs.Sets.{has, below}
use Rattle.sets.proofs.Bounds.{below_pow}
use Rattle.protocol.specs.declared.Power.TheVariants.{Running}
use Rattle.protocol.specs.declared.State.{State}
use Rattle.protocol.specs.States.{current_of, live, source}
use Rattle.protocol.specs.Soundness.{Sound, Proper, FitCurrent}
use Rattle.protocol.specs.Stores.{Disks, apply_all}
use Rattle.protocol.specs.Lists.{move, move_to_live}
use Rattle.protocol.specs.Outcomes.{disks_of}
use Rattle.protocol.specs.History.{Cabinet}
use Rattle.protocol.specs.Reference.{Contents}
use Rattle.protocol.proofs.Loops.{Each, each_unless}
use Rattle.protocol.proofs.Stores.{Along, along_nil}
use Rattle.protocol.proofs.States.{source_has, live_inside}
use Rattle.protocol.proofs.Soundness.{live_known}
use Rattle.protocol.proofs.Consistency.{Holds, InSync, Restartable, Consistent, sync_restartable, held_in_sync}
use Rattle.protocol.proofs.FitStores.{KeepsFit, fit_move, move_current}
use Rattle.protocol.proofs.Moves.{move_cut, move_done}
use Rattle.protocol.proofs.Preservation.{fit_before, fit_current}

module _ (c : Cabinet) (fit : Sound c.state) (runs : c.state.power ≡ Running (current_of c.state.power))
    (some : 0 < live c.state) where
  abbrev s : State
  s = c.state

  abbrev n : ℕ
  n = s.disks

  abbrev b : ℕ
  b = s.blocks

  abbrev g : ℕ
  g = current_of s.power

  abbrev l : ℕ
  l = live s

  abbrev w : Disks
  w = disks_of s c.area

  known : below l n ≡ true
  known = live_known s fit

  -- the move itself: its stores keep labels fit, and whole, it leaves L committed
  pub move-fits : Each (KeepsFit n b) (move n l)
  move-fits = fit_move n b l known

  pub moved_current : Proper s → FitCurrent n (apply_all b (move n l) w).labels l
  moved_current p = move_current n b l known some w (fit_before c p)

  pub live-fits : Each (KeepsFit n b) (move_to_live s)
  unfolding move_to_live
  live-fits = each_unless (eqb l g) (λ z. move-fits)

  pub live_current : Proper s → FitCurrent n (apply_all b (move_to_live s) w).labels l
  unfolding move_to_live apply_all
  live_current p = go (eqb l g) refl
    where
      go : (t : Bool) → eqb l g ≡ t → FitCurrent n (apply_all b (cond t [] (move n l)) w).labels l
      go true e = rw (eqb-true l g e) (fit_current c p runs)
      go false e = moved_current p

  module _ (contents : Contents) (h : Consistent contents c) where
    in_sync : InSync n b contents g w
    in_sync = held_in_sync s.power runs h.held

    in_l : has l (source l) ≡ true
    in_l = source_has l some

    still_holds : (d : ℕ) → has l d ≡ true → Holds n b contents w d
    still_holds d m = in_sync.holds d (live_inside s d m)

    pub moved_cut : Along b (Restartable n b contents) (move n l) w
    moved_cut =
        move_cut n b contents g l w in_sync (source l) (live_inside s _ in_l) in_l some ((below_pow l n).0 known)
        still_holds

    pub moved_done : InSync n b contents l (apply_all b (move n l) w)
    moved_done =
        move_done n b contents g l w in_sync (source l) (live_inside s _ in_l) in_l some ((below_pow l n).0 known)
        still_holds

    pub live_cut : Along b (Restartable n b contents) (move_to_live s) w
    unfolding move_to_live
    live_cut = go (eqb l g)
      where
        go : (t : Bool) → Along b (Restartable n b contents) (cond t [] (move n l)) w
        go true = along_nil b (Restartable n b contents) w (sync_restartable n b contents in_sync)
        go false = moved_cut

    pub live_done : InSync n b contents l (apply_all b (move_to_live s) w)
    unfolding move_to_live apply_all
    live_done = go (eqb l g) refl
      where
        go : (t : Bool) → eqb l g ≡ t → InSync n b contents l (apply_all b (cond t [] (move n l)) w)
        go true e = rw (eqb-true l g e) in_sync
        go false e = moved_done

-- A join, cut anywhere, leaves disks that a restart can take up, and whole, disks that run with one more. Assumes
-- nothing.
use mathlib.Core.Path.{◌≡◌, refl, sym, ap, ◌∙◌}
use mathlib.Core.Logic.{◌⊎◌, inl, inr}
use mathlib.Core.Bool.{true, ◌||◌}
use mathlib.Core.List.{List, [], ◌∷◌, ◌++◌}
use Prim.Native.Nat.{ℕ, ◌<◌}
use native.Mathlib.Omega.{arith}
use lib.Dec.{eqb}
use borrow.Author.Tests.{eqb-true}
use Rattle.sets.proofs.Tests.{or_either}
use Rattle.sets.specs.Sets.{has, union, singleton, below}
use Rattle.sets.proofs.Operations.{has-union, has-singleton}
use Rattle.sets.proofs.Bounds.{member_below, below_pow, below_with}
use Rattle.sets.proofs.LowestMember.{non_empty}
use Rattle.protocol.specs.declared.State.{State}
use Rattle.protocol.specs.States.{live, source}
use Rattle.protocol.specs.Soundness.{Proper, FitCurrent}
use Rattle.protocol.specs.Stores.{Disks, copy, apply_all}
use Rattle.protocol.specs.Lists.{move, move_to_live, fill, join_list}
use Rattle.protocol.specs.Outcomes.{disks_of}
use Rattle.protocol.specs.Calls.{join_refusals, join_outcome}
use Rattle.protocol.specs.History.{Cabinet}
use Rattle.protocol.specs.Reference.{Contents, after_writes}
use Rattle.protocol.proofs.Loops.{Each, each_append}
use Rattle.protocol.proofs.Soundness.{live_known}
use Rattle.protocol.proofs.Lists.{each_fill}
use Rattle.protocol.proofs.Stores.{apply_append, Along, along_append, Keeps, keeps, keeps_along, made_all}
use Rattle.protocol.proofs.States.{source_has}
use Rattle.protocol.proofs.Consistency.{Consistent, Right, Holds, InSync, Restartable, sync_restartable}
use Rattle.protocol.proofs.Consistency.{sync_copies, copied, copy_stays}
use Rattle.protocol.proofs.Moves.{move_cut, move_done}
use Rattle.protocol.proofs.FitStores.{FitDisks, KeepsFit, fit_copy, fit_move, move_current}
use Rattle.protocol.proofs.LiveMoves.{live-fits, live_cut, live_done}
use Rattle.protocol.proofs.NotRefused.{JoinPassed, join_passed}
use Rattle.protocol.proofs.Preservation.{Preserves, fit_before, unless_refused, carried_out, runs_with_lem}

-- ---- blocks copied from the source to disk d

module _ (n b : ℕ) (c : Contents) (l d : ℕ) (hd : d < n) where
  source_right : (w : Disks) → InSync n b c l w → (k : ℕ) → k < b → Right n b c w (source l) k
  source_right w h k hk = h.holds (source l) (source_has l h.agreed.filled) k hk

  source_below : (w : Disks) → InSync n b c l w → source l < n
  source_below w h = member_below l n (source l) h.agreed.known (source_has l h.agreed.filled)

  copy_one : (k : ℕ) → k < b → Keeps b (InSync n b c l) (copy (source l) d k)
  copy_one k hk w h =
      sync_copies n b c w h.size (source l) d k (source_below w h) hd hk (source_right w h k hk) l h

  fill_cut : (w : Disks) → InSync n b c l w → Along b (Restartable n b c) (fill b l d) w
  fill_cut w h k = sync_restartable n b c (keeps_along b (InSync n b c l) (each_fill b l d copy_one) w h k)

  fill_done : (w : Disks) → InSync n b c l w
      → InSync n b c l (apply_all b (fill b l d) w) × Holds n b c (apply_all b (fill b l d) w) d
  unfolding fill apply_all
  fill_done w h = made_all b (λ k. copy (source l) d k ∷ []) (InSync n b c l) (λ k v. Right n b c v d k) b
      (λ k hk v s. (
        copy_one k hk v s,
        copied n b c v s.size (source l) d k (source_below v s) hd hk
            (source_right v s k hk),
      ))
      (λ k j hk r v s q. copy_stays n b c v s.size (source l) d k (source_below v s) hd hk
      (source_right v s k hk) d j hd (omega arith) q)
      w h

-- ---- the whole join

module _ (c : Cabinet) (d : ℕ) where
  abbrev s : State
  s = c.state

  abbrev n : ℕ
  n = s.disks

  abbrev b : ℕ
  b = s.blocks

  abbrev l : ℕ
  l = live s

  abbrev joined : ℕ
  joined = union l (singleton d)

  abbrev w : Disks
  w = disks_of s c.area

  abbrev moved : Disks
  moved = apply_all b (move_to_live s) w

  abbrev filled : Disks
  filled = apply_all b (fill b l d) moved

  one_of : (e : ℕ) → has joined e ≡ true → (has l e ≡ true) ⊎ (e ≡ d)
  one_of e m =
      go (or_either (has l e) (eqb e d)
      (sym (ap (λ t. has l e || t) (has-singleton d e)) ∙ sym (has-union l (singleton d) e) ∙ m))
    where
      go : (has l e ≡ true) ⊎ (eqb e d ≡ true) → (has l e ≡ true) ⊎ (e ≡ d)
      go (inl q) = inl q
      go (inr q) = inr (eqb-true e d q)

  module _ (pass : JoinPassed s c.area d) where
    in_l : has l (source l) ≡ true
    in_l = source_has l pass.some

    in_joined : has joined (source l) ≡ true
    in_joined = has-union l (singleton d) _ ∙ rw in_l

    some_joined : 0 < joined
    some_joined = non_empty joined (source l) in_joined

    known : below joined n ≡ true
    known = below_with l d n (live_known s pass.fit) pass.known

    -- it keeps the disks consistent
    module _ (contents : Contents) (h : Consistent contents c) where
      moved_sync : InSync n b contents l moved
      moved_sync = live_done c pass.fit pass.runs pass.some contents h

      filled_sync : InSync n b contents l filled × Holds n b contents filled d
      filled_sync = fill_done n b contents l d pass.known moved moved_sync

      all_hold : (e : ℕ) → has joined e ≡ true → Holds n b contents filled e
      all_hold e m = go (one_of e m)
        where
          go : (has l e ≡ true) ⊎ (e ≡ d) → Holds n b contents filled e
          go (inl q) = filled_sync.0.holds e q
          go (inr q) = rw q filled_sync.1

      join_cut : Along b (Restartable n b contents) (join_list s d) w
      unfolding join_list
      join_cut =
          along_append b (Restartable n b contents) (move_to_live s) (fill b l d ++ move n joined) w
          (live_cut c pass.fit pass.runs pass.some contents h)
          (along_append b (Restartable n b contents) (fill b l d) (move n joined) moved
          (fill_cut n b contents l d pass.known moved moved_sync)
          (move_cut n b contents l joined filled filled_sync.0 (source l) in_l in_joined some_joined
          ((below_pow joined n).0 known) all_hold))

      join_done : InSync n b contents joined (apply_all b (join_list s d) w)
      unfolding join_list
      join_done =
          rw (apply_append, apply_append)
          (move_done n b contents l joined filled filled_sync.0 (source l) in_l in_joined some_joined
          ((below_pow joined n).0 known) all_hold)

    -- and the labels fit
    moves_fit : Each (KeepsFit n b) (move_to_live s)
    moves_fit = live-fits c pass.fit pass.runs pass.some

    fill-fits : Each (KeepsFit n b) (fill b l d)
    fill-fits = each_fill b l d (λ k i. fit_copy _ _ (source l) d k)

    join_fits : Each (KeepsFit n b) (join_list s d)
    unfolding join_list
    join_fits = each_append moves_fit (each_append fill-fits (fit_move _ _ _ known))

    join_current : Proper s → FitCurrent n (apply_all b (join_list s d) w).labels joined
    unfolding join_list
    join_current p =
        rw (apply_append, apply_append)
        (move_current n b joined known some_joined _
        (keeps b (FitDisks n b) fill-fits _ (keeps b (FitDisks n b) moves_fit w (fit_before c p))))

  pub join_preserves : (output : List ℕ) (budget : ℕ) → Preserves c [] (join_outcome s c.area output d budget)
  unfolding join_outcome join_refusals after_writes
  join_preserves output budget =
      unless_refused c [] _ output _ refl (λ ne. refl)
      (λ e.
      let pass = join_passed s c.area d e in
      carried_out c [] (join_list s d) (join_fits pass) budget output _ (λ contents h. join_cut pass contents h budget)
      (λ i. runs_with_lem c [] (join_list s d) (join_fits pass) joined output (join_current pass) (join_done pass)))

-- A restart, cut anywhere, leaves disks that a restart can take up, and whole, disks that run with the set it named.
-- Assumes nothing.
use mathlib.Core.Path.{◌≡◌, refl, ◌∙◌}
use mathlib.Core.Logic.{◌≢◌, ◌⊎◌, inl, inr}
use mathlib.Core.Bool.{Bool, true, false, cond, and-true}
use mathlib.Core.List.{List, [], ◌∷◌}
use Prim.Native.Nat.{ℕ, suc, ◌+◌, ◌*◌, ◌%◌, ◌<◌}
use native.Mathlib.Omega.{arith}
use lib.Dec.{ltb}
use borrow.Author.Tests.{lt-ltb, ne_eqb}
use Rattle.sets.specs.Sets.{has, difference, singleton, below}
use Rattle.sets.proofs.Tests.{clash, same_or_not}
use Rattle.sets.proofs.Operations.{has-difference, has-singleton}
use Rattle.sets.proofs.Bounds.{member_below, below_inside}
use Rattle.label.specs.declared.Label.{Label}
use Rattle.protocol.specs.declared.State.{State}
use Rattle.protocol.specs.Geometry.{region_size, region_of, regions}
use Rattle.protocol.specs.Loops.{for_each, some}
use Rattle.protocol.specs.States.{label_at, is_dirty, source}
use Rattle.protocol.specs.Soundness.{Proper, FitCurrent}
use Rattle.protocol.specs.Stores.{Disks, Store, copy, clear, apply, apply_all}
use Rattle.protocol.specs.Lists.{commits, for_blocks, copies, clears, resync, resyncs, restart_list}
use Rattle.protocol.specs.Naming.{the_set, found_by}
use Rattle.protocol.specs.Outcomes.{disks_of}
use Rattle.protocol.specs.Calls.{restart_refusals, restart_outcome}
use Rattle.protocol.specs.History.{Cabinet}
use Rattle.protocol.specs.Reference.{Contents, after_writes}
use Rattle.protocol.proofs.Loops.{Each, each_append, some_not}
use Rattle.protocol.proofs.Lists.{each_commit, each_block_copy, each_copy, each_clear, each_resync}
use Rattle.protocol.proofs.Stores.{apply_append, Along, along_append, along_nil, Keeps, keeps}
use Rattle.protocol.proofs.Stores.{keeps_along, loop, loop_along, made_all, made_members}
use Rattle.protocol.proofs.Blocks.{region_known}
use Rattle.protocol.proofs.Labels.{clear_keeps}
use Rattle.protocol.proofs.States.{source_has}
use Rattle.protocol.proofs.Backing.{Backed, candidate_backed}
use Rattle.protocol.proofs.Consistency.{Consistent, Right, InSync, Restartable}
use Rattle.protocol.proofs.Consistency.{copied, copy_stays, restartable_copies}
use Rattle.protocol.proofs.Consistency.{restartable_dirties, backed_still, held_restartable}
use Rattle.protocol.proofs.Moves.{Committing, commits_cut, commits_done}
use Rattle.protocol.proofs.FitStores.{FitDisks, KeepsFit, fit_copy, fit_clear, fit_commit, commits_current}
use Rattle.protocol.proofs.NotRefused.{RestartPassed, restart_passed}
use Rattle.protocol.proofs.Preservation.{Preserves, fit_before, unless_refused, carried_out, runs_with_lem}

module _ (n b : ℕ) (c : Contents) (s : ℕ) (labels : List Label) where
  -- s may be named, no bit stands that did not at the call, and the members are right in every region below r
  record Resynced (r : ℕ) (w : Disks) : Type 0 where
    restartable : Restartable n b c w
    backed : Backed w.labels s
    cleaner : (e q : ℕ) → is_dirty w.labels e q ≡ true → is_dirty labels e q ≡ true
    right : (d : ℕ) → has s d ≡ true → (k : ℕ) → k < b → region_of k < r → Right n b c w d k

  -- ---- copies: each stores what the source has, which is the reference block

  module _ {r : ℕ} {w : Disks} (h : Resynced r w) where
    disk_below : (d : ℕ) → has s d ≡ true → d < n
    disk_below d m = member_below s n d (h.restartable.recoverable.known s h.backed) m

    source_in : has s (source s) ≡ true
    source_in = source_has s h.backed.filled

    source_right : (k : ℕ) → k < b → Right n b c w (source s) k
    source_right = h.restartable.sources s h.backed

    module _ (d k : ℕ) (hd : d < n) (hk : k < b) where
      copy_right : Right n b c (apply b (copy (source s) d k) w) d k
      copy_right =
          copied n b c w h.restartable.size (source s) d k (disk_below _ source_in) hd hk (source_right k hk)

      still_right : (e m : ℕ) → e < n → m < b → Right n b c w e m → Right n b c (apply b (copy (source s) d k) w) e m
      still_right =
          copy_stays n b c w h.restartable.size (source s) d k (disk_below _ source_in) hd hk (source_right k hk)

      copy_keeps : Resynced r (apply b (copy (source s) d k) w)
      unfolding apply
      copy_keeps = record {
        restartable =
            restartable_copies n b c w h.restartable.size (source s) d k (disk_below _ source_in) hd hk
            (source_right k hk) h.restartable;
        backed = h.backed;
        cleaner = h.cleaner;
        right = λ e m j hj l. still_right e j (disk_below e m) hj (h.right e m j hj l);
      }

  -- ---- the copies of region r

  abbrev others : ℕ
  others = difference s (singleton (source s))

  abbrev block_copies : ℕ → List Store
  block_copies k = for_each n others (λ d. copy (source s) d k ∷ [])

  abbrev block_of : ℕ → ℕ → ℕ
  block_of r i = r * region_size + i

  resynced_keeps : (r d k : ℕ) → d < n → k < b → Keeps b (Resynced r) (copy (source s) d k)
  resynced_keeps r d k hd hk w h = copy_keeps h d k hd hk

  abbrev CopiedTo : Disks → ℕ → Type 0
  CopiedTo w k = (d : ℕ) → d < n → has others d ≡ true → Right n b c w d k

  -- the copies of one block reach every other member, and undo no other block's
  block_copied : (r k : ℕ) → k < b → (w : Disks) → Resynced r w → CopiedTo (apply_all b (block_copies k) w) k
  block_copied r k hk w h = (made_members b (λ d. copy (source s) d k) others (Resynced r) (λ d v. Right n b c v d k) n
      (λ d hd m v g. (copy_keeps g d k hd hk, copy_right g d k hd hk))
      (λ d e hd m l v g q. still_right g d k hd hk e k (omega arith) hk q)
      w h).1

  stays_copied : (r j : ℕ) → j < b → (i : ℕ) (w : Disks) → Resynced r w → CopiedTo w j
      → CopiedTo (apply_all b (cond (ltb (block_of r i) b) (block_copies (block_of r i)) []) w) j
  stays_copied r j hj i w h q = (keeps b Both (each_block_copy n b s r copy_both i) w (h, q)).1
    where
      Both : Disks → Type 0
      Both v = Resynced r v × CopiedTo v j

      copy_both : (d k : ℕ) → d < n → k < b → Keeps b Both (copy (source s) d k)
      copy_both d k hd hk v (g, t) = (copy_keeps g d k hd hk, λ e he m. still_right g d k hd hk e j he hj (t e he m))

  region_copied : (r : ℕ) (w : Disks) → Resynced r w
      → Resynced r (apply_all b (copies n b s r) w) × ((i : ℕ) → i < region_size → block_of r i < b
      → CopiedTo (apply_all b (copies n b s r) w) (block_of r i))
  unfolding copies for_blocks
  region_copied r =
      made_all b (λ i. cond (ltb (block_of r i) b) (block_copies (block_of r i)) []) (Resynced r)
      (λ i v. block_of r i < b → CopiedTo v (block_of r i)) region_size
      (λ i l w h. (keeps b (Resynced r) (each_block_copy n b s r (resynced_keeps r) i) w h, λ z. make i w h z))
      (λ i j l q w h t z. stays_copied r (block_of r j) z i w h (t z))
    where
      make : (i : ℕ) (w : Disks) → Resynced r w → block_of r i < b
          → CopiedTo (apply_all b (cond (ltb (block_of r i) b) (block_copies (block_of r i)) []) w) (block_of r i)
      make i w h z = rw (lt-ltb _ _ z) (block_copied r (block_of r i) z w h)

  in_region : (r k : ℕ) → region_of k ≡ r → (k ≡ block_of r (k % region_size)) × (k % region_size < region_size)
  unfolding region_of
  in_region r k e = (omega arith, omega arith)

  below_next : (k r : ℕ) → region_of k < suc r → region_of k ≢ r → region_of k < r
  below_next k r l ne = omega arith

  -- so after them the members are right in this region too
  copies_done : (r : ℕ) (w : Disks) → Resynced r w → Resynced (suc r) (apply_all b (copies n b s r) w)
  copies_done r w h =
      let (m, all) = region_copied r w h in
      record {
        restartable = m.restartable;
        backed = m.backed;
        cleaner = m.cleaner;
        right = λ d q k hk l. go m all d q k hk l (same_or_not (region_of k) r) (same_or_not d (source s));
      }
    where
      v : Disks
      v = apply_all b (copies n b s r) w

      go : Resynced r v → ((i : ℕ) → i < region_size → block_of r i < b → CopiedTo v (block_of r i)) → (d : ℕ)
          → has s d ≡ true → (k : ℕ) → k < b → region_of k < suc r
          → (region_of k ≡ r) ⊎ (region_of k ≢ r) → (d ≡ source s) ⊎ (d ≢ source s) → Right n b c v d k
      go m all d q k hk l (inr e) z = m.right d q k hk (below_next k r l e)
      go m all d q k hk l (inl e) (inl z) = rw z (source_right m k hk)
      go m all d q k hk l (inl e) (inr z) =
          let (at, i) = in_region r k e in
          rw at (all (k % region_size) i (rw at at hk) d (disk_below m d q)
          (has-difference s (singleton (source s)) d ∙ rw (q, has-singleton (source s) d, ne_eqb d (source s) z)))

  -- ---- clears: the members are right in the region, so its bits are not needed

  clear_one : (r d : ℕ) → d < n → has s d ≡ true → Keeps b (Resynced (suc r)) (clear d r)
  unfolding apply
  clear_one r d hd m w h = record {
    restartable = restartable_dirties n b c w d _ hd (λ k hk. go k hk (same_or_not (region_of k) r)) h.restartable;
    backed = backed_still n b c w d _ h.backed;
    cleaner = λ e q z. h.cleaner e q (clear_keeps b d r w e q z);
    right = h.right;
  }
    where
      map : ℕ
      map = (label_at w.labels d).dirty

      last : (k : ℕ) → region_of k ≡ r → region_of k < suc r
      last k e = omega arith

      go : (k : ℕ) → k < b → (region_of k ≡ r) ⊎ (region_of k ≢ r)
          → (has (difference map (singleton r)) (region_of k) ≡ has map (region_of k)) ⊎ Right n b c w d k
      go k hk (inl e) = inr (h.right d m k hk (last k e))
      go k hk (inr ne) =
          inl (has-difference map (singleton r) (region_of k)
          ∙ rw (has-singleton r (region_of k), ne_eqb (region_of k) r ne) (and-true (has map (region_of k))))

  -- ---- one region, and all

  resync_cut : (r : ℕ) (w : Disks) → Resynced r w → Along b (Restartable n b c) (resync n b s r) w
  unfolding resync
  resync_cut r w h = along_append b (Restartable n b c) (copies n b s r) (clears n s r) w
      (λ k. (keeps_along b (Resynced r) (each_copy n b s r (resynced_keeps r)) w h k).restartable)
      (λ k. (keeps_along b (Resynced (suc r)) (each_clear n s r (clear_one r)) _ (copies_done r w h) k).restartable)

  resync_done : (r : ℕ) (w : Disks) → Resynced r w → Resynced (suc r) (apply_all b (resync n b s r) w)
  unfolding resync
  resync_done r w h =
      rw apply_append (keeps b (Resynced (suc r)) (each_clear n s r (clear_one r)) _ (copies_done r w h))

  -- a region that is dirty on no member is right on all
  already_right : (r : ℕ) (w : Disks) → some n s (λ d. is_dirty labels d r) ≡ false → Resynced r w → Resynced (suc r) w
  already_right r w none h = record {
    restartable = h.restartable;
    backed = h.backed;
    cleaner = h.cleaner;
    right = λ d m k hk l. go d m k hk l (same_or_not (region_of k) r) (h.restartable.members s h.backed d m k hk);
  }
    where
      go : (d : ℕ) → has s d ≡ true → (k : ℕ) → k < b → region_of k < suc r → (region_of k ≡ r) ⊎ (region_of k ≢ r)
          → (is_dirty w.labels d (region_of k) ≡ true) ⊎ Right n b c w d k → Right n b c w d k
      go d m k hk l (inr ne) z = h.right d m k hk (below_next k r l ne)
      go d m k hk l (inl e) (inr z) = z
      go d m k hk l (inl e) (inl z) = clash (h.cleaner d r (rw e at z)) (some_not n s _ none d (disk_below h d m) m)

  iteration : (r : ℕ) (w : Disks) → Resynced r w → (t : Bool) → some n s (λ d. is_dirty labels d r) ≡ t
      → Resynced (suc r) (apply_all b (cond t (resync n b s r) []) w)
      × Along b (Restartable n b c) (cond t (resync n b s r) []) w
  unfolding apply_all
  iteration r w h true e = (resync_done r w h, resync_cut r w h)
  iteration r w h false e = (already_right r w e h, along_nil b (Restartable n b c) w h.restartable)

  module _ (w : Disks) (h : Restartable n b c w) (backed : Backed w.labels s) (same : w.labels ≡ labels) where
    begin : Resynced 0 w
    begin = record {
      restartable = h;
      backed = backed;
      cleaner = λ e q z. rw same at z;
      right = λ d m k hk l. absurd (omega arith);
    }

    abbrev region_list : ℕ → List Store
    region_list r = cond (some n s (λ d. is_dirty labels d r)) (resync n b s r) []

    resyncs_cut : Along b (Restartable n b c) (resyncs n b labels s) w
    unfolding resyncs
    resyncs_cut =
        loop_along b region_list (regions b) Resynced
        (λ r l v g. (iteration r v g (some n s (λ d. is_dirty labels d r)) refl).0) (Restartable n b c)
        (λ r l v g. (iteration r v g (some n s (λ d. is_dirty labels d r)) refl).1) (regions b) (omega arith) w h begin

    resyncs_done : Resynced (regions b) (apply_all b (resyncs n b labels s) w)
    unfolding resyncs
    resyncs_done =
        loop b region_list (regions b) Resynced (λ r l v g.
        (iteration r v g (some n s (λ d. is_dirty labels d r)) refl).0)
        (regions b) (omega arith) w begin

    -- so all members of s hold the reference contents
    resynced_all : Committing n b c s (apply_all b (resyncs n b labels s) w)
    resynced_all = record {
      restartable = resyncs_done.restartable;
      backed = resyncs_done.backed;
      holds = λ d m k hk. resyncs_done.right d m k hk (region_known b k hk);
    }

-- ---- the whole restart

module _ (c : Cabinet) where
  abbrev s : State
  s = c.state

  abbrev n : ℕ
  n = s.disks

  abbrev b : ℕ
  b = s.blocks

  abbrev chosen : ℕ
  chosen = the_set (found_by s)

  abbrev w : Disks
  w = disks_of s c.area

  module _ (pass : RestartPassed s c.area) where
    known : below chosen n ≡ true
    known = below_inside chosen s.online n pass.is_candidate.1.inside pass.fit.online

    -- it keeps the disks consistent
    module _ (contents : Contents) (h : Consistent contents c) where
      restartable : Restartable n b contents w
      restartable = held_restartable n b contents w s.power h.held

      backed : Backed s.labels chosen
      backed = candidate_backed pass.is_candidate.0 pass.is_candidate.1

      committing : Committing n b contents chosen (apply_all b (resyncs n b s.labels chosen) w)
      committing = resynced_all n b contents chosen s.labels w restartable backed refl

      restart_cut : Along b (Restartable n b contents) (restart_list s chosen) w
      unfolding restart_list
      restart_cut =
          along_append b (Restartable n b contents) (resyncs n b s.labels chosen) (commits n chosen) w
          (resyncs_cut n b contents chosen s.labels w restartable backed refl)
          (commits_cut n b contents chosen _ committing)

      restart_done : InSync n b contents chosen (apply_all b (restart_list s chosen) w)
      unfolding restart_list
      restart_done = rw apply_append (commits_done n b contents chosen _ committing)

    -- and the labels fit
    resyncs_fit : Each (KeepsFit n b) (resyncs n b s.labels chosen)
    resyncs_fit = each_resync n b _ chosen (λ d k i hk. fit_copy n b _ d k) (fit_clear n b)

    restart_fits : Each (KeepsFit n b) (restart_list s chosen)
    unfolding restart_list
    restart_fits = each_append resyncs_fit (each_commit n chosen (fit_commit n b chosen known))

    restart_current : Proper s → FitCurrent n (apply_all b (restart_list s chosen) w).labels chosen
    unfolding restart_list
    restart_current p =
        rw apply_append
        (commits_current n b chosen known pass.is_candidate.1.filled _
        (keeps b (FitDisks n b) resyncs_fit w (fit_before c p)))

  pub restart_preserves : (output : List ℕ) (budget : ℕ) → Preserves c [] (restart_outcome s c.area output budget)
  unfolding restart_outcome restart_refusals after_writes
  restart_preserves output budget =
      unless_refused c [] _ output _ refl (λ ne. refl)
      (λ e.
      let pass = restart_passed s c.area e in
      carried_out c [] (restart_list s chosen) (restart_fits pass) budget output _
      (λ contents h. restart_cut pass contents h budget)
      (λ i. runs_with_lem c [] (restart_list s chosen) (restart_fits pass) chosen output (restart_current pass)
      (restart_done pass)))

-- How many stores a restart makes. Assumes nothing.
use mathlib.Core.Path.{◌≡◌, refl, ap, ap₂, subst, ◌∙◌}
use mathlib.Core.Logic.{◌≢◌}
use mathlib.Core.Bool.{Bool, true, false, cond}
use mathlib.Core.List.{List, [], ◌∷◌}
use Prim.Native.Nat.{ℕ, ◌+◌, ◌-◌, ◌*◌, ◌<◌}
use native.Mathlib.Nat.{mul_comm}
use native.Mathlib.Omega.{arith}
use lib.Dec.{lit<}
use lib.ListN.{length, length-append}
use Rattle.sets.specs.Sets.{below, size, difference, singleton}
use Rattle.sets.proofs.Bounds.{below_pow, below_inside, below-difference}
use Rattle.sets.proofs.Cardinality.{size_without}
use Rattle.refusals.specs.Refusals.{first_of}
use Rattle.protocol.specs.declared.State.{State}
use Rattle.protocol.specs.Geometry.{region_size, regions, region_blocks}
use Rattle.protocol.specs.Loops.{ascending, for_each, some}
use Rattle.protocol.specs.States.{is_dirty, source}
use Rattle.protocol.specs.Stores.{Store, copy, clear, commit}
use Rattle.protocol.specs.Lists.{commits, copies, clears, resync, resyncs, restart_list}
use Rattle.protocol.specs.Naming.{the_set, found_by}
use Rattle.protocol.specs.Calls.{restart_refusals, restart_outcome}
use Rattle.protocol.specs.RestartClaims.{resync_stores, restart_stores, Restarting, RestartsCounted}
use Rattle.protocol.proofs.Loops.{for_length}
use Rattle.protocol.proofs.Iterations.{even_length}
use Rattle.protocol.proofs.Sums.{sum_same, length_loop}
use Rattle.protocol.proofs.RegionBlocks.{region_loop}
use Rattle.protocol.proofs.Refusals.{not_given}
use Rattle.protocol.proofs.States.{source_has}
use Rattle.protocol.proofs.Outcomes.{refused_cut_or_whole}
use Rattle.protocol.proofs.NotRefused.{restart_passed}

-- ---- one region

module _ (n b set r : ℕ) where
  abbrev others : ℕ
  others = difference set (singleton (source set))

  -- the copies of its block i
  abbrev copies_of : ℕ → List Store
  copies_of i = for_each n others (λ d. copy (source set) d (r * region_size + i) ∷ [])

  pub copies_loop : copies n b set r ≡ ascending (region_blocks b r) copies_of
  unfolding copies
  copies_loop = region_loop b r (λ k. for_each n others (λ d. copy (source set) d k ∷ []))

  pub resync-length : below set n ≡ true → length (resync n b set r) ≡ region_blocks b r * size others + size set
  unfolding resync clears
  resync-length known =
      let inside = below-difference set (singleton (source set)) n known in
      let first : length (copies n b set r) ≡ size others * region_blocks b r =
      ap length copies_loop
      ∙ even_length (size others) copies_of (λ i. for_length n others _ inside) (region_blocks b r) in
      rw (mul_comm (region_blocks b r) (size others))
      (omega (arith, length-append (copies n b set r) (clears n set r), first, for_length n set (λ d. clear d r) known))

-- ---- the whole list

module _ (s : State) (set : ℕ) (known : below set s.disks ≡ true) (filled : 0 < set) where
  abbrev n : ℕ
  n = s.disks

  abbrev b : ℕ
  b = s.blocks

  one_less : size (difference set (singleton (source set))) ≡ size set - 1
  one_less =
      let e = size_without set (source set) (source_has set filled) n ((below_pow set n).0 known) in
      omega arith

  region_stores : (r : ℕ) (t : Bool) → length (cond t (resync n b set r) [])
      ≡ cond t (resync_stores s set r) 0
  region_stores r true = resync-length n b set r known ∙ rw one_less
  region_stores r false = refl

  restart_length : length (restart_list s set) ≡ restart_stores s set
  unfolding restart_list resyncs commits
  restart_length =
      length-append (resyncs n b s.labels set) (commits n set)
      ∙ ap₂ ◌+◌
      (length_loop (regions b) (λ r. cond (some n set (λ d. is_dirty s.labels d r)) (resync n b set r) [])
      ∙ sum_same (regions b) _ _ (λ r l. region_stores r (some n set (λ d. is_dirty s.labels d r))))
      (for_length n set (λ d. commit d set) known)

-- ---- the call

module _ (s : State) (area : List ℕ) where
  abbrev chosen : ℕ
  chosen = the_set (found_by s)

  stores : first_of (restart_refusals s area) ≡ 0 → length (restart_list s chosen) ≡ restart_stores s chosen
  stores e =
      let pass = restart_passed s area e in
      let (stage, candidate) = pass.is_candidate in
      restart_length s chosen (below_inside chosen s.online s.disks candidate.inside pass.fit.online)
      candidate.filled

  no_15 : first_of (restart_refusals s area) ≢ 15
  unfolding restart_refusals
  no_15 = not_given 15 (lit< tt) (restart_refusals s area) refl

pub restarts_counted : RestartsCounted
unfolding restart_outcome
restarts_counted s area output budget set is =
    subst (λ x. Restarting s x budget (restart_outcome s area output budget)) (ap the_set is)
    (refused_cut_or_whole (restart_list s (chosen s area)) budget s area output _ (restart_refusals s area)
    (Restarting s (chosen s area) budget)
    (λ ne. record { done = λ z. absurd (ne z); cut = λ z. absurd (no_15 s area z) })
    (λ e l. record { done = λ z. absurd (omega arith); cut = λ z. (refl, rw (stores s area e) at l) })
    (λ e l. record { done = λ z. stores s area e; cut = λ z. absurd (omega arith) }))

-- Each list goes phase by phase to exactly its disks, ascending. Assumes nothing.
use mathlib.Core.Path.{◌≡◌, refl, sym, subst, ◌∙◌}
use mathlib.Core.Bool.{Bool, true, false, cond, not, ◌&&◌}
use mathlib.Core.List.{List, [], ◌∷◌, ◌++◌, map, map-append, append-nil, append_assoc}
use mathlib.Core.List.Memᴰ
use Prim.Native.Nat.{ℕ, zero, suc, ◌+◌, ◌*◌, ◌<◌}
use native.Mathlib.Omega.{arith}
use lib.Dec.{eqb}
use borrow.Author.Tests.{lt-ltb, eqb-true, eq-eqb}
use Rattle.sets.specs.Sets.{has, singleton, difference, members}
use Rattle.sets.proofs.Members.{members_has, members_ascend}
use Rattle.sets.proofs.Operations.{has-singleton}
use Rattle.protocol.specs.declared.State.{State}
use Rattle.protocol.specs.Geometry.{region_size, region_of, regions, region_blocks}
use Rattle.protocol.specs.Loops.{ascending, for_each, some, disks_where}
use Rattle.protocol.specs.States.{is_dirty, current_of, live, source}
use Rattle.protocol.specs.Stores.{Store}
use Rattle.protocol.specs.Lists.{proposals, commits, move, move_to_live, marks, block_stores, preparations}
use Rattle.protocol.specs.Lists.{write_list, fill, join_list, swap_list, clean_list, clears, resync, resyncs}
use Rattle.protocol.specs.Lists.{restart_list}
use Rattle.protocol.specs.StoreOrder.{Phase, proposing, committing, marking, clearing, writing, copying, store_on}
use Rattle.protocol.specs.StoreOrder.{Ascend, Ordered, Sweep, on, InSweeps, none, next, moving}
use Rattle.protocol.specs.StoreOrder.{moving_to_live, lacking, write_sweeps, join_sweeps, swap_sweeps}
use Rattle.protocol.specs.StoreOrder.{clean_sweeps, resync_sweeps, restart_sweeps, ListsInOrder}
use Rattle.protocol.proofs.Loops.{has-disks_where, same_iterations}
use Rattle.protocol.proofs.RestartClaims.{copies_loop}

-- every phase ascends
in_order : (p : Phase) (disks : List ℕ) → Ascend disks → Ordered p disks
in_order (proposing set) disks h = h
in_order (committing set) disks h = h
in_order (marking r) disks h = h
in_order (clearing r) disks h = h
in_order (writing k bytes) disks h = h
in_order (copying from k) disks h = h

module _ (n : ℕ) where
  -- ---- one phase

  -- a loop that stores where its set has the disk
  where_has : {A : Type 0} (set : ℕ) (t : ℕ → Bool) (f : ℕ → A) → ((d : ℕ) → d < n → t d ≡ has set d)
      → ascending n (λ d. cond (t d) (f d ∷ []) []) ≡ map f (members n set)
  unfolding ascending members
  where_has set t f same = go n same
    where
      put : {A : Type 0} (f : ℕ → A) (d : ℕ) (b : Bool) → cond b (f d ∷ []) [] ≡ map f (cond b (d ∷ []) [])
      put f d true = refl
      put f d false = refl

      go : (k : ℕ) → ((d : ℕ) → d < k → t d ≡ has set d)
          → ascending k (λ d. cond (t d) (f d ∷ []) []) ≡ map f (members k set)
      go zero h = refl
      go (suc k) h =
          rw (go k (λ d l. h d (omega arith)), h k (omega arith), put f k (has set k))
          (sym (map-append f (members k set) (cond (has set k) (k ∷ []) [])))

  sweep : (set : ℕ) (p : Phase) {stores : List Store} → stores ≡ map (store_on p) (members n set)
      → InSweeps n (on set p ∷ []) stores
  sweep set p {stores} e =
      subst (InSweeps n (on set p ∷ [])) (append-nil stores)
      (next (record {
        disks = members n set;
        goes_to = e;
        exactly = members_has n set;
        ordered = in_order p _ (members_ascend n set);
      }) none)

  -- on each disk of the set, and on each where a test passes
  on_each : (set : ℕ) (p : Phase) → InSweeps n (on set p ∷ []) (for_each n set (λ d. store_on p d ∷ []))
  unfolding for_each
  on_each set p = sweep set p (where_has set (has set) (store_on p) (λ d l. refl))

  on_some : (set : ℕ) (t : ℕ → Bool) (p : Phase)
      → InSweeps n (on (disks_where n (λ d. has set d && t d)) p ∷ [])
      (for_each n set (λ d. cond (t d) (store_on p d ∷ []) []))
  unfolding for_each
  on_some set t p =
      sweep _ p
      (same_iterations n _ _ (λ d l. both d (has set d) (t d))
      ∙ where_has _ (λ d. has set d && t d) (store_on p)
      (λ d l. sym (has-disks_where n (λ e. has set e && t e) d ∙ rw (lt-ltb d n l))))
    where
      both : (d : ℕ) (a b : Bool) → cond a (cond b (store_on p d ∷ []) []) [] ≡ cond (a && b) (store_on p d ∷ []) []
      both d true b = refl
      both d false b = refl

  -- and on each where it fails
  on_rest : (set : ℕ) (t : ℕ → Bool) (p : Phase)
      → InSweeps n (on (disks_where n (λ d. has set d && not (t d))) p ∷ [])
      (for_each n set (λ d. cond (t d) [] (store_on p d ∷ [])))
  unfolding for_each
  on_rest set t p =
      subst (InSweeps n _) (same_iterations n _ _ (λ d l. fails d (has set d) (t d))) (on_some set (λ d. not (t d)) p)
    where
      fails : (d : ℕ) (a b : Bool)
          → cond a (cond (not b) (store_on p d ∷ []) []) [] ≡ cond a (cond b [] (store_on p d ∷ [])) []
      fails d true true = refl
      fails d true false = refl
      fails d false b = refl

  -- on one disk
  on_one : (d : ℕ) → d < n → (p : Phase) → InSweeps n (on (singleton d) p ∷ []) (store_on p d ∷ [])
  on_one d known p = next (record {
    disks = d ∷ [];
    goes_to = refl;
    exactly = λ e. (
      λ m. let same : e ≡ d = Memᴰ.eq_of_singleton m in
          (rw same known, has-singleton d e ∙ eq-eqb e d same),
      λ (l, m). Memᴰ.head (eqb-true e d (sym (has-singleton d e) ∙ m)),
    );
    ordered = in_order p (d ∷ []) (λ i j h k. let q : j < 1 = k in absurd (omega (arith, q, h)));
  }) none

  -- ---- phases in a row

  in_a_row : {first second : List Sweep} {xs ys : List Store} → InSweeps n first xs → InSweeps n second ys
      → InSweeps n (first ++ second) (xs ++ ys)
  in_a_row none q = q
  in_a_row (next {stores = stores} {later = later} m p) q =
      rw (append_assoc stores later _) (next m (in_a_row p q))

  in_loop : (m : ℕ) (sweeps : ℕ → List Sweep) (f : ℕ → List Store) → ((i : ℕ) → i < m → InSweeps n (sweeps i) (f i))
      → InSweeps n (ascending m sweeps) (ascending m f)
  unfolding ascending
  in_loop zero sweeps f h = none
  in_loop (suc m) sweeps f h = in_a_row (in_loop m sweeps f (λ i l. h i (omega arith))) (h m (omega arith))

  if_so : (t : Bool) {sweeps : List Sweep} {stores : List Store} → InSweeps n sweeps stores
      → InSweeps n (cond t sweeps []) (cond t stores [])
  if_so true h = h
  if_so false h = none

  unless : (t : Bool) {sweeps : List Sweep} {stores : List Store} → InSweeps n sweeps stores
      → InSweeps n (cond t [] sweeps) (cond t [] stores)
  unless true h = none
  unless false h = h

  move_sweeps : (set : ℕ) → InSweeps n (moving set) (move n set)
  unfolding move proposals commits
  move_sweeps set = in_a_row (on_each set (proposing set)) (on_each set (committing set))

module _ (s : State) where
  abbrev n : ℕ
  n = s.disks

  abbrev b : ℕ
  b = s.blocks

  live_sweeps : InSweeps n (moving_to_live s) (move_to_live s)
  unfolding move_to_live
  live_sweeps = unless n (eqb (live s) (current_of s.power)) (move_sweeps n (live s))

  mark_sweeps : (r : ℕ) → InSweeps n (on (lacking s r) (marking r) ∷ []) (marks n s.labels (live s) r)
  unfolding marks
  mark_sweeps r = on_rest n (live s) (λ d. is_dirty s.labels d r) (marking r)

  write_sweeps_lem : (k : ℕ) (bytes : List ℕ) → InSweeps n (write_sweeps s k bytes) (write_list s k bytes)
  unfolding write_list preparations block_stores
  write_sweeps_lem k bytes =
      rw (append_assoc (move_to_live s) (marks n s.labels (live s) (region_of k)) _)
      (in_a_row n live_sweeps (in_a_row n (mark_sweeps (region_of k)) (on_each n (live s) (writing k bytes))))

  join_sweeps_lem : (d : ℕ) → d < n → InSweeps n (join_sweeps s d) (join_list s d)
  unfolding join_list fill
  join_sweeps_lem d l =
      in_a_row n live_sweeps
      (in_a_row n (in_loop n b _ _ (λ k i. on_one n d l (copying (source (live s)) k)))
      (move_sweeps n _))

  swap_sweeps_lem : (d : ℕ) → InSweeps n (swap_sweeps s d) (swap_list s d)
  unfolding swap_list
  swap_sweeps_lem d = if_so n (has (current_of s.power) d) (move_sweeps n (live s))

  clean_sweeps_lem : InSweeps n (clean_sweeps s) (clean_list s)
  unfolding clean_list
  clean_sweeps_lem =
      in_loop n (regions b) _ _ (λ r i. on_some n (live s) (λ d. is_dirty s.labels d r) (clearing r))

  module _ (set : ℕ) where
    abbrev others : ℕ
    others = difference set (singleton (source set))

    resync_sweeps_lem : (r : ℕ) → InSweeps n (resync_sweeps s set r) (resync n b set r)
    unfolding resync clears
    resync_sweeps_lem r =
        rw (copies_loop n b set r)
        (in_a_row n
        (in_loop n (region_blocks b r) _ _ (λ i l. on_each n others (copying (source set) (r * region_size + i))))
        (on_each n set (clearing r)))

    restart_sweeps_lem : InSweeps n (restart_sweeps s set) (restart_list s set)
    unfolding restart_list resyncs commits
    restart_sweeps_lem =
        in_a_row n
        (in_loop n (regions b) _ _
        (λ r i. if_so n (some n set (λ d. is_dirty s.labels d r)) (resync_sweeps_lem r)))
        (on_each n set (committing set))

pub lists_in_order : ListsInOrder
lists_in_order s = record {
  reads = live_sweeps s;
  writes = write_sweeps_lem s;
  joins = join_sweeps_lem s;
  swaps = swap_sweeps_lem s;
  cleans = clean_sweeps_lem s;
  restarts = restart_sweeps_lem s;
}

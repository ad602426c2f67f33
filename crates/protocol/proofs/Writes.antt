-- A write, cut anywhere, leaves disks that a restart can take up: with the old reference contents until the store on
-- the source of its set, with the new ones from then on. Whole, it leaves disks that run with the new contents. Assumes
-- nothing.
use mathlib.Core.Path.{◌≡◌, refl, ◌∙◌, subst}
use mathlib.Core.Logic.{◌≢◌, ◌⊎◌, inl, inr}
use mathlib.Core.Bool.{Bool, true, false, cond}
use mathlib.Core.List.{List, [], ◌∷◌, ◌++◌, append-nil}
use Prim.Native.Nat.{ℕ, zero, suc, ◌≤◌, ◌<◌}
use native.Mathlib.Omega.{arith}
use lib.ListN.{length, take}
use lib.Seq.{take_all}
use borrow.Author.Tests.{eq-eqb, ne_eqb}
use Rattle.sets.proofs.Tests.{same_or_not}
use Rattle.sets.specs.Sets.{has}
use Rattle.sets.proofs.Bounds.{member_below, below_pow}
use Rattle.label.specs.declared.Label.{Label}
use Rattle.protocol.specs.declared.Call.TheVariants.{Write}
use Rattle.protocol.specs.declared.State.{State}
use Rattle.protocol.specs.Geometry.{block_size, region_of, area_size}
use Rattle.protocol.specs.Loops.{for_each}
use Rattle.protocol.specs.States.{is_dirty, live, source}
use Rattle.protocol.specs.Soundness.{Proper, FitCurrent}
use Rattle.protocol.specs.Stores.{Disks, Store, write, mark, apply, apply_all}
use Rattle.protocol.specs.Lists.{move_to_live, marks, preparations, block_stores, write_list}
use Rattle.protocol.specs.Outcomes.{disks_of}
use Rattle.protocol.specs.Calls.{block_refusals, write_outcome}
use Rattle.protocol.specs.History.{Cabinet}
use Rattle.protocol.specs.Reference.{Contents, replaced, include, counts, carried_write, carried_by, after_writes}
use Rattle.protocol.proofs.Loops.{Each, cons, each_append}
use Rattle.protocol.proofs.Soundness.{live_known}
use Rattle.protocol.proofs.Lists.{each_mark, each_block}
use Rattle.protocol.proofs.Stores.{Cut, in_first, in_second, cut, apply_append, Along, along_append}
use Rattle.protocol.proofs.Stores.{Keeps, keeps, keeps_along, made_all, made_members}
use Rattle.protocol.proofs.Blocks.{region_known, stored_size}
use Rattle.protocol.proofs.Labels.{mark_sets, mark_keeps, move_dirty}
use Rattle.protocol.proofs.States.{source_has}
use Rattle.protocol.proofs.Backing.{Agreed, agreed_recoverable}
use Rattle.protocol.proofs.Consistency.{Right, Holds, InSync, Restartable, sync_restartable, sync_dirties}
use Rattle.protocol.proofs.Consistency.{now_right, stays_right, Consistent}
use Rattle.protocol.proofs.Reference.{include_append, early, prepared}
use Rattle.protocol.proofs.Reference.{block_stores_begin, source_store_lem, write_counts}
use Rattle.protocol.proofs.FitStores.{KeepsFit, fit_write, fit_mark}
use Rattle.protocol.proofs.FitStores.{current_write, current_mark}
use Rattle.protocol.proofs.LiveMoves.{live-fits, live_current, live_cut, live_done}
use Rattle.protocol.proofs.NotRefused.{BlockPassed, block_passed}
use Rattle.protocol.proofs.Preservation.{Preserves}
use Rattle.protocol.proofs.Preservation.{unless_refused, carried_out, runs_with_lem}

-- ---- marks: the region's bit stands on every member afterwards

module _ (n b : ℕ) (c : Contents) (l : ℕ) where
  mark_one : (d r : ℕ) → Keeps b (InSync n b c l) (mark d r)
  unfolding apply
  mark_one d r w s = sync_dirties n b c w d _ l s

  module _ (labels : List Label) (r : ℕ) (w : Disks) (h : InSync n b c l w)
      (same : (e q : ℕ) → is_dirty labels e q ≡ true → is_dirty w.labels e q ≡ true) where
    marks_cut : Along b (Restartable n b c) (marks n labels l r) w
    marks_cut k =
        sync_restartable n b c (keeps_along b (InSync n b c l) (each_mark n labels l r (λ d i. mark_one d r)) w h k)

    record Marked (v : Disks) : Type 0 where
      in_sync : InSync n b c l v
      kept_dirty : (e q : ℕ) → is_dirty labels e q ≡ true → is_dirty v.labels e q ≡ true

    mark_it : (d : ℕ) → d < n → (v : Disks) → Marked v → Marked (apply b (mark d r) v)
    mark_it d k v s = record {
      in_sync = mark_one d r v s.in_sync;
      kept_dirty = λ e q z. mark_keeps b d r v e q (s.kept_dirty e q z);
    }

    marks_done : InSync n b c l (apply_all b (marks n labels l r) w) × ((d : ℕ) → has l d ≡ true
        → is_dirty (apply_all b (marks n labels l r) w).labels d r ≡ true)
    unfolding marks for_each apply_all
    marks_done =
        let (s, all) = made_all b (λ d. cond (has l d) (cond (is_dirty labels d r) [] (mark d r ∷ [])) []) Marked
        (λ d v. has l d ≡ true → is_dirty v.labels d r ≡ true) n
        (λ d k v s. make d k v s (has l d) (is_dirty labels d r) refl)
        (λ d e k j v s q m. stay d e k v s (q m) (has l d) (is_dirty labels d r))
        w (record { in_sync = h; kept_dirty = same }) in
        (s.in_sync, λ d m. all d (member_below l n d h.agreed.known m) m)
      where
        make : (d : ℕ) → d < n → (v : Disks) → Marked v → (t u : Bool) → is_dirty labels d r ≡ u
            → Marked (apply_all b (cond t (cond u [] (mark d r ∷ [])) []) v)
            × (t ≡ true → is_dirty (apply_all b (cond t (cond u [] (mark d r ∷ [])) []) v).labels d r ≡ true)
        make d k v s false u e = (s, λ z. absurd (let y : ◌≡◌ {A = ℕ} 0 1 = cc in omega arith))
        make d k v s true true e = (s, λ z. s.kept_dirty d r e)
        make d k v s true false e = (mark_it d k v s, λ z. mark_sets b d r v (omega (arith, s.in_sync.room)))

        stay : (d e : ℕ) → d < n → (v : Disks) → Marked v → is_dirty v.labels e r ≡ true → (t u : Bool)
            → is_dirty (apply_all b (cond t (cond u [] (mark d r ∷ [])) []) v).labels e r ≡ true
        stay d e k v s q false u = q
        stay d e k v s q true true = q
        stay d e k v s q true false = mark_keeps b d r v e r q

-- ---- block stores, from the first on the source

module _ (n b : ℕ) (c : Contents) (l k : ℕ) (hk : k < b) (bytes : List ℕ) (full : length bytes ≡ block_size) where
  abbrev new : Contents
  new = replaced k bytes c

  new_here : bytes ≡ new k
  new_here = rw (eq-eqb k k refl)

  new_elsewhere : (m : ℕ) → m ≢ k → c m ≡ new m
  new_elsewhere m ne = rw (ne_eqb m k ne)

  -- the region is dirty on every member, and all other blocks are right
  record Storing (w : Disks) : Type 0 where
    room : n ≤ length w.labels
    size : length w.area ≡ area_size n b
    agreed : Agreed n w.labels l
    dirty : (d : ℕ) → has l d ≡ true → is_dirty w.labels d (region_of k) ≡ true
    others : (d : ℕ) → has l d ≡ true → (m : ℕ) → m < b → m ≢ k → Right n b new w d m

  begin : (w : Disks) → InSync n b c l w → ((d : ℕ) → has l d ≡ true → is_dirty w.labels d (region_of k) ≡ true)
      → Storing w
  begin w h dirty = record {
    room = h.room;
    size = h.size;
    agreed = h.agreed;
    dirty = dirty;
    others = λ d m j hj ne. h.holds d m j hj ∙ new_elsewhere j ne;
  }

  store_one : (d : ℕ) → d < n → (w : Disks) → Storing w → Storing (apply b (write d k bytes) w)
  unfolding apply
  store_one d hd w h = record {
    room = h.room;
    size = stored_size n b w.area h.size d k hd hk bytes full;
    agreed = h.agreed;
    dirty = h.dirty;
    others =
        λ e m j hj ne. stays_right n b new w h.size d k hd hk bytes full new_here e j
        (member_below l n e h.agreed.known m) hj (h.others e m j hj ne);
  }

  stored_here : (d : ℕ) → d < n → (w : Disks) → Storing w → Right n b new (apply b (write d k bytes) w) d k
  unfolding apply
  stored_here d hd w h = now_right n b new w h.size d k hd hk bytes full new_here

  still_here : (d e : ℕ) → d < n → e < n → (w : Disks) → Storing w → Right n b new w e k
      → Right n b new (apply b (write d k bytes) w) e k
  unfolding apply
  still_here d e hd he w h q = stays_right n b new w h.size d k hd hk bytes full new_here e k he hk q

  -- a disk that has the block too holds the new contents
  holds_new : (w : Disks) → Storing w → (d : ℕ) → has l d ≡ true → Right n b new w d k → Holds n b new w d
  holds_new w h d m here j hj = go (same_or_not j k)
    where
      go : (j ≡ k) ⊎ (j ≢ k) → Right n b new w d j
      go (inl e) = rw e here
      go (inr ne) = h.others d m j hj ne

  open_to_restart : (w : Disks) → Storing w → Right n b new w (source l) k → Restartable n b new w
  open_to_restart w h here = record {
    room = h.room;
    size = h.size;
    recoverable = agreed_recoverable h.agreed;
    sources = λ x p. rw (h.agreed.only x p) (holds_new w h (source l) (source_has l h.agreed.filled) here);
    members = λ x p d m j hj. go d (rw (h.agreed.only x p) at m) j hj (same_or_not j k);
  }
    where
      go : (d : ℕ) → has l d ≡ true → (j : ℕ) → j < b → (j ≡ k) ⊎ (j ≢ k)
          → (is_dirty w.labels d (region_of j) ≡ true) ⊎ Right n b new w d j
      go d m j hj (inl e) = inl (rw e (h.dirty d m))
      go d m j hj (inr ne) = inr (h.others d m j hj ne)

  record Stored (w : Disks) : Type 0 where
    storing : Storing w
    at_source : Right n b new w (source l) k

  module _ (w : Disks) (h : InSync n b c l w)
      (dirty : (d : ℕ) → has l d ≡ true → is_dirty w.labels d (region_of k) ≡ true) where
    in_l : source l < n
    in_l = member_below l n (source l) h.agreed.known (source_has l h.agreed.filled)

    first : Stored (apply b (write (source l) k bytes) w)
    first =
        record {
          storing = store_one (source l) in_l w (begin w h dirty);
          at_source = stored_here (source l) in_l w (begin w h dirty);
        }

    next : (d : ℕ) → d < n → Keeps b Stored (write d k bytes)
    next d hd v s = record {
      storing = store_one d hd v s.storing;
      at_source = still_here d (source l) hd in_l v s.storing s.at_source;
    }

    later_cut : (later : List Store) → block_stores n l k bytes ≡ write (source l) k bytes ∷ later → (j : ℕ)
        → Restartable n b new (apply_all b (take j later) (apply b (write (source l) k bytes) w))
    later_cut later e j =
        let s = keeps_along b Stored (tail
        (subst (Each (Keeps b Stored)) e (each_block n l k bytes next))) _ first j in open_to_restart _ s.storing
        s.at_source
      where
        tail : {x : Store} {xs : List Store} → Each (Keeps b Stored) (x ∷ xs) → Each (Keeps b Stored) xs
        tail (cons p ps) = ps

    blocks_done : InSync n b new l (apply_all b (block_stores n l k bytes) w)
    unfolding block_stores
    blocks_done =
        let (s, all) = made_members b (λ d. write d k bytes) l Storing (λ d v. Right n b new v d k) n
        (λ d hd m v s. (store_one d hd v s, stored_here d hd v s))
        (λ d e hd m r v s q. still_here d e hd (omega arith) v s q)
        w (begin w h dirty) in
        record {
          room = s.room;
          size = s.size;
          agreed = s.agreed;
          holds = λ d m. holds_new _ s d m (all d (member_below l n d h.agreed.known m) m);
        }

-- ---- the whole write

module _ (c : Cabinet) (k : ℕ) (bytes : List ℕ) where
  abbrev s : State
  s = c.state

  abbrev n : ℕ
  n = s.disks

  abbrev b : ℕ
  b = s.blocks

  abbrev l : ℕ
  l = live s

  abbrev w : Disks
  w = disks_of s c.area

  module _ (pass : BlockPassed s c.area k bytes) where
    -- it keeps the disks consistent
    module _ (contents : Contents) (h : Consistent contents c) where
      abbrev moved : Disks
      moved = apply_all b (move_to_live s) w

      moved_sync : InSync n b contents l moved
      moved_sync = live_done c pass.fit pass.runs pass.some contents h

      still_dirty : (e q : ℕ) → is_dirty s.labels e q ≡ true → is_dirty moved.labels e q ≡ true
      still_dirty e q z = rw (move_dirty b s w e) z

      prepare_cut : Along b (Restartable n b contents) (preparations s k) w
      unfolding preparations
      prepare_cut =
          along_append b (Restartable n b contents) (move_to_live s) (marks n s.labels l (region_of k)) w
          (live_cut c pass.fit pass.runs pass.some contents h)
          (marks_cut n b contents l s.labels (region_of k) moved moved_sync still_dirty)

      abbrev marked : Disks
      marked = apply_all b (preparations s k) w

      prepare_done : InSync n b contents l marked
          × ((d : ℕ) → has l d ≡ true → is_dirty marked.labels d (region_of k) ≡ true)
      unfolding preparations
      prepare_done = rw apply_append (marks_done n b contents l s.labels (region_of k) moved moved_sync still_dirty)

      -- what the reference holds after these stores
      abbrev contents_with : List Store → Contents
      contents_with stores = cond (include (source l) k stores) (replaced k bytes contents) contents

      uncounted : (stores : List Store) → include (source l) k stores ≡ false
          → Restartable n b contents (apply_all b stores w)
          → Restartable n b (contents_with stores) (apply_all b stores w)
      uncounted stores e r = rw e r

      write_cut : (budget : ℕ)
          → Restartable n b (after_writes (carried_write k bytes budget s ∷ []) contents)
          (apply_all b (take budget (write_list s k bytes)) w)
      unfolding write_list after_writes counts
      write_cut budget =
          let (later, e) = block_stores_begin n l k bytes pass.some ((below_pow l n).0 (live_known s pass.fit)) in
          rw e (go later e (cut (preparations s k) (write (source l) k bytes ∷ later) budget))
        where
          go : (later : List Store) → block_stores n l k bytes ≡ write (source l) k bytes ∷ later
              → Cut (preparations s k) (write (source l) k bytes ∷ later) budget
              → Restartable n b (contents_with (take budget (preparations s k ++ write (source l) k bytes ∷ later)))
              (apply_all b (take budget (preparations s k ++ write (source l) k bytes ∷ later)) w)
          go later e (in_first j z) = rw z (uncounted _ (early s k (source l) k j) (prepare_cut j))
          go later e (in_second zero z) =
              rw (z, append-nil)
              (uncounted _ (prepared s k (source l) k) (sync_restartable n b contents prepare_done.0))
          go later e (in_second (suc j) z) =
              rw (z, include_append, source_store_lem, prepared, apply_append)
              (unfold apply_all in later_cut n b contents l k pass.known bytes pass.full marked
              prepare_done.0 prepare_done.1 later e j)

      write_done : (budget : ℕ) → length (write_list s k bytes) ≤ budget
          → InSync n b (after_writes (carried_write k bytes budget s ∷ []) contents) l
          (apply_all b (write_list s k bytes) w)
      unfolding write_list after_writes counts
      write_done budget i =
          rw (take_all budget _ i, write_counts s k bytes pass.fit pass.some, apply_append)
          (blocks_done n b contents l k pass.known bytes pass.full marked prepare_done.0 prepare_done.1)

    -- and the labels fit
    write_fits : Each (KeepsFit n b) (write_list s k bytes)
    unfolding write_list preparations
    write_fits =
        each_append
        (each_append (live-fits c pass.fit pass.runs pass.some)
        (each_mark _ _ l (region_of k) (λ d i. fit_mark _ _ d _ i (region_known b k pass.known))))
        (each_block _ l k bytes (λ d i. fit_write _ _ d k bytes))

    abbrev Current : Disks → Type 0
    Current v = FitCurrent n v.labels l

    write_current : Proper s → Current (apply_all b (write_list s k bytes) w)
    unfolding write_list preparations
    write_current p =
        rw (apply_append, apply_append)
        (keeps _ Current (each_block _ l k bytes (λ d i. current_write _ _ l d k bytes)) _
        (keeps _ Current (each_mark _ _ l (region_of k) (λ d i. current_mark _ _ l d (region_of k))) _
        (live_current c pass.fit pass.runs pass.some p)))

  pub write_preserves : (output : List ℕ) (budget : ℕ)
      → Preserves c (carried_by (Write k budget) bytes c) (write_outcome s c.area output k bytes budget)
  unfolding write_outcome block_refusals carried_by
  write_preserves output budget =
      unless_refused c _ _ output _ refl (λ ne. rw (ne_eqb _ 0 ne))
      (λ e.
      let pass = block_passed s c.area k bytes e in
      rw (eq-eqb _ 0 e)
      (carried_out c _ (write_list s k bytes) (write_fits pass) budget output _
      (λ contents h. write_cut pass contents h budget)
      (λ i. runs_with_lem c _ (write_list s k bytes) (write_fits pass) l output (write_current pass)
      (λ contents h. write_done pass contents h budget i))))

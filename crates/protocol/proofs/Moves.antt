-- A move, cut anywhere, leaves disks that a restart can take up, and whole, disks that run with the new set. Assumes
-- nothing.
use mathlib.Core.Path.{◌≡◌, refl}
use mathlib.Core.Logic.{◌⊎◌, inl, inr}
use mathlib.Core.Bool.{true}
use Prim.Native.Nat.{ℕ, ◌^◌, ◌≤◌, ◌<◌}
use native.Mathlib.Omega.{arith}
use lib.ListN.{length, length-set}
use Rattle.sets.specs.Sets.{has}
use Rattle.sets.proofs.Bounds.{member_below}
use Rattle.protocol.specs.Geometry.{area_size}
use Rattle.protocol.specs.States.{label_at, source}
use Rattle.protocol.specs.Stores.{Disks, propose, commit, with_committed, apply, apply_all}
use Rattle.protocol.specs.Lists.{proposals, commits, move}
use Rattle.protocol.specs.Reference.{Contents}
use Rattle.protocol.proofs.Lists.{each_proposal, each_commit}
use Rattle.protocol.proofs.Stores.{apply_append, Along, along_append, Keeps, keeps, keeps_along}
use Rattle.protocol.proofs.Labels.{field-set, proposed, committed}
use Rattle.protocol.proofs.States.{source_has}
use Rattle.protocol.proofs.Backing.{Backed}
use Rattle.protocol.proofs.MoveStores.{Proposing, begin_proposing, propose_keeps, proposing_recoverable}
use Rattle.protocol.proofs.MoveStores.{commit_backed, commit_shrinks, commit_keeps, committed_agree}
use Rattle.protocol.proofs.Consistency.{Holds, InSync, Restartable}

module _ (n b : ℕ) (c : Contents) where
  -- ---- commits: the end of a move, and of a restart

  -- s is what a restart may name, and all its members hold the reference contents
  pub record Committing (s : ℕ) (w : Disks) : Type 0 where
    pub restartable : Restartable n b c w
    pub backed : Backed w.labels s
    pub holds : (d : ℕ) → has s d ≡ true → Holds n b c w d

  commit_one : (s d : ℕ) → d < n → has s d ≡ true → Keeps b (Committing s) (commit d s)
  unfolding apply
  commit_one s d l m w h =
      let r = h.restartable in
      let room : d < length w.labels = omega (arith, r.room) in
      record {
        restartable = record {
          room = rw length-set r.room;
          size = r.size;
          recoverable = commit_keeps n s w.labels d room m h.backed r.recoverable;
          sources = λ y p. r.sources y (commit_shrinks n s w.labels d room m h.backed y p);
          members =
              λ y p e q k j. rw (field-set (λ z. z.dirty) w.labels d
              (with_committed (label_at w.labels d) s) refl e)
              (r.members y (commit_shrinks n s w.labels d room m h.backed y p) e q k j);
        };
        backed = commit_backed n s w.labels d room m h.backed;
        holds = h.holds;
      }

  module _ (s : ℕ) (w : Disks) (h : Committing s w) where
    pub commits_cut : Along b (Restartable n b c) (commits n s) w
    commits_cut k = (keeps_along b (Committing s) (each_commit n s (commit_one s)) w h k).restartable

    pub commits_done : InSync n b c s (apply_all b (commits n s) w)
    commits_done =
        let e = keeps b (Committing s) (each_commit n s (commit_one s)) w h in
        let r = e.restartable in
        record {
          room = r.room;
          size = r.size;
          agreed = committed_agree n s _ r.recoverable e.backed
              (λ d m. committed b n s w h.restartable.room d
              (member_below s n d (h.restartable.recoverable.known s h.backed) m) m);
          holds = e.holds;
        }

  -- ---- the whole move, from g to a set s that shares a disk with it

  record Proposed (g s : ℕ) (w : Disks) : Type 0 where
    room : n ≤ length w.labels
    size : length w.area ≡ area_size n b
    proposing : Proposing g s w.labels
    old : (d : ℕ) → has g d ≡ true → Holds n b c w d
    new : (d : ℕ) → has s d ≡ true → Holds n b c w d

  propose_one : (g s d : ℕ) → d < n → Keeps b (Proposed g s) (propose d s)
  unfolding apply
  propose_one g s d l w h = record {
    room = rw length-set h.room;
    size = h.size;
    proposing = propose_keeps g s w.labels d (omega (arith, h.room)) h.proposing;
    old = h.old;
    new = h.new;
  }

  module _ (g s : ℕ) (w : Disks) (h : InSync n b c g w) (a : ℕ) (in_g : has g a ≡ true) (in-s : has s a ≡ true)
      (filled : 0 < s) (known : s < 2 ^ n)
      (new-holds : (d : ℕ) → has s d ≡ true → Holds n b c w d) where
    begin : Proposed g s w
    begin = record {
      room = h.room;
      size = h.size;
      proposing = begin_proposing s h.agreed;
      old = h.holds;
      new = new-holds;
    }

    open_to_restart : (v : Disks) → Proposed g s v → Restartable n b c v
    open_to_restart v p = record {
      room = p.room;
      size = p.size;
      recoverable =
          proposing_recoverable n g s v.labels a in_g in-s h.agreed.filled h.agreed.known known
          p.proposing;
      sources = λ x q. holds x (source x) (p.proposing.only x q) (source_in x q);
      members = λ x q d m k l. inr (holds x d (p.proposing.only x q) m k l);
    }
      where
        holds : (x d : ℕ) → (x ≡ g) ⊎ (x ≡ s) → has x d ≡ true → Holds n b c v d
        holds x d (inl e) m = p.old d (rw e at m)
        holds x d (inr e) m = p.new d (rw e at m)

        source_in : (x : ℕ) → Backed v.labels x → has x (source x) ≡ true
        source_in x q = source_has x q.filled

    proposed_all : Proposed g s (apply_all b (proposals n s) w)
    proposed_all = keeps b (Proposed g s) (each_proposal n s (λ d l m. propose_one g s d l)) w begin

    half_way : Committing s (apply_all b (proposals n s) w)
    half_way = record {
      restartable = open_to_restart _ proposed_all;
      backed =
          record { filled = filled; each = λ d m. inl (proposed b n s w h.room d (member_below s n d known m) m) };
      holds = proposed_all.new;
    }

    pub move_cut : Along b (Restartable n b c) (move n s) w
    unfolding move
    move_cut = along_append b (Restartable n b c) (proposals n s) (commits n s) w
        (λ k. open_to_restart _ (keeps_along b (Proposed g s)
        (each_proposal n s (λ d l m. propose_one g s d l)) w begin k))
        (commits_cut s _ half_way)

    pub move_done : InSync n b c s (apply_all b (move n s) w)
    unfolding move
    move_done = rw apply_append (commits_done s _ half_way)

-- When the disks of a running cabinet and of a stopped one are consistent with the reference contents, and which single
-- stores keep it; so does a blank disk in the place of one that is not current. Assumes nothing.
use mathlib.Core.Path.{◌≡◌, refl, sym, ◌∙◌}
use mathlib.Core.Logic.{◌≢◌, ◌⊎◌, inl, inr}
use mathlib.Core.Bool.{true, false}
use mathlib.Core.List.{List}
use Prim.Native.Nat.{ℕ, ◌≤◌, ◌<◌}
use native.Mathlib.Omega.{arith}
use lib.ListN.{length, length-set}
use lib.Seq.{get_or-set_same, get_or-set_other}
use Rattle.sets.proofs.Tests.{same_or_not}
use Rattle.sets.specs.Sets.{has}
use Rattle.sets.proofs.Membership.{outsider_differs}
use Rattle.sets.proofs.Bounds.{member_below}
use Rattle.label.specs.Bytes.{blank}
use Rattle.protocol.specs.declared.Power.{Power}
use Rattle.protocol.specs.declared.Power.TheVariants.{Stopped, Running}
use Rattle.protocol.specs.Geometry.{block_size, region_of, area_size, block, with_block}
use Rattle.protocol.specs.States.{label_at, committed_at, tentative_at, is_dirty, source}
use Rattle.protocol.specs.Stores.{Disks, copy, with_dirty, on_area, on_label, apply}
use Rattle.protocol.specs.Naming.{second, Backs}
use Rattle.protocol.specs.Outcomes.{disks_of}
use Rattle.protocol.specs.Calls.{with_blank_disk}
use Rattle.protocol.specs.History.{Cabinet}
use Rattle.protocol.specs.Reference.{Contents}
use Rattle.protocol.proofs.Blocks.{block_length, stored_size, stored_same, stored_other}
use Rattle.protocol.proofs.Blocks.{zeroed_size, zeroed_other}
use Rattle.protocol.proofs.Labels.{field-set}
use Rattle.protocol.proofs.States.{source_has}
use Rattle.protocol.proofs.Backing.{Backed, Agreed, Recoverable, agreed_recoverable}
use Rattle.protocol.proofs.MoveStores.{blank_agreed}

module _ (n b : ℕ) (c : Contents) where
  -- block k of disk d is the reference block
  abbrev pub Right : Disks → ℕ → ℕ → Type 0
  Right w d k = block b w.area d k ≡ c k

  -- disk d holds the reference contents
  abbrev pub Holds : Disks → ℕ → Type 0
  Holds w d = (k : ℕ) → k < b → Right w d k

  -- running with g: the labels agree on it, and every member holds the reference contents
  pub record InSync (g : ℕ) (w : Disks) : Type 0 where
    pub room : n ≤ length w.labels
    pub size : length w.area ≡ area_size n b
    pub agreed : Agreed n w.labels g
    pub holds : (d : ℕ) → has g d ≡ true → Holds w d

  -- stopped: whichever set a restart may name, its source holds the reference contents, and a member's block that
  -- differs from them lies in a region that is dirty on that member
  pub record Restartable (w : Disks) : Type 0 where
    pub room : n ≤ length w.labels
    pub size : length w.area ≡ area_size n b
    pub recoverable : Recoverable n w.labels
    pub sources : (x : ℕ) → Backed w.labels x → Holds w (source x)
    pub members : (x : ℕ) → Backed w.labels x → (d : ℕ) → has x d ≡ true
        → (k : ℕ) → k < b → (is_dirty w.labels d (region_of k) ≡ true) ⊎ Right w d k

  -- the power goes
  pub sync_restartable : {g : ℕ} {w : Disks} → InSync g w → Restartable w
  sync_restartable {g} h = record {
    room = h.room;
    size = h.size;
    recoverable = agreed_recoverable h.agreed;
    sources = λ x p. h.holds (source x) (rw (sym (h.agreed.only x p)) (source_has x p.filled));
    members = λ x p d m k l. inr (h.holds d (rw (h.agreed.only x p) at m) k l);
  }

  -- ---- a block that is stored as the reference has it

  module _ (w : Disks) (size : length w.area ≡ area_size n b) (d k : ℕ) (hd : d < n) (hk : k < b)
      (bytes : List ℕ) (full : length bytes ≡ block_size) (right : bytes ≡ c k) where
    abbrev stored : Disks
    stored = on_area w (with_block b w.area d k bytes)

    pub now_right : Right stored d k
    now_right = stored_same n b w.area size d k hd hk bytes full ∙ right

    -- no right block is lost
    pub stays_right : (e m : ℕ) → e < n → m < b → Right w e m → Right stored e m
    stays_right e m he hm old = go (same_or_not d e) (same_or_not k m)
      where
        go : (d ≡ e) ⊎ (d ≢ e) → (k ≡ m) ⊎ (k ≢ m) → Right stored e m
        go (inl p) (inl q) = rw (← p, ← q) now_right
        go (inl p) (inr q) = stored_other n b w.area size d k hd hk bytes full e m he hm (inr q) ∙ old
        go (inr p) q = stored_other n b w.area size d k hd hk bytes full e m he hm (inl p) ∙ old

    sync_stores : (g : ℕ) → InSync g w → InSync g stored
    sync_stores g h = record {
      room = h.room;
      size = stored_size n b w.area size d k hd hk bytes full;
      agreed = h.agreed;
      holds = λ e m j l. stays_right e j (member_below g n e h.agreed.known m) l (h.holds e m j l);
    }

    restartable_stores : Restartable w → Restartable stored
    restartable_stores h = record {
      room = h.room;
      size = stored_size n b w.area size d k hd hk bytes full;
      recoverable = h.recoverable;
      sources =
          λ x p j l. stays_right (source x) j (below x p (source x) (source_has x p.filled)) l (h.sources x p j l);
      members = λ x p e m j l. go e j (below x p e m) l (h.members x p e m j l);
    }
      where
        below : (x : ℕ) → Backed w.labels x → (e : ℕ) → has x e ≡ true → e < n
        below x p e m = member_below x n e (h.recoverable.known x p) m

        go : (e j : ℕ) → e < n → j < b → (is_dirty w.labels e (region_of j) ≡ true) ⊎ Right w e j
            → (is_dirty w.labels e (region_of j) ≡ true) ⊎ Right stored e j
        go e j he l (inl q) = inl q
        go e j he l (inr q) = inr (stays_right e j he l q)

  -- ---- a block that is copied from a disk a that has it right

  module _ (w : Disks) (size : length w.area ≡ area_size n b) (a d k : ℕ) (ha : a < n) (hd : d < n) (hk : k < b)
      (right : Right w a k) where
    full : length (block b w.area a k) ≡ block_size
    full = block_length n b w.area size a k ha hk

    pub copied : Right (apply b (copy a d k) w) d k
    unfolding apply
    copied = now_right w size d k hd hk _ full right

    pub copy_stays : (e m : ℕ) → e < n → m < b → Right w e m → Right (apply b (copy a d k) w) e m
    unfolding apply
    copy_stays = stays_right w size d k hd hk _ full right

    pub sync_copies : (g : ℕ) → InSync g w → InSync g (apply b (copy a d k) w)
    unfolding apply
    sync_copies = sync_stores w size d k hd hk _ full right

    pub restartable_copies : Restartable w → Restartable (apply b (copy a d k) w)
    unfolding apply
    restartable_copies = restartable_stores w size d k hd hk _ full right

  -- ---- a dirty map

  module _ (w : Disks) (d map : ℕ) where
    abbrev dirtied : Disks
    dirtied = on_label w d (with_dirty (label_at w.labels d) map)

    same_committed : (e : ℕ) → committed_at dirtied.labels e ≡ committed_at w.labels e
    same_committed = field-set (λ l. l.committed) w.labels d _ refl

    same_tentative : (e : ℕ) → tentative_at dirtied.labels e ≡ tentative_at w.labels e
    same_tentative = field-set (λ l. l.tentative) w.labels d _ refl

    -- it changes nothing of what is backed
    backs_then : (x e : ℕ) → Backs second (label_at dirtied.labels e) x → Backs second (label_at w.labels e) x
    backs_then x e (inl q) = inl (sym (same_tentative e) ∙ q)
    backs_then x e (inr q) = inr (sym (same_committed e) ∙ q)

    backs_still : (x e : ℕ) → Backs second (label_at w.labels e) x → Backs second (label_at dirtied.labels e) x
    backs_still x e (inl q) = inl (same_tentative e ∙ q)
    backs_still x e (inr q) = inr (same_committed e ∙ q)

    backed_then : {x : ℕ} → Backed dirtied.labels x → Backed w.labels x
    backed_then {x} p = record { filled = p.filled; each = λ e m. backs_then x e (p.each e m) }

    pub backed_still : {x : ℕ} → Backed w.labels x → Backed dirtied.labels x
    backed_still {x} p = record { filled = p.filled; each = λ e m. backs_still x e (p.each e m) }

    pub sync_dirties : (g : ℕ) → InSync g w → InSync g dirtied
    sync_dirties g h = record {
      room = rw length-set h.room;
      size = h.size;
      agreed = record {
        filled = h.agreed.filled;
        known = h.agreed.known;
        members = λ e m. (same_committed e ∙ (h.agreed.members e m).0, same_tentative e ∙ (h.agreed.members e m).1);
        only = λ x p. h.agreed.only x (backed_then p);
      };
      holds = h.holds;
    }

    recoverable_dirties : Recoverable n w.labels → Recoverable n dirtied.labels
    recoverable_dirties h =
        let a = h.anchor in
        record {
          anchor = a;
          anchored = λ x p. h.anchored x (backed_then p);
          decided =
              λ m q e x p. h.decided m (rw (same_committed a) at q) (sym (same_tentative m) ∙ e ∙ same_committed a) x
              (backed_then p) ∙ sym (same_committed a);
          known = λ x p. h.known x (backed_then p);
          some_set = (h.some_set.0, backed_still h.some_set.1);
        }

    -- where each region that is not dirty any more is right on d
    pub restartable_dirties : d < n
        → ((k : ℕ) → k < b → has map (region_of k) ≡ is_dirty w.labels d (region_of k) ⊎ Right w d k)
        → Restartable w → Restartable dirtied
    restartable_dirties hd left h = record {
      room = rw length-set h.room;
      size = h.size;
      recoverable = recoverable_dirties h.recoverable;
      sources = λ x p. h.sources x (backed_then p);
      members = λ x p e m k l. go e k (same_or_not e d) (left k l) (h.members x (backed_then p) e m k l);
    }
      where
        go : (e k : ℕ) → (e ≡ d) ⊎ (e ≢ d) → (has map (region_of k) ≡ is_dirty w.labels d (region_of k)) ⊎ Right w d k
            → (is_dirty w.labels e (region_of k) ≡ true) ⊎ Right w e k
            → (is_dirty dirtied.labels e (region_of k) ≡ true) ⊎ Right w e k
        go e k p q (inr r) = inr r
        go e k (inr p) q (inl z) =
            inl (rw (get_or-set_other w.labels d e (with_dirty (label_at w.labels d) map) blank p) z)
        go e k (inl p) (inr q) (inl z) = inr (rw p q)
        go e k (inl p) (inl q) (inl z) =
            inl (rw (
              p,
              get_or-set_same w.labels d (with_dirty (label_at w.labels d) map) blank
                  (omega (arith, h.room)),
            ) (q ∙ (rw p at z)))

  -- ---- a blank disk in the place of one that is not current

  pub sync_blanks : (g d : ℕ) (w : Disks) → d < n → has g d ≡ false → InSync g w → InSync g (with_blank_disk b w d)
  sync_blanks g d w hd out h = record {
    room = rw length-set h.room;
    size = zeroed_size n b w.area h.size d hd;
    agreed = blank_agreed n w.labels g d (omega (arith, h.room)) out h.agreed;
    holds =
        λ e m k l. zeroed_other n b w.area h.size d hd e k (member_below g n e h.agreed.known m) l
        (λ q. outsider_differs g d e out m (sym q))
        ∙ h.holds e m k l;
  }

-- ---- a cabinet that is consistent with the reference contents

-- in sync while it runs, and restartable while it is stopped
abbrev pub Held : ℕ → ℕ → Contents → Disks → Power → Type 0
Held n b contents w Stopped = Restartable n b contents w
Held n b contents w (Running g) = InSync n b contents g w

pub record Consistent (contents : Contents) (c : Cabinet) : Type 0 where
  pub held : Held c.state.disks c.state.blocks contents (disks_of c.state c.area) c.state.power

pub held_restartable : (n b : ℕ) (contents : Contents) (w : Disks) (p : Power) → Held n b contents w p
    → Restartable n b contents w
held_restartable n b contents w Stopped h = h
held_restartable n b contents w (Running g) h = sync_restartable n b contents h

pub held_in_sync : {n b : ℕ} {contents : Contents} {w : Disks} {g : ℕ} (p : Power) → p ≡ Running g
    → Held n b contents w p → InSync n b contents g w
held_in_sync Stopped e h = absurd (let z : ◌≡◌ {A = ℕ} 0 1 = cc in omega arith)
held_in_sync {g = g} (Running x) e h = rw (let z : x ≡ g = cc in z) at h

-- What one label store of a move does to the sets that labels back, and what a blank label does. Assumes nothing.
use mathlib.Core.Path.{◌≡◌, refl, sym, ap, ◌∙◌}
use mathlib.Core.Logic.{◌≢◌, ◌⊎◌, inl, inr}
use mathlib.Core.Bool.{true, false}
use mathlib.Core.List.{List}
use Prim.Native.Nat.{ℕ, ◌^◌, ◌<◌}
use native.Mathlib.Omega.{arith}
use lib.ListN.{length, set}
use lib.Seq.{get_or-set_same, get_or-set_other}
use Rattle.sets.specs.Sets.{has}
use Rattle.sets.proofs.Tests.{clash, same_or_not}
use Rattle.sets.proofs.Membership.{has_empty}
use Rattle.label.specs.declared.Label.{Label}
use Rattle.label.specs.Bytes.{blank}
use Rattle.protocol.specs.States.{label_at, committed_at, tentative_at}
use Rattle.protocol.specs.Stores.{with_tentative, with_committed}
use Rattle.protocol.specs.Naming.{second, Backs}
use Rattle.protocol.proofs.Labels.{at_set}
use Rattle.protocol.proofs.Backing.{Backed, Agreed, Recoverable}

-- a label store that names s backs no other set that was not backed before
module _ (labels : List Label) (d : ℕ) (l : Label) (room : d < length labels) where
  backed_before : (s : ℕ) → ((y : ℕ) → 0 < y → y ≢ s → Backs second l y → Backs second (label_at labels d) y)
      → (x : ℕ) → x ≢ s → Backed (set labels d l) x → Backed labels x
  backed_before s old x ne p = record { filled = p.filled; each = λ e m. go e (same_or_not e d) (p.each e m) }
    where
      go : (e : ℕ) → (e ≡ d) ⊎ (e ≢ d) → Backs second (label_at (set labels d l) e) x
          → Backs second (label_at labels e) x
      go e (inl q) h = rw q (old x p.filled ne (rw (q, get_or-set_same labels d l blank room) at h))
      go e (inr q) h = rw (get_or-set_other labels d e l blank q) at h

-- the labels after a proposal of s on disk d, and after a commit
abbrev proposed_on : List Label → ℕ → ℕ → List Label
proposed_on labels d s = set labels d (with_tentative (label_at labels d) s)

abbrev committed_on : List Label → ℕ → ℕ → List Label
committed_on labels d s = set labels d (with_committed (label_at labels d) s)

module _ (labels : List Label) (d s : ℕ) (room : d < length labels) where
  propose_backs : (x : ℕ) → x ≢ s → Backed (proposed_on labels d s) x → Backed labels x
  propose_backs = backed_before labels d (with_tentative (label_at labels d) s) room s old
    where
      old : (y : ℕ) → 0 < y → y ≢ s → Backs second (with_tentative (label_at labels d) s) y
          → Backs second (label_at labels d) y
      old y f ne (inl e) = absurd (ne (sym e))
      old y f ne (inr e) = inr e

  commit_backs : (x : ℕ) → x ≢ s → Backed (committed_on labels d s) x → Backed labels x
  commit_backs = backed_before labels d (with_committed (label_at labels d) s) room s old
    where
      old : (y : ℕ) → 0 < y → y ≢ s → Backs second (with_committed (label_at labels d) s) y
          → Backs second (label_at labels d) y
      old y f ne (inl e) = absurd (omega arith)
      old y f ne (inr e) = absurd (ne (sym e))

-- ---- a blank label

-- it backs no set, so where a disk outside g gets one, the labels still agree on g
pub blank_agreed : (n : ℕ) (labels : List Label) (g d : ℕ) → d < length labels → has g d ≡ false → Agreed n labels g
    → Agreed n (set labels d blank) g
blank_agreed n labels g d room out h = record {
  filled = h.filled;
  known = h.known;
  members =
      at_set (λ e l. has g e ≡ true → (l.committed ≡ g) × (l.tentative ≡ 0)) labels d blank room
      (λ m. clash m out) (λ e ne. h.members e);
  only = λ x p. h.only x (backed_before labels d blank room 0 none x (some x p.filled) p);
}
  where
    some : (x : ℕ) → 0 < x → x ≢ 0
    some x l e = omega arith

    none : (y : ℕ) → 0 < y → y ≢ 0 → Backs second blank y → Backs second (label_at labels d) y
    none y f ne (inl e) = absurd (ne (sym e))
    none y f ne (inr e) = absurd (ne (sym e))

-- ---- the first half of a move from g to s: each member of g still has it committed, and has s as its T or none

pub record Proposing (g s : ℕ) (labels : List Label) : Type 0 where
  pub members : (d : ℕ) → has g d ≡ true
      → (committed_at labels d ≡ g) × ((tentative_at labels d ≡ 0) ⊎ (tentative_at labels d ≡ s))
  pub only : (x : ℕ) → Backed labels x → (x ≡ g) ⊎ (x ≡ s)

pub begin_proposing : {n : ℕ} {labels : List Label} {g : ℕ} (s : ℕ) → Agreed n labels g → Proposing g s labels
begin_proposing s h =
    record { members = λ d m. ((h.members d m).0, inl (h.members d m).1); only = λ x p. inl (h.only x p) }

pub propose_keeps : (g s : ℕ) (labels : List Label) (d : ℕ) → d < length labels → Proposing g s labels
    → Proposing g s (proposed_on labels d s)
propose_keeps g s labels d room h = record {
  members =
      at_set (λ e l. has g e ≡ true → (l.committed ≡ g) × ((l.tentative ≡ 0) ⊎ (l.tentative ≡ s))) labels d _ room
      (λ m. ((h.members d m).0, inr refl)) (λ e ne m. h.members e m);
  only = λ x p. go x p (same_or_not x s);
}
  where
    go : (x : ℕ) → Backed (proposed_on labels d s) x → (x ≡ s) ⊎ (x ≢ s) → (x ≡ g) ⊎ (x ≡ s)
    go x p (inl e) = inr e
    go x p (inr ne) = h.only x (propose_backs labels d s room x ne p)

-- with a disk in both sets the labels are recoverable
pub proposing_recoverable : (n g s : ℕ) (labels : List Label) (a : ℕ) → has g a ≡ true → has s a ≡ true → 0 < g
    → g < 2 ^ n → s < 2 ^ n
    → Proposing g s labels → Recoverable n labels
proposing_recoverable n g s labels a in_g in-s filled kg ks h = record {
  anchor = a;
  anchored = λ x p. either (λ y. has y a ≡ true) x (h.only x p) in_g in-s;
  decided = λ m q e x p. h-decided m (rw c at q) (e ∙ c) x (h.only x p) ∙ sym c;
  known = λ x p. either (λ y. y < 2 ^ n) x (h.only x p) kg ks;
  some_set = (g, record { filled = filled; each = λ d m. inr (h.members d m).0 });
}
  where
    c : committed_at labels a ≡ g
    c = (h.members a in_g).0

    either : (P : ℕ → Type 0) (x : ℕ) → (x ≡ g) ⊎ (x ≡ s) → P g → P s → P x
    either P x (inl e) pg ps = rw e pg
    either P x (inr e) pg ps = rw e ps

    h-decided : (m : ℕ) → has g m ≡ true → tentative_at labels m ≡ g → (x : ℕ) → (x ≡ g) ⊎ (x ≡ s) → x ≡ g
    h-decided m q e x (inl z) = z
    h-decided m q e x (inr z) = go (h.members m q).1
      where
        go : (tentative_at labels m ≡ 0) ⊎ (tentative_at labels m ≡ s) → x ≡ g
        go (inl t) = absurd (omega (arith, sym e ∙ t))
        go (inr t) = z ∙ sym t ∙ e

-- ---- the second half, which is also the end of a restart: s is backed, and each store commits it on one more member

module _ (n s : ℕ) (labels : List Label) (d : ℕ) (room : d < length labels) (member : has s d ≡ true)
    (backed : Backed labels s) where
  abbrev now : List Label
  now = committed_on labels d s

  pub commit_backed : Backed now s
  commit_backed = record {
    filled = backed.filled;
    each = at_set (λ e l. has s e ≡ true → Backs second l s) labels d _ room (λ m. inr refl) (λ e ne. backed.each e);
  }

  -- no set comes to be backed
  pub commit_shrinks : (x : ℕ) → Backed now x → Backed labels x
  commit_shrinks x p = go (same_or_not x s)
    where
      go : (x ≡ s) ⊎ (x ≢ s) → Backed labels x
      go (inl e) = rw e backed
      go (inr ne) = commit_backs labels d s room x ne p

  pub commit_keeps : Recoverable n labels → Recoverable n now
  commit_keeps h = record {
    anchor = a;
    anchored = λ x p. h.anchored x (commit_shrinks x p);
    decided = λ m q e x p. still m q e x p (same_or_not a d) (same_or_not m d);
    known = λ x p. h.known x (commit_shrinks x p);
    some_set = (s, commit_backed);
  }
    where
      a : ℕ
      a = h.anchor

      same : (e : ℕ) → e ≢ d → label_at now e ≡ label_at labels e
      same e ne = get_or-set_other labels d e _ blank ne

      new : label_at now d ≡ with_committed (label_at labels d) s
      new = get_or-set_same labels d _ blank room

      -- the anchor has committed s and has no T: what is backed is its C
      anchor_now : (x : ℕ) → 0 < x → Backs second (label_at now d) x → x ≡ committed_at now d
      anchor_now x f (inl e) = absurd (omega (arith, sym e ∙ ap (λ l. l.tentative) new))
      anchor_now x f (inr e) = sym e

      still : (m : ℕ) → has (committed_at now a) m ≡ true → tentative_at now m ≡ committed_at now a → (x : ℕ)
          → Backed now x
          → (a ≡ d) ⊎ (a ≢ d) → (m ≡ d) ⊎ (m ≢ d) → x ≡ committed_at now a
      still m q e x p (inl z) v =
          rw z (anchor_now x p.filled (p.each d (rw z at (h.anchored x (commit_shrinks x p)))))
      still m q e x p (inr z) (inl v) =
          let none : committed_at now a ≡ 0 = sym e ∙ ap (tentative_at now) v ∙ ap (λ l. l.tentative) new in
          clash (rw none at q) (has_empty m)
      still m q e x p (inr z) (inr v) =
          let ca : committed_at now a ≡ committed_at labels a = ap (λ l. l.committed) (same a z) in
          let tm : tentative_at now m ≡ tentative_at labels m = ap (λ l. l.tentative) (same m v) in
          h.decided m (rw ca at q) (sym tm ∙ e ∙ ca) x (commit_shrinks x p) ∙ sym ca

-- once every member has committed it, the labels agree on s
pub committed_agree : (n s : ℕ) (labels : List Label) → Recoverable n labels → Backed labels s
    → ((d : ℕ) → has s d ≡ true → (committed_at labels d ≡ s) × (tentative_at labels d ≡ 0)) → Agreed n labels s
committed_agree n s labels h backed all = record {
  filled = backed.filled;
  known = h.known s backed;
  members = all;
  only = λ x p. go x p.filled (p.each h.anchor (h.anchored x p));
}
  where
    at_anchor : (committed_at labels h.anchor ≡ s) × (tentative_at labels h.anchor ≡ 0)
    at_anchor = all h.anchor (h.anchored s backed)

    go : (x : ℕ) → 0 < x → Backs second (label_at labels h.anchor) x → x ≡ s
    go x f (inl e) = absurd (omega (arith, sym e ∙ at_anchor.1))
    go x f (inr e) = sym e ∙ at_anchor.0

-- The labels of a list after a store on one of them, and after a whole move. Assumes nothing.
use mathlib.Core.Path.{◌≡◌, refl, sym, ap, ◌∙◌}
use mathlib.Core.Logic.{◌≢◌, ◌⊎◌, inl, inr}
use mathlib.Core.Bool.{true, false, and-false}
use mathlib.Core.List.{List, [], ◌∷◌}
use Prim.Native.Nat.{ℕ, zero, suc, ◌≤◌, ◌<◌}
use native.Mathlib.Omega.{arith}
use native.Mathlib.Decide.{dec_lt}
use lib.ListN.{length, set, length-set}
use lib.Seq.{get_or-set_same, get_or-set_other}
use borrow.Author.Tests.{eq-eqb}
use Rattle.sets.specs.Sets.{has, union, difference, singleton}
use Rattle.sets.proofs.Tests.{clash, and_parts, same_or_not}
use Rattle.sets.proofs.Membership.{has_empty}
use Rattle.sets.proofs.Operations.{has-union, has-difference, has-singleton, has_with}
use Rattle.label.specs.declared.Label.{Label}
use Rattle.label.specs.Bytes.{blank}
use Rattle.protocol.specs.declared.State.{State}
use Rattle.protocol.specs.States.{label_at, committed_at, tentative_at, is_dirty, live}
use Rattle.protocol.specs.Stores.{Disks, mark, clear, propose, commit, with_dirty, with_committed}
use Rattle.protocol.specs.Stores.{on_label, apply, apply_all}
use Rattle.protocol.specs.Lists.{proposals, commits, move, move_to_live}
use Rattle.protocol.proofs.Lists.{each_move, each_live}
use Rattle.protocol.proofs.Stores.{Along, keeps, keeps_along, made_members}

-- what holds of the new label of d, and of each other label, holds of each label afterwards
pub at_set : (Q : ℕ → Label → Type 0) (labels : List Label) (d : ℕ) (l : Label) → d < length labels
    → Q d l → ((e : ℕ) → e ≢ d → Q e (label_at labels e)) → (e : ℕ) → Q e (label_at (set labels d l) e)
at_set Q labels d l h new others e = go (same_or_not e d)
  where
    go : (e ≡ d) ⊎ (e ≢ d) → Q e (label_at (set labels d l) e)
    go (inl q) = rw (q, get_or-set_same labels d l blank h) new
    go (inr q) = rw (get_or-set_other labels d e l blank q) (others e q)

-- a field that the new label of d has as the old one had it
pub field-set : (f : Label → ℕ) (labels : List Label) (d : ℕ) (l : Label) → f l ≡ f (label_at labels d)
    → (e : ℕ) → f (label_at (set labels d l) e) ≡ f (label_at labels e)
field-set f [] d l q e = refl
field-set f (x ∷ labels) zero l q zero = q
field-set f (x ∷ labels) zero l q (suc e) = refl
field-set f (x ∷ labels) (suc d) l q zero = refl
field-set f (x ∷ labels) (suc d) l q (suc e) = field-set f labels d l q e

-- a blank label in the place of one is blank there: past the end of a list all are
pub blank-set : (labels : List Label) (d : ℕ) → label_at (set labels d blank) d ≡ blank
blank-set [] d = refl
blank-set (x ∷ labels) zero = refl
blank-set (x ∷ labels) (suc d) = blank-set labels d

-- a label after a store on one of them is what it was, or it is that one and has what was stored; past the end of a
-- list nothing is stored
pub label_set : (labels : List Label) (d : ℕ) (l : Label) (e : ℕ)
    → (label_at (set labels d l) e ≡ label_at labels e) ⊎ ((e ≡ d) × (label_at (set labels d l) e ≡ l))
label_set [] d l e = inl refl
label_set (x ∷ labels) zero l zero = inr (refl, refl)
label_set (x ∷ labels) zero l (suc e) = inl refl
label_set (x ∷ labels) (suc d) l zero = inl refl
label_set (x ∷ labels) (suc d) l (suc e) = go (label_set labels d l e)
  where
    go : (label_at (set labels d l) e ≡ label_at labels e) ⊎ ((e ≡ d) × (label_at (set labels d l) e ≡ l))
        → (label_at (set labels d l) e ≡ label_at labels e) ⊎ ((suc e ≡ suc d) × (label_at (set labels d l) e ≡ l))
    go (inl q) = inl q
    go (inr (same, q)) = inr (ap suc same, q)

-- past the end of a list all labels are blank, also after a store there
beyond_end : (labels : List Label) (d : ℕ) (l : Label) → length labels ≤ d → label_at (set labels d l) d ≡ blank
beyond_end [] d l h = refl
beyond_end (x ∷ labels) zero l h = absurd (omega arith)
beyond_end (x ∷ labels) (suc d) l h = beyond_end labels d l (omega arith)

-- ---- dirty bits

module _ (b d r : ℕ) (w : Disks) where
  abbrev map : ℕ
  map = (label_at w.labels d).dirty

  abbrev marked : Label
  marked = with_dirty (label_at w.labels d) (union map (singleton r))

  abbrev cleared : Label
  cleared = with_dirty (label_at w.labels d) (difference map (singleton r))

  -- a mark makes its bit stand, and clears none
  pub mark_sets : d < length w.labels → is_dirty (apply b (mark d r) w).labels d r ≡ true
  unfolding apply
  mark_sets room = rw (get_or-set_same w.labels d marked blank room) (has_with map r)

  pub mark_keeps : (e q : ℕ) → is_dirty w.labels e q ≡ true → is_dirty (apply b (mark d r) w).labels e q ≡ true
  unfolding apply
  mark_keeps e q h = go (label_set w.labels d marked e)
    where
      go : (label_at (set w.labels d marked) e ≡ label_at w.labels e)
          ⊎ ((e ≡ d) × (label_at (set w.labels d marked) e ≡ marked))
          → is_dirty (set w.labels d marked) e q ≡ true
      go (inl same) = rw same h
      go (inr (same, new)) = rw (new, has-union) (rw (rw same at h))

  -- a clear makes no bit stand, and its own not stand
  pub clear_keeps : (e q : ℕ) → is_dirty (apply b (clear d r) w).labels e q ≡ true → is_dirty w.labels e q ≡ true
  unfolding apply
  clear_keeps e q h = go (label_set w.labels d cleared e)
    where
      go : (label_at (set w.labels d cleared) e ≡ label_at w.labels e)
          ⊎ ((e ≡ d) × (label_at (set w.labels d cleared) e ≡ cleared))
          → is_dirty w.labels e q ≡ true
      go (inl same) = rw same at h
      go (inr (same, new)) =
          rw same (and_parts (has map q) _ (sym (has-difference map (singleton r) q) ∙ (rw new at h))).0

  pub clear_clears : is_dirty (apply b (clear d r) w).labels d r ≡ false
  unfolding apply
  clear_clears = go (dec_lt d (length w.labels))
    where
      go : Dec (d < length w.labels) → is_dirty (set w.labels d cleared) d r ≡ false
      go (yes room) =
          rw (get_or-set_same w.labels d cleared blank room)
          (has-difference map (singleton r) r ∙ rw (has-singleton r r, eq-eqb r r refl) (and-false (has map r)))
      go (no beyond) = rw (beyond_end w.labels d cleared (omega arith)) (has_empty r)

-- a move leaves them
pub move_dirty : (b : ℕ) (s : State) (w : Disks) (e : ℕ)
    → (label_at (apply_all b (move_to_live s) w).labels e).dirty ≡ (label_at w.labels e).dirty
move_dirty b s w e = keeps b Kept (each_live s (λ d i m v. propose_keeps d v) (λ d i m v. commit_keeps d v)) w refl
  where
    Kept : Disks → Type 0
    Kept v = (label_at v.labels e).dirty ≡ (label_at w.labels e).dirty

    propose_keeps : (d : ℕ) (v : Disks) → Kept v → Kept (apply b (propose d (live s)) v)
    propose_keeps d v q = unfold apply in field-set (λ x. x.dirty) v.labels d _ refl e ∙ q

    commit_keeps : (d : ℕ) (v : Disks) → Kept v → Kept (apply b (commit d (live s)) v)
    commit_keeps d v q = unfold apply in field-set (λ x. x.dirty) v.labels d _ refl e ∙ q

-- and the area, since it stores on labels only
pub move_area : (b : ℕ) (s : State) (w : Disks) → (apply_all b (move_to_live s) w).area ≡ w.area
unfolding apply
move_area b s w = keeps b (λ v. v.area ≡ w.area) (each_live s (λ d i m v q. q) (λ d i m v q. q)) w refl

-- ---- moves that may be cut

-- a move to s leaves the area, and the label of each disk that is not in s
module _ (b n s d : ℕ) (w : Disks) (out : has s d ≡ false) where
  abbrev Left : Disks → Type 0
  Left v = (label_at v.labels d ≡ label_at w.labels d) × (v.area ≡ w.area)

  other : (e : ℕ) → has s e ≡ true → (v : Disks) (l : Label) → Left v → Left (on_label v e l)
  other e m v l (q, a) = (get_or-set_other v.labels e d l blank (λ z. clash m (rw (sym z) out)) ∙ q, a)

  pub move_leaves : Along b Left (move n s) w
  unfolding apply
  move_leaves =
      keeps_along b Left
      (each_move n s (λ e i m v. other e m v _) (λ e i m v. other e m v _)) w (refl, refl)

-- ---- whole moves

module _ (b n s : ℕ) (w : Disks) (room : n ≤ length w.labels) where
  abbrev Room : Disks → Type 0
  Room v = n ≤ length v.labels

  pub proposed : (d : ℕ) → d < n → has s d ≡ true → tentative_at (apply_all b (proposals n s) w).labels d ≡ s
  unfolding proposals apply
  proposed = (made_members b (λ d. propose d s) s Room (λ d v. tentative_at v.labels d ≡ s) n
      (λ d l m v k. (rw length-set k, ap (λ x. x.tentative) (get_or-set_same v.labels d _ blank (omega arith))))
      (λ d e l m r v k q. ap (λ x. x.tentative) (get_or-set_other v.labels d e _ blank (λ z. omega arith)) ∙ q)
      w room).1

  pub committed : (d : ℕ) → d < n → has s d ≡ true
      → (committed_at (apply_all b (commits n s) w).labels d ≡ s)
      × (tentative_at (apply_all b (commits n s) w).labels d ≡ 0)
  unfolding commits apply
  committed =
      (made_members b (λ d. commit d s) s Room
      (λ d v. (committed_at v.labels d ≡ s) × (tentative_at v.labels d ≡ 0)) n
      (λ d l m v k. (rw length-set k, (ap (λ x. x.committed) (now v d l k), ap (λ x. x.tentative) (now v d l k))))
      (λ d e l m r v k q.
      let same = get_or-set_other v.labels d e (with_committed (label_at v.labels d) s) blank (λ z. omega arith) in
      (ap (λ x. x.committed) same ∙ q.0, ap (λ x. x.tentative) same ∙ q.1))
      w room).1
    where
      now : (v : Disks) (d : ℕ) → d < n → Room v
          → label_at (set v.labels d (with_committed (label_at v.labels d) s)) d
          ≡ with_committed (label_at v.labels d) s
      now v d l k = get_or-set_same v.labels d _ blank (omega arith)

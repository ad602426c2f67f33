-- What a clean leaves, and how many stores it makes. Assumes nothing.
use mathlib.Core.Path.{◌≡◌, refl, sym, ap, ◌∙◌}
use mathlib.Core.Bool.{Bool, true, false, cond}
use mathlib.Core.List.{List, [], ◌∷◌}
use Prim.Native.Nat.{ℕ, ◌<◌}
use native.Mathlib.Omega.{arith}
use native.Mathlib.Decide.{dec_lt}
use lib.ListN.{length, take}
use lib.Seq.{get_or-set_other}
use Rattle.sets.specs.Sets.{has, below, size}
use Rattle.sets.proofs.Tests.{Test, passes, fails, test, clash}
use Rattle.sets.proofs.Membership.{has_empty, outsider_differs, same_members}
use Rattle.sets.proofs.Bounds.{below_pow, below_members}
use Rattle.label.specs.declared.Label.{Label}
use Rattle.label.specs.Bytes.{blank}
use Rattle.protocol.specs.declared.State.{State}
use Rattle.protocol.specs.Geometry.{regions}
use Rattle.protocol.specs.Loops.{for_each, sum_below}
use Rattle.protocol.specs.States.{label_at, is_dirty, live}
use Rattle.protocol.specs.Soundness.{Sound}
use Rattle.protocol.specs.Stores.{Disks, Store, clear, with_dirty, apply, apply_all}
use Rattle.protocol.specs.Lists.{clean_list}
use Rattle.protocol.specs.Outcomes.{disks_of}
use Rattle.protocol.specs.Calls.{clean_refusals, clean_outcome}
use Rattle.protocol.specs.CleanClaims.{standing, Cleaning, CleansLive}
use Rattle.protocol.proofs.Sums.{sum_same, sum_zero, sum_swap, length_loop, sum_members}
use Rattle.protocol.proofs.Lists.{each_standing, each_clean}
use Rattle.protocol.proofs.Stores.{Keeps, keeps, keeps_along, made_all}
use Rattle.protocol.proofs.Labels.{field-set, clear_keeps, clear_clears}
use Rattle.protocol.proofs.Soundness.{live_known}
use Rattle.protocol.proofs.Outcomes.{refused_cut_or_whole}
use Rattle.protocol.proofs.NotRefused.{clean_passed}

module _ (s : State) (area : List ℕ) where
  abbrev n : ℕ
  n = s.disks

  abbrev b : ℕ
  b = s.blocks

  abbrev l : ℕ
  l = live s

  abbrev w : Disks
  w = disks_of s area

  -- ---- what every clear of the list keeps, cut or not

  record Kept (v : Disks) : Type 0 where
    other_labels : (d : ℕ) → has l d ≡ false → label_at v.labels d ≡ label_at s.labels d
    committed : (d : ℕ) → (label_at v.labels d).committed ≡ (label_at s.labels d).committed
    tentative : (d : ℕ) → (label_at v.labels d).tentative ≡ (label_at s.labels d).tentative
    -- no bit stands that did not
    cleaner : (d r : ℕ) → is_dirty v.labels d r ≡ true → is_dirty s.labels d r ≡ true
    blocks : v.area ≡ area

  clear_kept : (d r : ℕ) → d < n → has l d ≡ true → Keeps b Kept (clear d r)
  unfolding apply
  clear_kept d r i m v h = record {
    other_labels = λ e out.
        get_or-set_other v.labels d e _ blank (λ q. outsider_differs l e d out m (sym q)) ∙ h.other_labels e out;
    committed = λ e. field-set (λ x. x.committed) v.labels d _ refl e ∙ h.committed e;
    tentative = λ e. field-set (λ x. x.tentative) v.labels d _ refl e ∙ h.tentative e;
    cleaner = λ e q z. h.cleaner e q (clear_keeps b d r v e q z);
    blocks = h.blocks;
  }

  start : Kept w
  start = record {
    other_labels = λ d out. refl;
    committed = λ d. refl;
    tentative = λ d. refl;
    cleaner = λ d r z. z;
    blocks = refl;
  }

  kept : (count : ℕ) → Kept (apply_all b (take count (clean_list s)) w)
  kept = keeps_along b Kept (each_clean s clear_kept) w start

  -- ---- what the whole list makes

  abbrev Clean : ℕ → ℕ → Disks → Type 0
  Clean r d v = is_dirty v.labels d r ≡ false

  -- a clear makes no bit stand
  clear_stays : (d r e q : ℕ) → Keeps b (Clean q e) (clear d r)
  clear_stays d r e q v z = go (test (is_dirty (apply b (clear d r) v).labels e q))
    where
      go : Test (is_dirty (apply b (clear d r) v).labels e q) → Clean q e (apply b (clear d r) v)
      go (passes t) = clash (clear_keeps b d r v e q t) z
      go (fails t) = t

  -- the clears of one region
  abbrev clears_of : ℕ → List Store
  clears_of r = for_each n l (λ d. cond (is_dirty s.labels d r) (clear d r ∷ []) [])

  region_clean : (r : ℕ) (v : Disks) → Kept v → (d : ℕ) → d < n → has l d ≡ true
      → Clean r d (apply_all b (clears_of r) v)
  unfolding for_each apply_all
  region_clean r v h =
      (made_all b (λ d. cond (has l d) (cond (is_dirty s.labels d r) (clear d r ∷ []) []) []) Kept
      (λ d u. has l d ≡ true → Clean r d u) n
      (λ d i u k. make d i u k (has l d) refl (is_dirty s.labels d r) refl)
      (λ d e i j u k q m. stay d e u (q m) (has l d) (is_dirty s.labels d r))
      v h).1
    where
      make : (d : ℕ) → d < n → (u : Disks) → Kept u → (t : Bool) → has l d ≡ t → (dirty : Bool)
          → is_dirty s.labels d r ≡ dirty
          → let after = apply_all b (cond t (cond dirty (clear d r ∷ []) []) []) u in
          Kept after × (t ≡ true → Clean r d after)
      make d i u k true m true e = (clear_kept d r i m u k, λ z. clear_clears b d r u)
      make d i u k true m false e = (k, λ z. go (test (is_dirty u.labels d r)))
        where
          go : Test (is_dirty u.labels d r) → Clean r d u
          go (passes t) = clash (k.cleaner d r t) e
          go (fails t) = t
      make d i u k false m dirty e = (k, λ z. clash z refl)

      stay : (d e : ℕ) (u : Disks) → Clean r e u → (t dirty : Bool)
          → Clean r e (apply_all b (cond t (cond dirty (clear d r ∷ []) []) []) u)
      stay d e u q true true = clear_stays d r e r u q
      stay d e u q true false = q
      stay d e u q false dirty = q

  all_clean : (r : ℕ) → r < regions b → (d : ℕ) → d < n → has l d ≡ true → Clean r d (apply_all b (clean_list s) w)
  unfolding clean_list
  all_clean =
      (made_all b clears_of Kept (λ r v. (d : ℕ) → d < n → has l d ≡ true → Clean r d v) (regions b)
      (λ r i v k. (keeps b Kept (each_standing s clear_kept r) v k, region_clean r v k))
      (λ r q i j v k z d e m.
      keeps b (Clean q d) (each_standing s (λ f p x y. clear_stays f p d q) r) v (z d e m))
      w start).1

  module _ (fit : Sound s) where
    dirty_known : (d : ℕ) → d < n → below (label_at s.labels d).dirty (regions b) ≡ true
    dirty_known d i = (fit.labels.each d i).dirty

    cleaned : (d : ℕ) → has l d ≡ true
        → label_at (apply_all b (clean_list s) w).labels d ≡ with_dirty (label_at s.labels d) 0
    cleaned d m =
        let i = (below_members l n).0 (live_known s fit) d m in
        let v = apply_all b (clean_list s) w in
        let k : Kept v = keeps b Kept (each_clean s clear_kept) w start in
        let none : (label_at v.labels d).dirty ≡ 0 =
        same_members _ 0 (λ r. go d i m r (dec_lt r (regions b)) (test (is_dirty v.labels d r)) ∙ sym (has_empty r)) in
        same_label_lem (label_at v.labels d) (label_at s.labels d) (k.committed d) (k.tentative d) none
      where
        go : (d : ℕ) → d < n → has l d ≡ true → (r : ℕ) → Dec (r < regions b)
            → Test (is_dirty (apply_all b (clean_list s) w).labels d r)
            → is_dirty (apply_all b (clean_list s) w).labels d r ≡ false
        go d i m r (yes known) t = all_clean r known d i m
        go d i m r (no beyond) (fails t) = t
        go d i m r (no beyond) (passes t) =
            let k = keeps b Kept (each_clean s clear_kept) w start in
            absurd (omega (arith, (below_members _ (regions b)).0 (dirty_known d i) r (k.cleaner d r t)))

        same_label_lem : (x y : Label) → x.committed ≡ y.committed → x.tentative ≡ y.tentative → x.dirty ≡ 0
            → x ≡ with_dirty y 0
        same_label_lem x y c t z = rw (← c, ← t) (ap (with_dirty x) z)

    -- ---- how many stores these are

    counted : length (clean_list s) ≡ standing s
    unfolding clean_list for_each
    counted =
        length_loop (regions b) clears_of
        ∙ sum_same (regions b) _ _ (λ r i. length_loop n _)
        ∙ sum_swap (regions b) n
        (λ r d. length (cond (has l d) (cond (is_dirty s.labels d r) (clear d r ∷ []) []) []))
        ∙ sum_same n _ _ (λ d i. bits d i (has l d))
      where
        one : (d r : ℕ) (t : Bool) → length (cond t (clear d r ∷ []) []) ≡ cond t 1 0
        one d r true = refl
        one d r false = refl

        bits : (d : ℕ) → d < n → (t : Bool)
            → sum_below (regions b) (λ r. length (cond t (cond (is_dirty s.labels d r) (clear d r ∷ []) []) []))
            ≡ cond t (size (label_at s.labels d).dirty) 0
        bits d i true =
            sum_same (regions b) _ _ (λ r j. one d r (is_dirty s.labels d r))
            ∙ sum_members (regions b) _ ((below_pow _ (regions b)).0 (dirty_known d i))
        bits d i false = sum_zero (regions b)

pub cleans_live : CleansLive
unfolding clean_outcome
cleans_live s area output budget =
    refused_cut_or_whole (clean_list s) budget s area output _ (clean_refusals s) (Cleaning s area)
    (λ ne. record {
      cleaned = λ z. absurd (ne z);
      other_labels = λ d out. refl;
      blocks = refl;
      current = λ z. absurd (ne z);
      counted = λ z. absurd (ne z);
    })
    (λ e i. record {
      cleaned = λ z. absurd (omega arith);
      other_labels = (kept s area budget).other_labels;
      blocks = (kept s area budget).blocks;
      current = λ z. absurd (omega arith);
      counted = λ z. absurd (omega arith);
    })
    (λ e i.
    let pass = clean_passed s e in
    let k = keeps s.blocks (Kept s area) (each_clean s (clear_kept s area)) (disks_of s area) (start s area) in
    record {
      cleaned = λ z. cleaned s area pass.fit;
      other_labels = k.other_labels;
      blocks = k.blocks;
      current = λ z. sym pass.runs;
      counted = λ z. counted s area pass.fit;
    })

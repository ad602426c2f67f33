-- The stores of calls keep every label fit, and whole lists of them leave the members of the new current set committed
-- to it. Assumes nothing.
use mathlib.Core.Path.{◌≡◌, refl, ◌∙◌}
use mathlib.Core.Logic.{inl, inr}
use mathlib.Core.Bool.{true, false}
use mathlib.Core.List.{List}
use Prim.Native.Nat.{ℕ, ◌≤◌, ◌<◌}
use native.Mathlib.Omega.{arith}
use lib.ListN.{length, length-set}
use Rattle.sets.specs.Sets.{has, below}
use Rattle.sets.proofs.Tests.{clash}
use Rattle.sets.proofs.Bounds.{below_empty, below-difference, below_with}
use Rattle.label.specs.declared.Label.{Label}
use Rattle.label.specs.Bytes.{blank}
use Rattle.protocol.specs.Geometry.{most_disks, regions}
use Rattle.protocol.specs.States.{label_at}
use Rattle.protocol.specs.Soundness.{FitSet, FitLabel, FitLabels, FitCurrent}
use Rattle.protocol.specs.Stores.{Disks, Store, write, copy, mark, clear, propose}
use Rattle.protocol.specs.Stores.{commit, with_dirty, on_area, on_label, apply, apply_all}
use Rattle.protocol.specs.Lists.{commits, move}
use Rattle.protocol.specs.Calls.{with_blank_disk}
use Rattle.protocol.proofs.Loops.{Each}
use Rattle.protocol.proofs.Lists.{each_proposal, each_move}
use Rattle.protocol.proofs.Stores.{apply_append, Keeps, keeps}
use Rattle.protocol.proofs.Labels.{at_set, field-set, committed}

-- ---- labels that are fit, in an array of its length

pub record FitDisks (n b : ℕ) (w : Disks) : Type 0 where
  pub few : n ≤ most_disks
  pub labels : FitLabels n b w.labels
  pub slots : length w.labels ≡ most_disks

module _ (n b : ℕ) where
  abbrev pub KeepsFit : Store → Type 0
  KeepsFit x = Keeps b (FitDisks n b) x

  -- a fit label in the place of another
  label_set-fits : (w : Disks) (d : ℕ) (l : Label) → d < n → FitLabel n b d l → FitDisks n b w
      → FitDisks n b (on_label w d l)
  label_set-fits w d l hd new h =
      let room : d < length w.labels = omega (arith, h.slots, h.few) in
      record {
        few = h.few;
        labels = record {
          each = at_set (λ e x. e < n → FitLabel n b e x) w.labels d l room (λ z. new) (λ e ne. h.labels.each e);
          rest =
              at_set (λ e x. n ≤ e → e < most_disks → x ≡ blank) w.labels d l room (λ g. absurd (omega arith))
              (λ e ne. h.labels.rest e);
        };
        slots = length-set w.labels d l ∙ h.slots;
      }

  pub fit_write : (d k : ℕ) (bytes : List ℕ) → KeepsFit (write d k bytes)
  unfolding apply
  fit_write d k bytes w h = record { few = h.few; labels = h.labels; slots = h.slots }

  pub fit_copy : (from to k : ℕ) → KeepsFit (copy from to k)
  unfolding apply
  fit_copy from to k w h = record { few = h.few; labels = h.labels; slots = h.slots }

  -- another dirty map whose bits name regions
  dirty_set-fits : (w : Disks) (d map : ℕ) → d < n → (FitDisks n b w → below map (regions b) ≡ true) → FitDisks n b w
      → FitDisks n b (on_label w d (with_dirty (label_at w.labels d) map))
  dirty_set-fits w d map hd new h =
      let old = h.labels.each d hd in
      label_set-fits w d _ hd (record { committed = old.committed; tentative = old.tentative; dirty = new h }) h

  pub fit_mark : (d r : ℕ) → d < n → r < regions b → KeepsFit (mark d r)
  unfolding apply
  fit_mark d r hd hr w = dirty_set-fits w d _ hd (λ h. below_with _ r _ (h.labels.each d hd).dirty hr)

  pub fit_clear : (d r : ℕ) → d < n → KeepsFit (clear d r)
  unfolding apply
  fit_clear d r hd w = dirty_set-fits w d _ hd (λ h. below-difference _ _ _ (h.labels.each d hd).dirty)

  module _ (s : ℕ) (known : below s n ≡ true) where
    pub fit_propose : (d : ℕ) → d < n → has s d ≡ true → KeepsFit (propose d s)
    unfolding apply
    fit_propose d hd m w h =
        let old = h.labels.each d hd in
        label_set-fits w d _ hd (record {
          committed = old.committed;
          tentative = record { known = known; own = inr m };
          dirty = old.dirty;
        }) h

    pub fit_commit : (d : ℕ) → d < n → has s d ≡ true → KeepsFit (commit d s)
    unfolding apply
    fit_commit d hd m w h =
        let old = h.labels.each d hd in
        label_set-fits w d _ hd
        (record {
          committed = record { known = known; own = inr m };
          tentative = record { known = below_empty n; own = inl refl };
          dirty = old.dirty;
        }) h

    pub fit_move : Each KeepsFit (move n s)
    fit_move = each_move n s fit_propose fit_commit

  -- no store, but a fit label too: a disk that is swapped gets a blank one
  pub fit_blank : (w : Disks) (d : ℕ) → d < n → FitDisks n b w → FitDisks n b (with_blank_disk b w d)
  fit_blank w d hd h =
      let empty : FitSet n d 0 = record { known = below_empty n; own = inl refl } in
      label_set-fits (on_area w _) d blank hd
      (record { committed = empty; tentative = empty; dirty = below_empty (regions b) })
      (record { few = h.few; labels = h.labels; slots = h.slots })

-- ---- the current set

module _ (n b g : ℕ) where
  abbrev KeepsCurrent : Store → Type 0
  KeepsCurrent x = Keeps b (λ w. FitCurrent n w.labels g) x

  -- it is what it was where no C and no T changes ..
  dirty_current : (w : Disks) (d map : ℕ) → FitCurrent n w.labels g
      → FitCurrent n (on_label w d (with_dirty (label_at w.labels d) map)).labels g
  dirty_current w d map h = record {
    known = h.known;
    filled = h.filled;
    members = λ e l m.
        let (c, t) = h.members e l m in
        let same-c = field-set (λ z. z.committed) w.labels d _ refl e in
        let same-t = field-set (λ z. z.tentative) w.labels d _ refl e in
        (same-c ∙ c, same-t ∙ t);
  }

  pub current_write : (d k : ℕ) (bytes : List ℕ) → KeepsCurrent (write d k bytes)
  unfolding apply
  current_write d k bytes w h = h

  pub current_mark : (d r : ℕ) → KeepsCurrent (mark d r)
  unfolding apply
  current_mark d r w h = dirty_current w d _ h

  pub current_clear : (d r : ℕ) → KeepsCurrent (clear d r)
  unfolding apply
  current_clear d r w h = dirty_current w d _ h

  -- .. or those of a disk outside it ..
  pub blank_current : (w : Disks) (d : ℕ) → d < length w.labels → has g d ≡ false → FitCurrent n w.labels g
      → FitCurrent n (with_blank_disk b w d).labels g
  blank_current w d room out h = record {
    known = h.known;
    filled = h.filled;
    members =
        at_set (λ e l. e < n → has g e ≡ true → (l.committed ≡ g) × (l.tentative ≡ 0)) w.labels d blank room
        (λ i m. clash m out) (λ e ne. h.members e);
  }

-- .. and s after commits of s, and after a move to it
module _ (n b s : ℕ) (known : below s n ≡ true) (filled : 0 < s) where
  pub commits_current : (w : Disks) → FitDisks n b w → FitCurrent n (apply_all b (commits n s) w).labels s
  commits_current w fit =
      record { known = known; filled = filled; members = committed b n s w (omega (arith, fit.slots, fit.few)) }

  pub move_current : (w : Disks) → FitDisks n b w → FitCurrent n (apply_all b (move n s) w).labels s
  unfolding move
  move_current w fit =
      rw apply_append (commits_current _ (keeps b (FitDisks n b) (each_proposal n s (fit_propose n b s known)) w fit))

-- The test of soundness passes exactly where every part of soundness holds. Assumes nothing.
use mathlib.Core.Path.{◌≡◌, refl}
use mathlib.Core.Logic.{◌⊎◌, inl, inr, ◌↔◌}
use mathlib.Core.Bool.{true, false, not, ◌&&◌, ◌||◌, or-true}
use mathlib.Core.List.{List}
use Prim.Native.Nat.{ℕ, ◌≤◌, ◌<◌}
use native.Mathlib.Omega.{arith}
use native.Mathlib.Decide.{dec_lt}
use lib.Dec.{eqb, ltb}
use borrow.Author.Tests.{eqb-true, eq-eqb, ltb-true, lt-ltb, ltb-false, le-ltb, not-true}
use Rattle.sets.specs.Sets.{has, below}
use Rattle.sets.proofs.Tests.{and_parts, or_parts, or_either, implied, implies}
use Rattle.sets.proofs.Bounds.{below-intersection}
use Rattle.label.specs.declared.Label.{Label}
use Rattle.label.specs.Rules.{outside}
use Rattle.label.proofs.Accepting.{in_range_lem as in-form}
use Rattle.label.specs.Bytes.{blank}
use Rattle.label.specs.Comparing.{same_label}
use Rattle.label.proofs.Comparing.{compares_labels}
use Rattle.protocol.specs.declared.Power.{Power}
use Rattle.protocol.specs.declared.Power.TheVariants.{Stopped, Running}
use Rattle.protocol.specs.declared.State.{State}
use Rattle.protocol.specs.Geometry.{label_form, most_disks, wrong_disk_count, most_blocks, wrong_block_count, regions}
use Rattle.protocol.specs.Loops.{all_below}
use Rattle.protocol.specs.States.{label_at, current_of, live}
use Rattle.protocol.specs.Soundness.{Sound, InRange, FitSet, FitLabel, FitLabels}
use Rattle.protocol.specs.Soundness.{FitPower, in_range, fit_set, fit_label}
use Rattle.protocol.specs.Soundness.{fit_labels, fit_member, fit_power, sound, TestAgrees}
use Rattle.protocol.proofs.Loops.{all_at, all_of}

-- n and b are in range where neither is refused
pub right_counts : (n b : ℕ) → ((wrong_disk_count n ≡ false) × (wrong_block_count b ≡ false)) ↔ InRange n b
unfolding outside
right_counts n b = (
  λ e.
      let (some_disk, disks) = in-form label_form n e.0 in
      let (some_block, blocks) = or_parts (ltb b 1) (ltb most_blocks b) e.1 in
      record {
        some_disk = some_disk;
        disks = disks;
        some_block = ltb-false _ _ some_block;
        blocks = ltb-false _ _ blocks;
      },
  λ h. (
    rw (le-ltb n 1 h.some_disk, le-ltb most_disks n h.disks),
    rw (
      le-ltb b 1
          h.some_block,
      le-ltb most_blocks b h.blocks,
    ),
  ),
)

pub in_range_lem : (n b : ℕ) → (in_range n b ≡ true) ↔ InRange n b
unfolding in_range
in_range_lem n b = (
  λ e. let (p, q) = and_parts (not (wrong_disk_count n)) (not (wrong_block_count b)) e in (right_counts n b).0
      (not-true _ p, not-true _ q),
  λ h. let (p, q) = (right_counts n b).1 h in rw (p, q),
)

-- "a C or T that is not 0 names its own disk"
pub own_disk_lem : (d s : ℕ) → ((eqb s 0 || has s d) ≡ true) ↔ ((s ≡ 0) ⊎ (has s d ≡ true))
own_disk_lem d s = (λ e. own (or_either (eqb s 0) (has s d) e), back)
  where
    own : (eqb s 0 ≡ true) ⊎ (has s d ≡ true) → (s ≡ 0) ⊎ (has s d ≡ true)
    own (inl e) = inl (eqb-true s 0 e)
    own (inr e) = inr e

    back : (s ≡ 0) ⊎ (has s d ≡ true) → (eqb s 0 || has s d) ≡ true
    back (inl e) = rw (eq-eqb s 0 e)
    back (inr e) = rw e (or-true (eqb s 0))

fit_set_lem : (n d s : ℕ) → (fit_set n d s ≡ true) ↔ FitSet n d s
unfolding fit_set
fit_set_lem n d s = (
  λ e. let (p, q) = and_parts (below s n) (eqb s 0 || has s d) e in record { known = p; own = (own_disk_lem d s).0 q },
  λ h. rw h.known ((own_disk_lem d s).1 h.own),
)

fit_label_lem : (n b d : ℕ) (l : Label) → (fit_label n b d l ≡ true) ↔ FitLabel n b d l
unfolding fit_label
fit_label_lem n b d l = (
  λ e.
      let (p, e1) = and_parts (fit_set n d l.committed)
      (fit_set n d l.tentative && below l.dirty (regions b)) e in
      let (q, r) = and_parts (fit_set n d l.tentative) (below l.dirty (regions b)) e1 in
      record { committed = (fit_set_lem n d _).0 p; tentative = (fit_set_lem n d _).0 q; dirty = r },
  λ h. rw ((fit_set_lem n d l.committed).1 h.committed, (fit_set_lem n d l.tentative).1 h.tentative, h.dirty),
)

-- "labels from n up are all zero"
blank_from : (n d : ℕ) (l : Label) → ((ltb d n || same_label l blank) ≡ true) ↔ (n ≤ d → l ≡ blank)
blank_from n d l = (λ e h. past h (or_either (ltb d n) (same_label l blank) e), λ h. unless h (dec_lt d n))
  where
    past : n ≤ d → (ltb d n ≡ true) ⊎ (same_label l blank ≡ true) → l ≡ blank
    past h (inl e) = absurd (omega (arith, ltb-true d n e))
    past h (inr e) = (compares_labels l blank).0 e

    unless : (n ≤ d → l ≡ blank) → Dec (d < n) → (ltb d n || same_label l blank) ≡ true
    unless h (yes p) = rw (lt-ltb d n p)
    unless h (no g) = rw ((compares_labels l blank).1 (h (omega arith))) (or-true (ltb d n))

fit_labels_lem : (n b : ℕ) (labels : List Label) → (fit_labels n b labels ≡ true) ↔ FitLabels n b labels
unfolding fit_labels
fit_labels_lem n b labels = (
  λ e.
      let (p, q) = and_parts (all_below n (λ d. fit_label n b d (label_at labels d)))
      (all_below most_disks (λ d. ltb d n || same_label (label_at labels d) blank)) e in
      record {
        each = λ d l. (fit_label_lem n b d _).0 (all_at n _ p d l);
        rest = λ d g l. (blank_from n d _).0 (all_at most_disks _ q d l) g;
      },
  λ h. rw (all_of n (λ d. fit_label n b d (label_at labels d)) (λ d l. (fit_label_lem n b d _).1 (h.each d l)))
      (all_of most_disks _ (λ d l. (blank_from n d _).1 (λ g. h.rest d g l))),
)

-- "each member has C = G and T = 0"
fit_member_lem : (g d : ℕ) (l : Label)
    → ((not (has g d) || (eqb l.committed g && eqb l.tentative 0)) ≡ true) ↔ (has g d ≡ true
    → (l.committed ≡ g) × (l.tentative ≡ 0))
fit_member_lem g d l = (
  λ e m. let (p, q) = and_parts (eqb l.committed g) (eqb l.tentative 0)
      (implies (has g d) _ e m) in (eqb-true _ _ p, eqb-true _ _ q),
  λ h. implied (has g d) _ (λ m. rw (eq-eqb _ _ (h m).0, eq-eqb _ _ (h m).1)),
)

fit_power_lem : (n : ℕ) (labels : List Label) (power : Power)
    → (fit_power n labels power ≡ true) ↔ FitPower n labels power
unfolding fit_power fit_member
fit_power_lem n labels Stopped = (λ e. tt, λ h. refl)
fit_power_lem n labels (Running g) = (
  λ e.
      let (p, e1) = and_parts (below g n) (ltb 0 g && all_below n (λ d. not (has g d) || fit_member labels g d)) e in
      let (q, r) = and_parts (ltb 0 g) (all_below n (λ d. not (has g d) || fit_member labels g d)) e1 in
      record {
        known = p;
        filled = ltb-true _ _ q;
        members = λ d l. (fit_member_lem g d (label_at labels d)).0 (all_at n _ r d l);
      },
  λ h.
      rw (h.known, lt-ltb 0 g h.filled)
      (all_of n _ (λ d l. (fit_member_lem g d (label_at labels d)).1 (h.members d l))),
)

pub test_agrees : TestAgrees
unfolding sound
test_agrees s = (
  λ e.
      let (p, e1) = and_parts (in_range s.disks s.blocks)
      (below s.online s.disks && (fit_labels s.disks s.blocks s.labels
      && fit_power s.disks s.labels s.power)) e in
      let (q, e2) = and_parts (below s.online s.disks)
      (fit_labels s.disks s.blocks s.labels && fit_power s.disks s.labels s.power) e1 in
      let (r, t) = and_parts (fit_labels s.disks s.blocks s.labels)
      (fit_power s.disks s.labels s.power) e2 in
      record {
        range = (in_range_lem _ _).0 p;
        online = q;
        labels = (fit_labels_lem _ _ _).0 r;
        power = (fit_power_lem _ _ _).0 t;
      },
  λ h.
      rw (
        (in_range_lem s.disks s.blocks).1 h.range,
        h.online,
        (fit_labels_lem s.disks s.blocks s.labels).1 h.labels,
        (fit_power_lem s.disks s.labels s.power).1 h.power,
      ),
)

-- L names only disks below n
pub live_known : (s : State) → Sound s → below (live s) s.disks ≡ true
live_known s fit = below-intersection (current_of s.power) s.online s.disks fit.online

-- Document 01, "What the cabinet is": "A state is sound when".
use Rattle.std.specs.Prelude.{◌≡◌, ◌⊎◌, ◌↔◌, Bool, true, not, ◌&&◌, ◌||◌, List, ℕ, ◌≤◌, ◌<◌, eqb, ltb, length}
use Rattle.sets.specs.Sets.{has, below}
use Rattle.label.specs.declared.Label.{Label}
use Rattle.label.specs.Bytes.{blank}
use Rattle.label.specs.Comparing.{same_label}
use Rattle.protocol.specs.declared.Power.{Power}
use Rattle.protocol.specs.declared.Power.TheVariants.{Stopped, Running}
use Rattle.protocol.specs.declared.State.{State}
use Rattle.protocol.specs.Geometry.{most_disks, wrong_disk_count, most_blocks, wrong_block_count, regions}
use Rattle.protocol.specs.Loops.{all_below}
use Rattle.protocol.specs.States.{label_at, committed_at, tentative_at}

-- ---- part by part

-- "n and b are in range"
pub record InRange (n b : ℕ) : Type 0 where
  pub some_disk : 1 ≤ n
  pub disks : n ≤ most_disks
  pub some_block : 1 ≤ b
  pub blocks : b ≤ most_blocks

-- "every C and every T name only disks below n; a C or T that is not 0 names its own disk"
pub record FitSet (n d set : ℕ) : Type 0 where
  pub known : below set n ≡ true
  pub own : (set ≡ 0) ⊎ (has set d ≡ true)

pub record FitLabel (n b d : ℕ) (l : Label) : Type 0 where
  pub committed : FitSet n d l.committed
  pub tentative : FitSet n d l.tentative
  -- "dirty bits name existing regions"
  pub dirty : below l.dirty (regions b) ≡ true

pub record FitLabels (n b : ℕ) (labels : List Label) : Type 0 where
  pub each : (d : ℕ) → d < n → FitLabel n b d (label_at labels d)
  -- "labels from n up are all zero"
  pub rest : (d : ℕ) → n ≤ d → d < most_disks → label_at labels d ≡ blank

-- "when running, G is not empty and each member has C = G and T = 0"; and G names only disks below n
pub record FitCurrent (n : ℕ) (labels : List Label) (g : ℕ) : Type 0 where
  pub known : below g n ≡ true
  pub filled : 0 < g
  pub members : (d : ℕ) → d < n → has g d ≡ true
      → (committed_at labels d ≡ g) × (tentative_at labels d ≡ 0)

abbrev pub FitPower : ℕ → List Label → Power → Type 0
FitPower n labels Stopped = Unit {0}
FitPower n labels (Running g) = FitCurrent n labels g

pub record Sound (s : State) : Type 0 where
  pub range : InRange s.disks s.blocks
  -- R names only disks below n
  pub online : below s.online s.disks ≡ true
  pub labels : FitLabels s.disks s.blocks s.labels
  pub power : FitPower s.disks s.labels s.power

-- ---- the same as a test

unfoldable pub in_range : ℕ → ℕ → Bool
in_range n b = not (wrong_disk_count n) && not (wrong_block_count b)

unfoldable pub fit_set : ℕ → ℕ → ℕ → Bool
fit_set n d set = below set n && (eqb set 0 || has set d)

unfoldable pub fit_label : ℕ → ℕ → ℕ → Label → Bool
fit_label n b d l = fit_set n d l.committed && (fit_set n d l.tentative && below l.dirty (regions b))

unfoldable pub fit_labels : ℕ → ℕ → List Label → Bool
fit_labels n b labels =
    all_below n (λ d. fit_label n b d (label_at labels d))
    && all_below most_disks (λ d. ltb d n || same_label (label_at labels d) blank)

unfoldable pub fit_member : List Label → ℕ → ℕ → Bool
fit_member labels g d = eqb (committed_at labels d) g && eqb (tentative_at labels d) 0

unfoldable pub fit_power : ℕ → List Label → Power → Bool
fit_power n labels Stopped = true
fit_power n labels (Running g) = below g n && (ltb 0 g && all_below n (λ d. not (has g d) || fit_member labels g d))

unfoldable pub sound : State → Bool
sound s =
    in_range s.disks s.blocks
    && (below s.online s.disks
    && (fit_labels s.disks s.blocks s.labels
    && fit_power s.disks s.labels s.power))

-- The test passes exactly where every part holds.
abbrev pub TestAgrees : Type 0
TestAgrees = (s : State) → (sound s ≡ true) ↔ Sound s

-- ---- beside soundness

-- A sound state whose array has its length. That length is the array's type's, and decides no refusal.
pub record Proper (s : State) : Type 0 where
  pub fit : Sound s
  pub slots : length s.labels ≡ most_disks

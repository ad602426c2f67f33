-- Document 01, "What the cabinet is": how a state is built, and its parts that have a name.
use Rattle.std.specs.Prelude.{Bool, true, false, List, ◌++◌, ℕ, ◌-◌, get_or, replicate}
use Rattle.sets.specs.Sets.{has, intersection, lowest}
use Rattle.label.specs.declared.Label.{Label}
use Rattle.label.specs.Bytes.{blank}
use Rattle.protocol.specs.declared.Power.{Power}
use Rattle.protocol.specs.declared.Power.TheVariants.{Stopped, Running}
use Rattle.protocol.specs.declared.State.{State}
use Rattle.protocol.specs.Geometry.{most_disks}

-- ---- labels

-- the label of disk d
abbrev pub label_at : List Label → ℕ → Label
label_at labels d = get_or labels d blank

-- its C and its T
abbrev pub committed_at : List Label → ℕ → ℕ
committed_at labels d = (label_at labels d).committed

abbrev pub tentative_at : List Label → ℕ → ℕ
tentative_at labels d = (label_at labels d).tentative

-- region r is dirty on disk d
abbrev pub is_dirty : List Label → ℕ → ℕ → Bool
is_dirty labels d r = has (label_at labels d).dirty r

-- "labels from n up are all zero": the labels of n disks, and blank ones after them
abbrev pub filled_up : ℕ → List Label → List Label
filled_up n labels = labels ++ replicate (most_disks - n) blank

-- ---- building a state

-- Every state is built here, of n, b, the labels, R and a power condition.
abbrev pub state_of : ℕ → ℕ → List Label → ℕ → Power → State
state_of n b labels online power = record { disks = n; blocks = b; labels = labels; online = online; power = power }

-- the state with other labels and another power condition
abbrev pub with_labels : State → List Label → Power → State
with_labels s labels power = state_of s.disks s.blocks labels s.online power

-- "Lose, return and cut change only R or the power condition."
abbrev pub with_online : State → ℕ → State
with_online s online = state_of s.disks s.blocks s.labels online s.power

abbrev pub powered_off : State → State
powered_off s = with_labels s s.labels Stopped

-- "Fresh and assembling are given no state; refused, they yield one that is all zero and stopped"
unfoldable pub zero_state : State
zero_state = state_of 0 0 (replicate most_disks blank) 0 Stopped

-- ---- its power condition

-- G; a stopped cabinet has none
abbrev pub current_of : Power → ℕ
current_of Stopped = 0
current_of (Running g) = g

abbrev pub is_running : Power → Bool
is_running Stopped = false
is_running (Running g) = true

-- "L means the members of G that are in reach."
abbrev pub live : State → ℕ
live s = intersection (current_of s.power) s.online

-- The member of a set that the others are copied from, and that reads go to: the lowest.
unfoldable pub source : ℕ → ℕ
source set = lowest set

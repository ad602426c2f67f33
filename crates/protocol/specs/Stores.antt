-- Document 01, "Stores and supply": what one store changes, and lists of stores.
use Rattle.std.specs.Prelude.{List, [], ◌∷◌, ℕ, set, take}
use Rattle.sets.specs.Sets.{union, difference, singleton}
use Rattle.label.specs.declared.Label.{Label}
use Rattle.protocol.specs.Geometry.{block, with_block}
use Rattle.protocol.specs.States.{label_at}

-- What stores change: the labels and the disk area.
pub record Disks : Type 0 where
  pub labels : List Label
  pub area : List ℕ

-- "One store changes one block, one dirty bit, one tentative set, or one committed set together with its tentative set.
-- Stores do not tear."
pub data Store : Type 0 where
  -- the bytes as block k of disk d
  write : (d k : ℕ) → List ℕ → Store
  -- block k of one disk as block k of another; what it is, is read when the store is made
  copy : (from to k : ℕ) → Store
  -- the dirty bit of region r on disk d: it stands, or it is cleared
  mark : (d r : ℕ) → Store
  clear : (d r : ℕ) → Store
  -- T = S on disk d
  propose : (d set : ℕ) → Store
  -- C = S and T = 0 on disk d
  commit : (d set : ℕ) → Store

abbrev pub with_dirty : Label → ℕ → Label
with_dirty l map = record { committed = l.committed; tentative = l.tentative; dirty = map }

abbrev pub with_tentative : Label → ℕ → Label
with_tentative l s = record { committed = l.committed; tentative = s; dirty = l.dirty }

abbrev pub with_committed : Label → ℕ → Label
with_committed l s = record { committed = s; tentative = 0; dirty = l.dirty }

-- the disks with another area, and with another label of disk d
abbrev pub on_area : Disks → List ℕ → Disks
on_area w area = record { labels = w.labels; area = area }

abbrev pub on_label : Disks → ℕ → Label → Disks
on_label w d l = record { labels = set w.labels d l; area = w.area }

-- what one store leaves, on disks of b blocks
unfoldable pub apply : ℕ → Store → Disks → Disks
apply b (write d k bytes) w = on_area w (with_block b w.area d k bytes)
apply b (copy from to k) w = on_area w (with_block b w.area to k (block b w.area from k))
apply b (mark d r) w =
    on_label w d (with_dirty (label_at w.labels d) (union (label_at w.labels d).dirty (singleton r)))
apply b (clear d r) w =
    on_label w d (with_dirty (label_at w.labels d) (difference (label_at w.labels d).dirty (singleton r)))
apply b (propose d s) w = on_label w d (with_tentative (label_at w.labels d) s)
apply b (commit d s) w = on_label w d (with_committed (label_at w.labels d) s)

-- what a list of stores leaves
unfoldable pub apply_all : ℕ → List Store → Disks → Disks
apply_all b [] w = w
apply_all b (store ∷ later) w = apply_all b later (apply b store w)

-- "exactly the first supply stores are made"; a list that is not longer is made whole
abbrev pub made : ℕ → List Store → List Store
made budget stores = take budget stores

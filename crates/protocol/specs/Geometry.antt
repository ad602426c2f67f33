-- Document 01, "What the cabinet is": the limits of a cabinet, and where its blocks stand.
use Rattle.std.specs.Prelude.{Bool, cond, ◌||◌, List, ℕ, ◌+◌, ◌-◌, ◌*◌, ◌/◌, ltb, take, drop, replicate}
use Rattle.label.specs.declared.Form.{Form}
use Rattle.label.specs.Form.{narrow}
use Rattle.label.specs.Rules.{outside}
use Rattle.buffers.specs.Buffers.{splice}

-- the form of the labels that the cabinet has, saves and assembles
abbrev pub label_form : Form
label_form = narrow

-- "n disks (1 to 8)": as many as the form of its labels allows
abbrev pub most_disks : ℕ
most_disks = label_form.most

-- "n outside 1 to 8"
abbrev pub wrong_disk_count : ℕ → Bool
wrong_disk_count n = outside label_form n

-- "b blocks a disk (1 to 64)"
abbrev pub most_blocks : ℕ
most_blocks = 64

-- "b outside 1 to 64"
abbrev pub wrong_block_count : ℕ → Bool
wrong_block_count b = ltb b 1 || ltb most_blocks b

-- "A block is 64 bytes."
abbrev pub block_size : ℕ
block_size = 64

-- "A region is 8 blocks, counted from block 0; the last may be short."
abbrev pub region_size : ℕ
region_size = 8

-- so many has a disk of the most blocks
abbrev pub most_regions : ℕ
most_regions = most_blocks / region_size

unfoldable pub region_of : ℕ → ℕ
region_of k = k / region_size

-- how many regions b blocks have
unfoldable pub regions : ℕ → ℕ
regions b = (b + (region_size - 1)) / region_size

-- "the last may be short": how many of the b blocks region r has, which begins among them
unfoldable pub region_blocks : ℕ → ℕ → ℕ
region_blocks b r = cond (ltb (b - r * region_size) region_size) (b - r * region_size) region_size

-- "The disk area is one lent buffer of exactly n × b × 64 bytes"
unfoldable pub area_size : ℕ → ℕ → ℕ
area_size n b = n * b * block_size

-- "block k of disk d starts at (d × b + k) × 64"
unfoldable pub place : ℕ → ℕ → ℕ → ℕ
place b d k = (d * b + k) * block_size

-- block k of disk d, in the area of a cabinet of b blocks
unfoldable pub block : ℕ → List ℕ → ℕ → ℕ → List ℕ
block b area d k = take block_size (drop (place b d k) area)

-- the area with that block replaced
unfoldable pub with_block : ℕ → List ℕ → ℕ → ℕ → List ℕ → List ℕ
with_block b area d k bytes = splice (place b d k) bytes area

-- the area with every block of disk d zero
unfoldable pub with_zero_disk : ℕ → List ℕ → ℕ → List ℕ
with_zero_disk b area d = splice (place b d 0) (replicate (b * block_size) 0) area

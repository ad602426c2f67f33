-- The form of a label: what the labels of one kind of cabinet have in common, and those of another may have otherwise.
-- Every definition, every law and the code of label bytes take it as a parameter.
use Rattle.std.specs.Prelude.{ℕ, ◌+◌, ◌*◌, ◌≤◌, ◌<◌}
use Rattle.label.specs.declared.Form.{Form}

-- Document 01's form: "A set of disks is one byte"; no bit of the map from 3 up; the second byte has "n in its high
-- four" bits; "n disks (1 to 8)".
abbrev pub narrow : Form
narrow = record { width = 1; fixed = 0; base = 0; most = 8 }

-- A form whose bytes can hold every label of its cabinets.
pub record Roomy (f : Form) : Type 0 where
  -- a set of the form's disks fits its bytes
  pub sets : f.most ≤ 8 * f.width
  -- the map is a byte
  pub map : f.fixed < 32
  -- a disk number fits four bits, and so does what is written for n
  pub number : f.most ≤ 16
  pub count : f.most < f.base + 16
  -- and no n is too small to write
  pub least : f.base ≤ 1

-- A form that code reads and writes, where a set of disks has so many bits.
pub record Coded (bits : ℕ) (f : Form) : Type 0 where
  pub roomy : Roomy f
  -- a set has one byte or two, and what they hold is a set
  pub some : 1 ≤ f.width
  pub few : f.width ≤ 2
  pub held : 8 * f.width ≤ bits

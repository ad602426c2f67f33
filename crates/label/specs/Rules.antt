-- What reading and writing both ask of a label.
use Rattle.std.specs.Prelude.{Bool, not, ◌&&◌, ◌||◌, ℕ, eqb, ltb}
use Rattle.sets.specs.Sets.{has, below}
use Rattle.label.specs.declared.Form.{Form}
use Rattle.label.specs.declared.Label.{Label}

-- no cabinet of this form has n disks
unfoldable pub outside : Form → ℕ → Bool
outside f n = ltb n 1 || ltb f.most n

-- "20, a C or T that is not 0 names a disk from n up or omits its own disk."
unfoldable pub wrong_set : ℕ → ℕ → ℕ → Bool
wrong_set set d n = not (eqb set 0) && (not (below set n) || not (has set d))

unfoldable pub wrong_sets : Label → ℕ → ℕ → Bool
wrong_sets l d n = wrong_set l.committed d n || wrong_set l.tentative d n

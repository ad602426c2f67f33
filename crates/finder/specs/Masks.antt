-- Which labels have a set, as sets of disks: whether it is a candidate is then a matter of set operations.
use Rattle.std.specs.Prelude.{List, ℕ, eqb}
use Rattle.label.specs.declared.Label.{Label}
use Rattle.protocol.specs.Geometry.{most_disks}
use Rattle.protocol.specs.Loops.{disks_where}
use Rattle.protocol.specs.States.{label_at}
use Rattle.protocol.specs.Naming.{Stage, backs}
use Rattle.protocol.specs.Finder.{tried}

-- the disks whose label has what the stage asks of each member of x
unfoldable pub backers : Stage → List Label → ℕ → ℕ
backers stage labels x = disks_where most_disks (λ d. backs stage (label_at labels d) x)

-- the disks whose set that the stage may test is x
unfoldable pub holders : Stage → List Label → ℕ → ℕ
holders stage labels x = disks_where most_disks (λ d. eqb (tried stage (label_at labels d)) x)

use mathlib.Core.Path.{◌≡◌}
use native.Mathlib.Omega.{arith}
use lib.ListN.{length, take, replicate, length-take, length-replicate}
use Rattle.std.proofs.lemmas.List.{drop-replicate}
use Rattle.label.specs.Bytes.{blank}
use Rattle.protocol.specs.Geometry.{most_disks}
use Rattle.formatting.proofs.formatted_labels.Goals as goal

pub returns : goal.returns
returns c =
    let n = c.args.disks in
    let filled = c.fill.ensures.after (λ y h. h) in
    let size : length (take n (replicate most_disks blank)) ≡ n =
    simp (length-take, length-replicate) (omega arith) in
    rw (filled, c.blank_labels-labels.ensures, size, drop-replicate n most_disks blank, c.all.ensures)

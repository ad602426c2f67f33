use mathlib.Core.Path.{◌≡◌}
use native.Mathlib.Omega.{arith}
use Rattle.label.proofs.Fields.{one_byte, two_bytes}
use Rattle.label_reader.proofs.number_at.Goals as goal
use Rattle.label_reader.proofs.number_at.Goals.{then-width-eq1, else-width-eq1}

pub returns : goal.returns
returns c =
    let a = c.args in
    elim c.if-width-eq1.branch [
      | then-width-eq1 w ↦
          rw (w.if-width-eq1.true, c.from_le_bytes.ensures, w.high-is, c.byte_at-low.ensures)
          (omega (arith, one_byte a.bytes.now a.at))
      | else-width-eq1 w ↦
          let two : a.width ≡ 2 = omega arith in
          rw (two, c.from_le_bytes.ensures, w.high-is, w.byte_at-high.ensures, c.byte_at-low.ensures)
          (omega (arith, two_bytes a.bytes.now a.at))
    ]

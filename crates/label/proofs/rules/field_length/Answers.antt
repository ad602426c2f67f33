use mathlib.Core.Path.{◌≡◌, sym}
use native.Mathlib.Nat.{mul-zero, mul-one}
use native.Mathlib.Omega.{arith}
use Rattle.label.proofs.rules.field_length.Goals as goal

pub returns-then-bit-eq0 : goal.returns-then-bit-eq0
returns-then-bit-eq0 c = (rw c.if-bit-eq0.true (sym (mul-zero _)), omega arith)

pub returns-else-bit-eq0 : goal.returns-else-bit-eq0
returns-else-bit-eq0 c = let one : c.args.bit ≡ 1 = omega arith in (rw one (sym (mul-one _)), omega arith)

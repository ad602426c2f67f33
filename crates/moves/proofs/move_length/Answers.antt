use mathlib.Core.Path.{ap, sym, ◌∙◌}
use Prim.Native.Nat.{◌*◌}
use native.Mathlib.Omega.{arith}
use Rattle.budget.proofs.Lengths.{move_size}
use Rattle.moves.proofs.move_length.Goals as goal

pub returns : goal.returns
returns c = (λ n known. ap (λ k. 2 * k) c.size.ensures.0 ∙ sym (move_size n _ known), omega arith)

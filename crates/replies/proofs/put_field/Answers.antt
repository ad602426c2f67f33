use mathlib.Core.Path.{refl}
use mathlib.Core.List.{[], ◌∷◌}
use native.Mathlib.Omega.{arith}
use Rattle.buffers.proofs.Splicing.{splice_one, stored_after}
use Rattle.decimal.specs.Numerals.{numeral}
use Rattle.decimal.proofs.Numerals.{short}
use Rattle.replies.specs.Replies.{field}
use Rattle.replies.proofs.put_field.Goals as goal

pub returns-clause-stored : goal.returns-clause-stored
unfolding field
returns-clause-stored c =
    let put = c.put-last in
    let behind = splice_one put.new.out put.result c.args.end (omega (arith, short c.args.n (omega arith))) in
    stored_after _ (numeral c.args.n) (c.args.end ∷ []) c.args.at (omega arith) put.ensures (refl, behind)

use mathlib.Core.Path.{◌≡◌, refl, ◌∙◌}
use Prim.Native.Nat.{ℕ}
use native.Mathlib.Omega.{arith}
use lib.ListN.{replicate}
use Rattle.std.proofs.Common.{Result, Ok, Err}
use Rattle.std.specs.Result.{result_unwrap_or}
use Rattle.refusals.specs.declared.Refusal.{Refusal}
use Rattle.label.specs.Writing.{written_of}
use Rattle.protocol.specs.Geometry.{block_size}
use Rattle.interpreter.proofs.ShownLabels.{shown_written}
use Rattle.interpreter.proofs.lending.shown_label.Goals as goal

-- the writer's length, 0 if it refuses
length_written : (written : Result ℕ Refusal) → result_unwrap_or written 0 ≡ (written_of written).length
length_written (Ok length) = refl
length_written (Err refusal) = refl

-- an array and a list of a block are small, and the label that was written is no longer than the array
pub first_of-requires : goal.first_of-requires
first_of-requires c =
    let write = c.write-written in (
      omega arith,
      (
        omega arith,
        rw (
          c.unwrap_or.ensures,
          length_written write.result,
          write.ensures.answer,
          write.ensures.bytes,
          c.label_at-label.ensures,
          c.from.ensures,
        )
            (shown_written c.args.s _ (replicate block_size 0)).0,
      ),
    )

pub returns : goal.returns
returns c =
    let write = c.write-written in
    c.first_of.ensures
    ∙ rw (
      c.unwrap_or.ensures,
      length_written write.result,
      write.ensures.answer,
      write.ensures.bytes,
      c.label_at-label.ensures,
      c.from.ensures,
    )
    (shown_written _ _ (replicate block_size 0)).1

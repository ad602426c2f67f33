-- The bytes that a command lends to its call.
use Rattle.std.specs.Prelude.{cond, List, [], ℕ, eqb, replicate}
use Rattle.label.specs.Writing.{write_refusal}
use Rattle.protocol.specs.declared.State.{State}
use Rattle.protocol.specs.Geometry.{label_form, block_size}
use Rattle.protocol.specs.States.{label_at}
use Rattle.protocol.specs.Bays.{stored_label}
use Rattle.commands.specs.declared.Loan.{Loan}
use Rattle.commands.specs.declared.Loan.TheVariants.{Block, StoredLabel}

-- the stored label of disk d, as label writing writes it in so many bytes: none where it refuses, as it does for a disk
-- that is not below n
unfoldable pub shown_label : State → ℕ → ℕ → List ℕ
shown_label s d room =
    cond (eqb (write_refusal label_form d s.disks (label_at s.labels d) room) 0) (stored_label s d) []

-- "a block of 64 bytes v"; "The program's `r d` line shows the stored label" (document 02, 2.6)
abbrev pub lent_bytes : Loan → State → List ℕ
lent_bytes (Block v) s = replicate block_size v
lent_bytes (StoredLabel d) s = shown_label s d block_size

use borrow.Author.Rules.{rules}
use Rattle.refusals.specs.Refusals.{first_of}
use Rattle.label.specs.Writing.{write_refusals, write_refusal}
use Rattle.label.proofs.Places.{encode-length}
use Rattle.label_writer.proofs.write_refusal.Goals as goal

pub returns : goal.returns
unfolding write_refusal write_refusals first_of
returns c = rw (encode-length, ← c.map_byte.ensures, ← c.label_length-needed.ensures) (search rules)

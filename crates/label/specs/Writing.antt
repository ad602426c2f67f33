-- Document 01, "Label writing".
use Rattle.std.specs.Prelude.{Bool, cond, List, [], ◌∷◌, ℕ, eqb, ltb, leb, length, Result, Ok, Err}
use Rattle.label.specs.declared.Form.{Form}
use Rattle.label.specs.Bytes.{encode}
use Rattle.buffers.specs.Buffers.{splice}
use Rattle.refusals.specs.declared.Refusal.{Refusal}
use Rattle.refusals.specs.Refusals.{first_of, number_of}
use Rattle.label.specs.Rules.{outside, wrong_sets}
use Rattle.label.specs.declared.Label.{Label}
use Rattle.label.specs.declared.Written.{Written}

-- "Label writing: 4. 8. 20. 21, the output is shorter than the label." For disk d of n, into so many bytes.
unfoldable pub write_refusals : Form → ℕ → ℕ → Label → ℕ → List (ℕ × Bool)
write_refusals f d n l room =
    (4, outside f n) ∷
    (8, leb n d) ∷
    (20, wrong_sets l d n) ∷
    (21, ltb room (length (encode f d n l))) ∷
    []

unfoldable pub write_refusal : Form → ℕ → ℕ → Label → ℕ → ℕ
write_refusal f d n l room = first_of (write_refusals f d n l room)

-- "It yields the label's length, 0 if refused"
unfoldable pub written : Form → ℕ → ℕ → Label → ℕ → Written
written f d n l room =
    record {
      refusal = write_refusal f d n l room;
      length = cond (eqb (write_refusal f d n l room) 0) (length (encode f d n l)) 0;
    }

-- "bytes beyond the label stay"; refused, "no change in the state or any buffer"
unfoldable pub written_bytes : Form → ℕ → ℕ → Label → List ℕ → List ℕ
written_bytes f d n l old = cond (eqb (write_refusal f d n l (length old)) 0) (splice 0 (encode f d n l) old) old

-- what the writer's code gives, as the paper has it
abbrev pub written_of : Result ℕ Refusal → Written
written_of (Ok len) = record { refusal = 0; length = len }
written_of (Err r) = record { refusal = number_of r; length = 0 }

-- A swap in two steps, as code makes it: the move, and then a blank disk.
use Rattle.std.specs.Prelude.{List, ℕ, set}
use Rattle.label.specs.Bytes.{blank}
use Rattle.protocol.specs.declared.Answer.{Answer}
use Rattle.protocol.specs.declared.State.{State}
use Rattle.protocol.specs.States.{with_labels}
use Rattle.protocol.specs.Outcomes.{Ending, ended}
use Rattle.protocol.specs.Calls.{swap_power}

-- what its whole list leaves, the old disk still in
abbrev pub moved_off : State → ℕ → List ℕ → Ending
moved_off s d output count w = ended 0 count s w (swap_power s d) output

-- the answer with an empty label of disk d
abbrev pub with_blank_label : Answer → ℕ → Answer
with_blank_label r d = record {
  refusal = r.refusal;
  stores = r.stores;
  state = with_labels r.state (set r.state.labels d blank) r.state.power;
}

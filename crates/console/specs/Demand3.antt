-- From what `run` promises to demand 3.
use Rattle.std.specs.Prelude.{◌≡◌, ℕ, pos, length}
use mathlib.Core.List.{List, flatten}
use Rattle.protocol.specs.Geometry.{most_disks, most_blocks, area_size}
use Rattle.shell.specs.Dialogue.{dialogue, lines, initial, after_blocks}
use Rattle.program.specs.Demand3.{Keeps}
use Rattle.program.specs.Reads.{count_read}
use Rattle.console.specs.declared.Program.{Program}
use Rattle.console.specs.declared.Served.{Served}
use Rattle.console.specs.Runs.{Ran}

-- What is left of state, line and memory is what these blocks of input leave, of which the program's claim holds.
pub record Meets (memory₀ : List ℕ) (program : Program) : Type 0 where
  pub blocks : List (List ℕ)
  pub leaves : dialogue program.shell program.memory ≡ after_blocks blocks (initial memory₀)
  pub keeps : Keeps memory₀ blocks (lines (flatten blocks))

-- Of every run in a memory as `largest_area` gives it that the end of the input ended.
abbrev pub RunsMeetDemand3 : Type 0
RunsMeetDemand3 = (memory₀ : List ℕ) → length memory₀ ≡ area_size most_disks most_blocks
    → (program : Program) (last : Served) → Ran memory₀ program last
    → count_read last.got ≡ pos 0
    → Meets memory₀ program

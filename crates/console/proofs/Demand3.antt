-- A run that the end of the input ended meets demand 3. Assumes nothing.
use mathlib.Core.Path.{◌∙◌}
use Rattle.program.specs.Rounds.{blocks_of}
use Rattle.program.proofs.Rounds.{rounds_serve_input}
use Rattle.program.proofs.Demand3.{program_meets_demand_3}
use Rattle.console.specs.Runs.{round_of}
use Rattle.console.specs.Demand3.{RunsMeetDemand3}

pub runs_meet_demand_3 : RunsMeetDemand3
runs_meet_demand_3 memory₀ size program last ran ended =
    let made = ran.made in
    record {
      blocks = blocks_of made.earlier;
      leaves =
          made.left
          ∙ (rounds_serve_input memory₀ made.earlier made.go_on (round_of last program.block) ended).leaves;
      keeps = program_meets_demand_3 memory₀ size (blocks_of made.earlier);
    }

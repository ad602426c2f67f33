use mathlib.Core.Path.{ap}
use native.Mathlib.Omega.{arith}
use lib.Seq.{length-take-le}
use Rattle.console.proofs.Handing.{stored_first}
use Rattle.console.proofs.Program.serve_once.Goals as goal

pub answer-requires : goal.answer-requires
answer-requires c =
    let heard = c.hear in
    let empty = c.requires in
    record {
      all = length-take-le _ _ (omega arith);
      block = _;
      before = _;
      prints = stored_first _ _ empty heard.ensures.output;
      leaves = ap (λ d. d.machine.state) heard.ensures.dialogue;
    }

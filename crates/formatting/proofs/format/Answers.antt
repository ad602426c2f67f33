use mathlib.Core.Path.{refl, sym}
use Rattle.protocol.specs.Calls.{format_outcome}
use Rattle.protocol.proofs.Formatting.{format_passed}
use Rattle.protocol.proofs.Outcomes.{passed}
use Rattle.formatting.proofs.Cleared.{cleared}
use Rattle.formatting.proofs.format.Goals as goal

pub formatted-requires : goal.formatted-requires
formatted-requires c = format_passed _ _ c.args.area.now (sym c.in-Ok.ensures)

pub returns-in-Ok : goal.returns-in-Ok
unfolding format_outcome
returns-in-Ok c output =
    passed _ _ _ _ _ c.in-Ok.ensures refl
    (rw (
      c.done.ensures,
      c.formatted.ensures,
      c.clear.ensures,
      cleared _ _ _ (sym c.in-Ok.ensures),
    ))

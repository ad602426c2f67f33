-- What the code's stages are in document 01's definition.
use Rattle.protocol.specs.Naming as paper
use Rattle.finder.specs.declared.Stage.{Stage}
use Rattle.finder.specs.declared.Stage.TheVariants.{First, Second, Third}

abbrev pub stage_of : Stage → paper.Stage
stage_of First = paper.first
stage_of Second = paper.second
stage_of Third = paper.third

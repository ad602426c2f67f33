-- What the code's answers are in document 01's definition.
use Rattle.std.specs.Prelude.{ℕ, Result, Ok, Err}
use Rattle.refusals.specs.declared.Refusal.{Refusal}
use Rattle.refusals.specs.declared.Refusal.TheVariants.{NoSet, SeveralSets}
use Rattle.protocol.specs.Naming as paper
use Rattle.naming.specs.declared.Unnamed.{Unnamed}
use Rattle.naming.specs.declared.Unnamed.TheVariants.{Nothing, Several}

abbrev pub found_of : Result ℕ Unnamed → paper.Found
found_of (Ok x) = paper.one x
found_of (Err Nothing) = paper.none
found_of (Err Several) = paper.several

-- the refusal whose number `found_number` gives
abbrev pub refusal_of : Unnamed → Refusal
refusal_of Nothing = NoSet
refusal_of Several = SeveralSets

-- Which refusal a call gives. Document 01: "Each refusal falls in the order of its paragraph, on its condition only."
use Rattle.std.specs.Prelude.{Bool, cond, List, [], ◌∷◌, ℕ, Result, Ok, Err}
use Rattle.refusals.specs.declared.Refusal.{Refusal}
use Rattle.refusals.specs.declared.Refusal.TheVariants.{Unsound, BufferLength, BlockLength, DiskCount, BlockCount}
use Rattle.refusals.specs.declared.Refusal.TheVariants.{Stopped, Running, NoSuchDisk, NoSuchBlock, DiskOffline}
use Rattle.refusals.specs.declared.Refusal.TheVariants.{DiskCurrent, NoneLive, NoSet, SeveralSets, PowerLost}
use Rattle.refusals.specs.declared.Refusal.TheVariants.{LabelCutShort, LabelMap, LabelPlace, LabelEmptyField}
use Rattle.refusals.specs.declared.Refusal.TheVariants.{LabelSet, NoRoom, NoSuchRegion, NoSuchStage, DiskOnline}
use Rattle.refusals.specs.declared.Refusal.TheVariants.{OtherLabel, BadLine}

-- A paragraph of refusals: each one's number, and whether its condition holds. 0 is no refusal: "A done call gives 0."
unfoldable pub first_of : List (ℕ × Bool) → ℕ
first_of [] = 0
first_of (refusal ∷ later) = cond refusal.1 refusal.0 (first_of later)

-- the paper's number
abbrev pub number_of : Refusal → ℕ
number_of Unsound = 1
number_of BufferLength = 2
number_of BlockLength = 3
number_of DiskCount = 4
number_of BlockCount = 5
number_of Stopped = 6
number_of Running = 7
number_of NoSuchDisk = 8
number_of NoSuchBlock = 9
number_of DiskOffline = 10
number_of DiskCurrent = 11
number_of NoneLive = 12
number_of NoSet = 13
number_of SeveralSets = 14
number_of PowerLost = 15
number_of LabelCutShort = 16
number_of LabelMap = 17
number_of LabelPlace = 18
number_of LabelEmptyField = 19
number_of LabelSet = 20
number_of NoRoom = 21
number_of NoSuchRegion = 22
number_of NoSuchStage = 23
number_of DiskOnline = 24
number_of OtherLabel = 25
number_of BadLine = 99

-- the number of what code gives where it may refuse: 0 where it does not
abbrev pub refusal_number : {A : Type 0} → Result A Refusal → ℕ
refusal_number (Ok _) = 0
refusal_number (Err refusal) = number_of refusal

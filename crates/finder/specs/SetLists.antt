-- Lists of sets as code holds them: in an array, with how many of its sets are on the list.
use Rattle.std.specs.Prelude.{List, ℕ, take}
use Rattle.finder.specs.declared.set_list.SetList.{SetList}

-- the sets of a list, in their order
abbrev pub listed : SetList → List ℕ
listed l = take l.count l.sets

-- Lists of calls, and the reference beside them: what every call keeps holds after any list. Assumes nothing.
use mathlib.Core.Path.{◌≡◌, refl}
use mathlib.Core.List.{List, [], ◌∷◌, ◌++◌}
use Rattle.protocol.specs.History.{Step, Cabinet, outcome_of, cabinet_of, ran}
use Rattle.protocol.specs.Reference.{Reference, recorded, recorded_all}

-- two in a row
pub recorded_append : (xs ys : List Step) (ref : Reference)
    → recorded_all (xs ++ ys) ref ≡ recorded_all ys (recorded_all xs ref)
unfolding recorded_all
recorded_append [] ys ref = refl
recorded_append (x ∷ xs) ys ref = recorded_append xs ys (recorded x ref)

-- one call more
pub ran_last : (calls : List Step) (x : Step) (c : Cabinet)
    → ran (calls ++ (x ∷ [])) c ≡ cabinet_of (outcome_of x (ran calls c))
unfolding ran
ran_last [] x c = refl
ran_last (y ∷ calls) x c = ran_last calls x (cabinet_of (outcome_of y c))

-- the reference's cabinet does what the program's does
pub same_cabinet : (calls : List Step) (ref : Reference) → (recorded_all calls ref).cabinet ≡ ran calls ref.cabinet
unfolding recorded_all ran recorded
same_cabinet [] ref = refl
same_cabinet (x ∷ calls) ref = same_cabinet calls (recorded x ref)

-- what each call keeps holds after any list
pub after_calls : (I : Reference → Type 0) → ((x : Step) (ref : Reference) → I ref → I (recorded x ref))
    → (calls : List Step) (ref : Reference) → I ref → I (recorded_all calls ref)
unfolding recorded_all
after_calls I keep [] ref h = h
after_calls I keep (x ∷ calls) ref h = after_calls I keep calls (recorded x ref) (keep x ref h)

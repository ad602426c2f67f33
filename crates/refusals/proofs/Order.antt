-- What is known where a paragraph gives no refusal.
-- Assumes nothing.
use mathlib.Core.Path.{◌≡◌, refl}
use mathlib.Core.Bool.{Bool, true, false, cond, not, ◌&&◌, false≢true}
use mathlib.Core.List.{List, [], ◌∷◌}
use Prim.Native.Nat.{ℕ, zero, suc, ◌<◌}
use native.Mathlib.Omega.{arith}
use lib.Dec.{eqb}
use lib.ListN.{get_or}
use Rattle.sets.proofs.Tests.{and_parts}
use Rattle.refusals.specs.Refusals.{first_of}

-- where a paragraph gives 0, its first condition does not hold, and neither do the later ones
pub none_of : (number : ℕ) (unfit : Bool) (later : List (ℕ × Bool)) → 0 < number → first_of ((number, unfit) ∷ later)
    ≡ 0
    → (unfit ≡ false) × (first_of later ≡ 0)
unfolding first_of
none_of number true later h e = absurd (omega arith)
none_of number false later h e = (refl, e)

-- no refusal has the number 0
abbrev pub numbered : List (ℕ × Bool) → Bool
numbered [] = true
numbered (refusal ∷ later) = not (eqb refusal.0 0) && numbered later

-- a call whose refusals give 0 has passed each of them: the condition at place i, counted from 0, does not hold
pub none_at : (refusals : List (ℕ × Bool)) → numbered refusals ≡ true → first_of refusals ≡ 0 → (i : ℕ)
    → (get_or refusals i (1, false)).1 ≡ false
none_at [] h e i = refl
none_at ((zero, unfit) ∷ later) h e i = absurd (false≢true h)
none_at ((suc number, unfit) ∷ later) h e zero = (none_of (suc number) unfit later (omega arith) e).0
none_at ((suc number, unfit) ∷ later) h e (suc i) =
    none_at later (and_parts (not (eqb (suc number) 0)) (numbered later) h).1
    (none_of (suc number) unfit later (omega arith) e).1 i

-- the place of the refusal that has this number, the first of several
abbrev pub place_of : ℕ → List (ℕ × Bool) → ℕ
place_of number [] = 0
place_of number (refusal ∷ later) = cond (eqb refusal.0 number) 0 (suc (place_of number later))

-- `none_at` by the refusal's number: what a proof takes from a paragraph then does not depend on its order
pub none_by : (refusals : List (ℕ × Bool)) → numbered refusals ≡ true → first_of refusals ≡ 0 → (number : ℕ)
    → (get_or refusals (place_of number refusals) (1, false)).1 ≡ false
none_by refusals h e number = none_at refusals h e (place_of number refusals)

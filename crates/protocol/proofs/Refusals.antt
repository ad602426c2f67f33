-- Paragraphs of refusals: where none applies, one after the other, and where one number is not given. Assumes nothing.
use mathlib.Core.Path.{◌≡◌, refl, sym, ◌∙◌}
use mathlib.Core.Logic.{◌≢◌}
use mathlib.Core.Bool.{Bool, true, false, not, cond, ◌&&◌, ◌||◌, or-false}
use mathlib.Core.List.{List, [], ◌∷◌, ◌++◌}
use Prim.Native.Nat.{ℕ, ◌<◌}
use native.Mathlib.Omega.{arith}
use lib.Dec.{eqb}
use borrow.Author.Tests.{eq-eqb, ne_eqb, not-true}
use Rattle.sets.proofs.Tests.{clash, and_parts}
use Rattle.refusals.specs.Refusals.{first_of}
use Rattle.protocol.proofs.Loops.{Each, nil, cons}

-- a refusal does not apply
abbrev pub Unmet : ℕ × Bool → Type 0
Unmet refusal = refusal.1 ≡ false

-- it has a number, if it applies
abbrev pub Numbered : ℕ × Bool → Type 0
Numbered refusal = refusal.1 ≡ true → 0 < refusal.0

-- where none applies, none is given
pub none_given : {refusals : List (ℕ × Bool)} → Each Unmet refusals → first_of refusals ≡ 0
unfolding first_of
none_given nil = refl
none_given (cons p ps) = rw p (none_given ps)

-- where none is given, none applies
pub none_applies : {refusals : List (ℕ × Bool)} → Each Numbered refusals → first_of refusals ≡ 0 → Each Unmet refusals
unfolding first_of
none_applies nil e = nil
none_applies (cons {x = (number, true)} p ps) e = absurd (omega (arith, p refl))
none_applies (cons {x = (number, false)} p ps) e = cons refl (none_applies ps e)

-- ---- paragraphs in a row

-- the first refusal of a paragraph, or else of the next one
pub in_a_row : {earlier : List (ℕ × Bool)} (later : List (ℕ × Bool)) → Each Numbered earlier
    → first_of (earlier ++ later) ≡ cond (eqb (first_of earlier) 0) (first_of later) (first_of earlier)
unfolding first_of
in_a_row later nil = refl
in_a_row later (cons {x = (number, true)} p ps) = rw (ne_eqb number 0 (λ e. omega (arith, p refl)))
in_a_row later (cons {x = (number, false)} p ps) = in_a_row later ps

-- so where none is given, none of either is
pub none_in_a_row : {earlier : List (ℕ × Bool)} (later : List (ℕ × Bool)) → Each Numbered earlier
    → first_of (earlier ++ later) ≡ 0 → (first_of earlier ≡ 0) × (first_of later ≡ 0)
unfolding first_of
none_in_a_row later nil e = (refl, e)
none_in_a_row later (cons {x = (number, true)} p ps) e = absurd (omega (arith, p refl))
none_in_a_row later (cons {x = (number, false)} p ps) e = none_in_a_row later ps e

-- ---- a number that is not given

-- no refusal that has this number applies
abbrev pub lacks : ℕ → List (ℕ × Bool) → Bool
lacks number [] = true
lacks number (refusal ∷ later) = (not (eqb refusal.0 number) || not refusal.1) && lacks number later

pub not_given : (number : ℕ) → 0 < number → (refusals : List (ℕ × Bool)) → lacks number refusals ≡ true
    → first_of refusals ≢ number
unfolding first_of
not_given number h [] e z = omega arith
not_given number h ((other, unfit) ∷ later) e z =
    let (p, q) = and_parts _ _ e in go unfit p (not_given number h later q) z
  where
    go : (t : Bool) → (not (eqb other number) || not t) ≡ true → first_of later ≢ number
        → cond t other (first_of later) ≢ number
    go true p ih z = clash (eq-eqb other number z) (not-true _ (sym (or-false (not (eqb other number))) ∙ p))
    go false p ih z = ih z

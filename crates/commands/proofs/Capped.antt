-- A word's value, which stops growing where it is too large. Assumes nothing.
use mathlib.Core.Path.{◌≡◌, refl}
use mathlib.Core.List.{List, [], ◌∷◌, ◌++◌}
use Prim.Native.Nat.{ℕ, ◌+◌, ◌*◌, ◌-◌, ◌≤◌, ◌<◌}
use native.Mathlib.Omega.{arith}
use lib.Dec.{ltb}
use borrow.Author.Tests.{lt-ltb, ltb-true}
use Rattle.sets.proofs.Tests.{Test, passes, fails, test}
use Rattle.decimal.specs.Numerals.{value_from}
use Rattle.commands.specs.Commands.{number_most}
use Rattle.commands.specs.Scanning.{grown}

abbrev pub capped_from : ℕ → List ℕ → ℕ
capped_from v [] = v
capped_from v (x ∷ w) = capped_from (grown v x) w

abbrev pub capped : List ℕ → ℕ
capped w = capped_from 0 w

pub capped_snoc : (w : List ℕ) (v x : ℕ) → capped_from v (w ++ (x ∷ [])) ≡ grown (capped_from v w) x
capped_snoc [] v x = refl
capped_snoc (y ∷ w) v x = capped_snoc w (grown v y) x

large_stays : (w : List ℕ) (v : ℕ) → number_most < v → capped_from v w ≡ v
unfolding grown
large_stays [] v h = refl
large_stays (x ∷ w) v h = rw (lt-ltb number_most v h) (large_stays w v h)

value_grows : (w : List ℕ) (v : ℕ) → v ≤ value_from v w
unfolding value_from
value_grows [] v = omega arith
value_grows (x ∷ w) v = omega (arith, value_grows w (v * 10 + (x - 48)))

-- too large where the value is, and otherwise the value
pub data Capped (v : ℕ) (w : List ℕ) : Type 0 where
  large : number_most < capped_from v w → number_most < value_from v w → Capped v w
  exact : capped_from v w ≡ value_from v w → Capped v w

pub how_capped : (w : List ℕ) (v : ℕ) → Capped v w
unfolding grown value_from
how_capped [] v = exact refl
how_capped (x ∷ w) v = go (test (ltb number_most v)) (how_capped w (v * 10 + (x - 48)))
  where
    go : Test (ltb number_most v) → Capped (v * 10 + (x - 48)) w → Capped v (x ∷ w)
    go (passes e) later =
        let h = ltb-true number_most v e in
        large (rw (large_stays (x ∷ w) v h) h) (omega (arith, h, value_grows (x ∷ w) v))
    go (fails e) (large h k) = large (rw e h) k
    go (fails e) (exact h) = exact (rw e h)

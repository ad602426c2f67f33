-- The area that fresh gives. Assumes nothing.
use mathlib.Core.Path.{◌≡◌, refl}
use mathlib.Core.List.{List}
use Prim.Native.Nat.{ℕ}
use lib.ListN.{length, replicate}
use borrow.Author.Tests.{eqb-true, not-false}
use Rattle.refusals.specs.Refusals.{first_of}
use Rattle.refusals.proofs.Order.{none_by}
use Rattle.protocol.specs.Geometry.{area_size}
use Rattle.protocol.specs.Calls.{format_refusals, zero_area}

-- an area of the right size, cleared, has all blocks zero
pub cleared : (n b : ℕ) (area : List ℕ) → first_of (format_refusals n b area) ≡ 0
    → replicate (length area) 0 ≡ zero_area n b
unfolding format_refusals zero_area
cleared n b area e =
    rw (eqb-true (length area) (area_size n b) (not-false _ (none_by (format_refusals n b area) refl e 2)))

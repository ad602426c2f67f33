-- Document 02, 2.4: "fetch each block of a dirty region from the lowest member once for all other members".
use Rattle.std.specs.Prelude.{◌≡◌, false, [], ◌∷◌, ℕ, ◌<◌, length}
use Rattle.sets.specs.Sets.{has}
use Rattle.protocol.specs.Geometry.{area_size, block}
use Rattle.protocol.specs.Loops.{for_each}
use Rattle.protocol.specs.Stores.{write, copy}
use Rattle.budget.specs.Runs.{Progress, run_all}

-- The block that one disk has at first, stored on each disk of a set without it, is what the list's copies make, under
-- any budget.
abbrev pub LoadedOnce : Type 0
LoadedOnce = (n b from k set : ℕ) (p : Progress) → from < n → k < b → has set from ≡ false
    → length p.disks.area ≡ area_size n b
    → run_all b (for_each n set (λ d. write d k (block b p.disks.area from k) ∷ [])) p
    ≡ run_all b (for_each n set (λ d. copy from d k ∷ [])) p

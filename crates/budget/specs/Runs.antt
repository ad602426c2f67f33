-- A list of stores under a budget, one store after the other. "If the list is longer than the supply, exactly the
-- first supply stores are made".
use Rattle.std.specs.Prelude.{cond, List, [], ◌∷◌, ℕ, ◌-◌, eqb}
use Rattle.sets.specs.Sets.{has}
use Rattle.protocol.specs.Stores.{Disks, Store, apply}
use Rattle.budget.specs.declared.Run.{Run}

-- The disks so far, and how many stores the power still allows.
pub record Progress : Type 0 where
  pub disks : Disks
  pub left : ℕ

-- that of a run, with what its disk area holds
abbrev pub progress : Run → List ℕ → Progress
progress r area = record { disks = record { labels = r.labels; area = area }; left = r.left }

-- one store, if the power allows it
unfoldable pub run_one : ℕ → Store → Progress → Progress
run_one b store p = cond (eqb p.left 0) p (record { disks = apply b store p.disks; left = p.left - 1 })

-- a list of them, on disks of b blocks
unfoldable pub run_all : ℕ → List Store → Progress → Progress
run_all b [] p = p
run_all b (store ∷ later) p = run_all b later (run_one b store p)

-- the store of disk d, if the set has it: an iteration of "for each disk of S"
abbrev pub one_if : ℕ → ℕ → Store → List Store
one_if set d store = cond (has set d) (store ∷ []) []

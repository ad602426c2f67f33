-- What is proved of the number of stores that a restart makes.
use Rattle.std.specs.Prelude.{◌≡◌, cond, List, ℕ, ◌+◌, ◌-◌, ◌*◌, ◌<◌}
use Rattle.sets.specs.Sets.{size}
use Rattle.protocol.specs.declared.State.{State}
use Rattle.protocol.specs.Geometry.{regions, region_blocks}
use Rattle.protocol.specs.Loops.{some, sum_below}
use Rattle.protocol.specs.States.{is_dirty}
use Rattle.protocol.specs.Naming.{one, found_by}
use Rattle.protocol.specs.Outcomes.{Outcome}
use Rattle.protocol.specs.Calls.{restart_outcome}

module _ (s : State) (set : ℕ) where
  -- "for each block ascending, copy it .. to each other member ..; then clear the bit on every member, .. standing or
  -- not": the stores of a dirty region
  abbrev pub resync_stores : ℕ → ℕ
  resync_stores r = region_blocks s.blocks r * (size set - 1) + size set

  -- "For each region .. that is dirty on any disk of S"; "At the end store C = S and T = 0 on every member"
  abbrev pub restart_stores : ℕ
  restart_stores =
      sum_below (regions s.blocks) (λ r. cond (some s.disks set (λ d. is_dirty s.labels d r)) (resync_stores r) 0)
      + size set

  -- what a restart owes that finds this set
  pub record Restarting (budget : ℕ) (o : Outcome) : Type 0 where
    pub done : o.answer.refusal ≡ 0 → o.answer.stores ≡ restart_stores
    pub cut : o.answer.refusal ≡ 15 → (o.answer.stores ≡ budget) × (budget < restart_stores)

abbrev pub RestartsCounted : Type 0
RestartsCounted = (s : State) (area output : List ℕ) (budget set : ℕ) → found_by s ≡ one set
    → Restarting s set budget (restart_outcome s area output budget)

-- Demand 3, proved. Assumes nothing.
use mathlib.Core.Path.{◌≡◌, ap, ◌∙◌}
use mathlib.Core.Logic.{◌≢◌}
use mathlib.Core.Bool.{true}
use mathlib.Core.List.{List, []}
use Prim.Native.Nat.{ℕ, ◌≤◌, ◌<◌}
use lib.ListN.{length}
use Rattle.sets.specs.Sets.{has, all}
use Rattle.protocol.specs.declared.Call.TheVariants.{Restart}
use Rattle.protocol.specs.declared.Power.TheVariants.{Stopped, Running}
use Rattle.protocol.specs.Geometry.{block}
use Rattle.protocol.specs.Lists.{restart_list}
use Rattle.protocol.specs.Naming.{one, found_by}
use Rattle.protocol.specs.Calls.{restart_outcome, format_outcome}
use Rattle.protocol.specs.History.{Step, Cabinet, perform}
use Rattle.protocol.specs.Demand3.{CallIn, given, result, contents_at, Demand3Holds}
use Rattle.protocol.proofs.RestartResults.{never_14, runs_when_done, finds_set}
use Rattle.protocol.proofs.Invariant.{holds_reference, invariant_before, invariant_after}

module _ (n b : ℕ) (lent : List ℕ) (done : (format_outcome lent [] n b).answer.refusal ≡ 0)
    {calls : List Step} (c : CallIn calls) (budget : ℕ) (is : c.this.call ≡ Restart budget) where
  abbrev cabinet : Cabinet
  cabinet = given n b lent c

  restart_is : result n b lent c ≡ restart_outcome cabinet.state cabinet.area c.this.output budget
  unfolding perform
  restart_is = ap (λ call. perform call c.this.bytes c.this.output cabinet) is

  one_set : (result n b lent c).answer.refusal ≢ 14
  one_set = rw restart_is (never_14 (invariant_before n b lent done c) c.this.output budget)

  right : (result n b lent c).answer.refusal ≡ 0 → (g : ℕ) × ((result n b lent c).answer.state.power ≡ Running g)
      × ((d k : ℕ) → has g d ≡ true → k < b → block b (result n b lent c).area d k ≡ contents_at n b c k)
  right z =
      let (g, p) = runs_when_done (invariant_before n b lent done c) c.this.output budget (rw restart_is at z) in
      let runs = ap (λ o. o.answer.state.power) restart_is ∙ p in
      (g, runs, holds_reference (invariant_after n b lent done c) g runs)

  finds : cabinet.state.power ≡ Stopped → cabinet.state.online ≡ all n
      → (g : ℕ) × (found_by cabinet.state ≡ one g)
      × (length (restart_list cabinet.state g) ≤ budget → (result n b lent c).answer.refusal ≡ 0)
  finds off reach = rw restart_is (finds_set (invariant_before n b lent done c) c.this.output budget off reach)

pub demand_3 : Demand3Holds
demand_3 n b lent done calls = record {
  one_set = one_set n b lent done;
  right = right n b lent done;
  finds = finds n b lent done;
}

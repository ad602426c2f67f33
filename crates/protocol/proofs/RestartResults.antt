-- What a restart of a cabinet gives that holds what the invariant asks: never 14, and a set where all disks are in
-- reach. Assumes nothing.
use mathlib.Core.Path.{◌≡◌, refl, sym, ap, ◌∙◌, subst}
use mathlib.Core.Logic.{◌≢◌}
use mathlib.Core.Bool.{false}
use mathlib.Core.List.{List}
use Prim.Native.Nat.{ℕ, ◌≤◌}
use native.Mathlib.Omega.{arith}
use lib.Dec.{eqb, lit<}
use lib.ListN.{length}
use borrow.Author.Tests.{eq-eqb, le-ltb}
use Rattle.sets.specs.Sets.{all}
use Rattle.refusals.specs.Refusals.{first_of}
use Rattle.protocol.specs.declared.Power.TheVariants.{Stopped, Running}
use Rattle.protocol.specs.declared.State.{State}
use Rattle.protocol.specs.States.{is_running}
use Rattle.protocol.specs.Lists.{restart_list}
use Rattle.protocol.specs.Naming.{Found, none, one, several, Names, found_number, found_by}
use Rattle.protocol.specs.Outcomes.{Outcome, disks_of, refused_or, carry_out}
use Rattle.protocol.specs.Calls.{restart_refusals, restart_outcome}
use Rattle.protocol.specs.History.{Cabinet}
use Rattle.protocol.specs.Reference.{Contents}
use Rattle.protocol.proofs.Soundness.{test_agrees}
use Rattle.protocol.proofs.Refusals.{not_given}
use Rattle.protocol.proofs.Naming.{found_names}
use Rattle.protocol.proofs.Backing.{never_several, finds_one}
use Rattle.protocol.proofs.Consistency.{Restartable, held_restartable}
use Rattle.protocol.proofs.Outcomes.{refused_cut_or_whole}
use Rattle.protocol.proofs.Invariant.{Invariant}

module _ {n b : ℕ} {contents : Contents} {c : Cabinet} (h : Invariant n b contents c) where
  abbrev s : State
  s = c.state

  restartable : Restartable s.disks s.blocks contents (disks_of s c.area)
  restartable = held_restartable _ _ contents _ s.power h.consistent.held

  names : Names s.online s.labels (found_by s)
  names = found_names s h.proper.fit

  not_several : eqb (found_number (found_by s)) 14 ≡ false
  not_several = go (found_by s) names
    where
      go : (f : Found) → Names s.online s.labels f → eqb (found_number f) 14 ≡ false
      go none z = refl
      go (one x) z = refl
      go several z = absurd (never_several restartable.recoverable z)

  -- so no refusal is 14
  no_refusal_14 : first_of (restart_refusals s c.area) ≢ 14
  unfolding restart_refusals
  no_refusal_14 = not_given 14 (lit< tt) (restart_refusals s c.area) (rw not_several)

  module _ (output : List ℕ) (budget : ℕ) where
    abbrev restart : Outcome
    restart = restart_outcome s c.area output budget

    pub never_14 : restart.answer.refusal ≢ 14
    unfolding restart_outcome
    never_14 =
        refused_cut_or_whole _ budget s c.area output _ _ (λ o. o.answer.refusal ≢ 14)
        (λ ne. no_refusal_14) (λ e l z. omega arith) (λ e l z. omega arith)

    -- done, it runs
    pub runs_when_done : restart.answer.refusal ≡ 0 → (g : ℕ) × (restart.answer.state.power ≡ Running g)
    unfolding restart_outcome
    runs_when_done =
        refused_cut_or_whole _ budget s c.area output _ _
        (λ o. o.answer.refusal ≡ 0 → (g : ℕ) × (o.answer.state.power ≡ Running g))
        (λ ne z. absurd (ne z)) (λ e l z. absurd (omega arith)) (λ e l z. (_, refl))

    -- with all disks in reach it finds a set, and is done when the budget is enough
    pub finds_set : s.power ≡ Stopped → s.online ≡ all n
        → (g : ℕ) × (found_by s ≡ one g) × (length (restart_list s g) ≤ budget → restart.answer.refusal ≡ 0)
    unfolding restart_outcome restart_refusals refused_or first_of carry_out
    finds_set off reach =
        let in_reach = subst (λ r. Names r s.labels (found_by s)) (reach ∙ ap all (sym h.disks)) names in
        let (g, e) = finds_one restartable.recoverable (found_by s) in_reach in (
          g,
          e,
          λ l. rw (
            (test_agrees s).1 h.proper.fit,
            eq-eqb _ _
                restartable.size,
            e,
            ap is_running off,
            le-ltb _ _ l,
          ),
        )

-- What every call preserves, and how a call's proof of it is put together: from its refusals, and from its list of
-- stores. Assumes nothing.
use mathlib.Core.Path.{◌≡◌, refl}
use mathlib.Core.Logic.{◌≢◌}
use mathlib.Core.Bool.{Bool, true}
use mathlib.Core.List.{List, [], ◌∷◌}
use Prim.Native.Nat.{ℕ, ◌≤◌}
use native.Mathlib.Omega.{arith}
use lib.Dec.{lit<}
use lib.ListN.{length}
use Rattle.sets.specs.Sets.{below}
use Rattle.refusals.specs.Refusals.{first_of}
use Rattle.protocol.specs.declared.Power.{Power}
use Rattle.protocol.specs.declared.Power.TheVariants.{Stopped, Running}
use Rattle.protocol.specs.declared.State.{State}
use Rattle.protocol.specs.Soundness.{Sound, Proper, FitCurrent, FitPower}
use Rattle.protocol.specs.States.{state_of}
use Rattle.protocol.specs.Stores.{Disks, Store, apply_all, made}
use Rattle.protocol.specs.Outcomes.{Outcome, outcome, refused_or, disks_of, Ending, runs_with, carry_out}
use Rattle.protocol.specs.Calls.{unsound}
use Rattle.protocol.specs.History.{Cabinet, cabinet_of}
use Rattle.protocol.specs.Reference.{Contents, CarriedWrite, after_writes}
use Rattle.protocol.proofs.Loops.{Each}
use Rattle.protocol.proofs.Stores.{keeps, keeps_along}
use Rattle.protocol.proofs.Soundness.{test_agrees}
use Rattle.protocol.proofs.Refusals.{lacks, not_given}
use Rattle.protocol.proofs.Outcomes.{refused_or_lem, cut_or_whole}
use Rattle.protocol.proofs.FitStores.{FitDisks, KeepsFit}
use Rattle.protocol.proofs.Consistency.{InSync, Restartable, Held, Consistent}

-- ---- what a call owes that is given c, carries out these writes and ends so

pub record Preserves (c : Cabinet) (writes : List CarriedWrite) (o : Outcome) : Type 0 where
  pub disks : o.answer.state.disks ≡ c.state.disks
  pub blocks : o.answer.state.blocks ≡ c.state.blocks
  pub accepts : Sound c.state → o.answer.refusal ≢ 1
  pub proper : Proper c.state → Proper o.answer.state
  pub consistent : (contents : Contents) → Consistent contents c
      → Consistent (after_writes writes contents) (cabinet_of o)

module _ (c : Cabinet) where
  abbrev s : State
  s = c.state

  abbrev n : ℕ
  n = s.disks

  abbrev b : ℕ
  b = s.blocks

  abbrev w : Disks
  w = disks_of s c.area

  module _ (p : Proper s) where
    pub fit_before : FitDisks n b w
    fit_before = record { few = p.fit.range.disks; labels = p.fit.labels; slots = p.slots }

    pub fit_current : {g : ℕ} → s.power ≡ Running g → FitCurrent n s.labels g
    fit_current e = rw e at p.fit.power

    pub still_proper : (v : Disks) (online : ℕ) (power : Power) → FitDisks n b v → below online n ≡ true
        → FitPower n v.labels power
        → Proper (state_of n b v.labels online power)
    still_proper v online power h known q = record {
      fit = record { range = p.fit.range; online = known; labels = h.labels; power = q };
      slots = h.slots;
    }

  module _ (writes : List CarriedWrite) where
    -- it ends with these disks, R and power condition
    pub ends_with : (refusal count : ℕ) (v : Disks) (online : ℕ) (power : Power) (out : List ℕ) → refusal ≢ 1
        → (Proper s → Proper (state_of n b v.labels online power))
        → ((contents : Contents) → Consistent contents c → Held n b (after_writes writes contents) v power)
        → Preserves c writes (outcome refusal count (state_of n b v.labels online power) v.area out)
    ends_with refusal count v online power out ne proper held = record {
      disks = refl;
      blocks = refl;
      accepts = λ fit. ne;
      proper = proper;
      consistent = λ contents h. record { held = held contents h };
    }

    -- a paragraph begins with 1 and has no other 1; refused, the call carries out no write
    pub unless_refused : (later : List (ℕ × Bool)) (output : List ℕ) (done : Outcome) → lacks 1 later ≡ true
        → (first_of (unsound s ∷ later) ≢ 0 → writes ≡ [])
        → (first_of (unsound s ∷ later) ≡ 0 → Preserves c writes done)
        → Preserves c writes (refused_or (unsound s ∷ later) s c.area output done)
    unfolding after_writes
    unless_refused later output done others none =
        refused_or_lem (unsound s ∷ later) s c.area output done (Preserves c writes)
        (λ ne. record {
          disks = refl;
          blocks = refl;
          accepts = λ fit. not_given 1 (lit< tt) (unsound s ∷ later) (rw ((test_agrees s).1 fit) others);
          proper = λ p. p;
          consistent = λ contents h. rw (none ne) h;
        })

    module _ (stores : List Store) (fits : Each (KeepsFit n b) stores) where
      -- a list of stores, each of which keeps labels fit, is cut where the disks are restartable, or made whole
      pub carried_out : (budget : ℕ) (output : List ℕ) (whole : Ending)
          → ((contents : Contents) → Consistent contents c
          → Restartable n b (after_writes writes contents) (apply_all b (made budget stores) w))
          → (length stores ≤ budget → Preserves c writes (whole (length stores) (apply_all b stores w)))
          → Preserves c writes (carry_out stores budget s c.area output whole)
      carried_out budget output whole held =
          cut_or_whole stores budget s c.area output whole (Preserves c writes)
          (λ l. ends_with 15 budget _ s.online Stopped output (λ z. omega arith)
          (λ p. still_proper p _ s.online Stopped (keeps_along b (FitDisks n b) fits w (fit_before p) budget)
          p.fit.online tt) held)

      -- whole, and the cabinet runs with g, whatever count it reports
      pub runs_with_lem : (g : ℕ) (output : List ℕ) → (Proper s → FitCurrent n (apply_all b stores w).labels g)
          → ((contents : Contents) → Consistent contents c
          → InSync n b (after_writes writes contents) g (apply_all b stores w))
          → {count : ℕ} → Preserves c writes (runs_with g s output count (apply_all b stores w))
      runs_with_lem g output current done {count} =
          ends_with 0 count (apply_all b stores w) s.online (Running g) output (λ z. omega arith)
          (λ p. still_proper p _ s.online (Running g) (keeps b (FitDisks n b) fits w (fit_before p)) p.fit.online
          (current p)) done

-- An `f` among the commands: done, it begins a list; refused, it changes nothing. Assumes nothing.
use mathlib.Core.Path.{◌≡◌, refl, sym, ap, ◌∙◌}
use mathlib.Core.Logic.{◌≢◌}
use mathlib.Core.Bool.{true, false}
use mathlib.Core.List.{List, []}
use Prim.Native.Nat.{ℕ, ◌≤◌}
use native.Mathlib.Omega.{arith}
use lib.ListN.{length, length-replicate, take-append-drop}
use lib.Seq.{length-take-le}
use borrow.Author.Tests.{eqb-true, eqb-false, ne_eqb}
use Rattle.protocol.specs.Geometry.{area_size}
use Rattle.protocol.specs.Outcomes.{Outcome}
use Rattle.protocol.specs.States.{zero_state}
use Rattle.protocol.specs.Calls.{zero_area, formatted, format_refusals, format_outcome}
use Rattle.protocol.specs.History.{cabinet_of, ran}
use Rattle.protocol.specs.Reference.{started}
use Rattle.protocol.proofs.Outcomes.{refused_or_lem}
use Rattle.protocol.proofs.Formatting.{format_is_done, format_done}
use Rattle.commands.specs.declared.Command.TheVariants.{Format}
use Rattle.interpreter.specs.Execution.{Machine, machine_of, area_of, with_area}
use Rattle.interpreter.specs.Execution.{kept_state, format_executed, reply_to, executed}
use Rattle.interpreter.specs.Histories as history
use Rattle.interpreter.proofs.Tracking.{largest, in_memory, area_back, memory_kept, Tracks}

-- a fresh that is done, in any area of its size
format_gives : (n b : ℕ) → history.good n b ≡ true → (area : List ℕ) → length area ≡ area_size n b
    → ((format_outcome area [] n b).answer.refusal ≡ 0)
    × (cabinet_of (format_outcome area [] n b) ≡ record { state = formatted n b; area = zero_area n b })
unfolding started
format_gives n b g area size =
    let (range, e) = format_done n b (zero_area n b) [] (eqb-true _ 0 g) in
    let done = format_is_done area [] n b range size in
    (done, (format_done n b area [] done).1)

-- one that is not, in any area, leaves it
format_leaves_area : (n b : ℕ) → history.good n b ≡ false → (area : List ℕ)
    → ((format_outcome area [] n b).answer.refusal ≢ 0) × ((format_outcome area [] n b).area ≡ area)
unfolding format_outcome zero_area
format_leaves_area n b g area =
    let done = format_is_done (zero_area n b) [] n b in
    let size = length-replicate {A = ℕ} (area_size n b) 0 in
    let never : (format_outcome area [] n b).answer.refusal ≢ 0 =
    λ z. eqb-false _ 0 g (done (format_done n b area [] z).0 size) in
    let left = refused_or_lem (format_refusals n b area) zero_state area [] _ in
    (never, left (λ o. o.answer.refusal ≢ 0 → o.area ≡ area) (λ ne h. refl) (λ z h. absurd (h refl)) never)

module _ (n b : ℕ) (m : Machine) where
  abbrev lent : List ℕ
  lent = area_of n b m.memory

  abbrev yields : Outcome
  yields = format_outcome lent [] n b

  -- an `f` that is done, in a memory that has room for its disk area
  module _ (g : history.good n b ≡ true) (room : length m.memory ≡ largest) where
    fresh : (yields.answer.refusal ≡ 0) × (cabinet_of yields ≡ record { state = formatted n b; area = zero_area n b })
    fresh =
        let range = (format_done n b (zero_area n b) [] (eqb-true _ 0 g)).0 in
        format_gives n b g lent (length-take-le (area_size n b) m.memory (omega (arith, room, in_memory n b range)))

    good_machine : (executed (Format n b) m).machine
        ≡ machine_of (formatted n b) (with_area n b m.memory (zero_area n b))
    unfolding executed format_executed kept_state
    good_machine = rw (fresh.0, ← ap (λ c. c.area) fresh.1, ← ap (λ c. c.state) fresh.1)

    no_stores : yields.answer.stores ≡ 0
    unfolding format_outcome
    no_stores =
        refused_or_lem (format_refusals n b lent) zero_state lent [] _ (λ o. o.answer.stores ≡ 0) (λ ne. refl)
        (λ z. refl)

    pub good_reply : (executed (Format n b) m).reply ≡ reply_to 0 0 (formatted n b) 0
    unfolding executed format_executed kept_state
    good_reply = rw (fresh.0, no_stores, ← ap (λ c. c.state) fresh.1)

    pub good_tracked : Tracks (history.calls n b []) (executed (Format n b) m).machine
    unfolding formatted zero_area ran
    good_tracked =
        let range = (format_done n b (zero_area n b) [] (eqb-true _ 0 g)).0 in
        let size = length-replicate {A = ℕ} (area_size n b) 0 in
        let enough : area_size n b ≤ length m.memory = omega (arith, room, in_memory n b range) in
        let back = area_back m.memory (area_size n b) enough (zero_area n b) size in
        rw good_machine
        record {
          left = (g, rw back (sym (format_gives n b g (zero_area n b) size).1));
          room = memory_kept m.memory (area_size n b) enough (zero_area n b) size ∙ room;
        }

  -- one that is refused
  pub refused_machine : history.good n b ≡ false → (executed (Format n b) m).machine ≡ m
  unfolding executed format_executed kept_state
  refused_machine g =
      let (never, same) = format_leaves_area n b g lent in
      rw (ne_eqb _ 0 never, same, take-append-drop (area_size n b) m.memory)

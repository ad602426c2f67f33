-- A read, cut anywhere, leaves disks that a restart can take up, and the output as it was. Whole, it leaves disks that
-- run with L, and the block of L's source in the output. Assumes nothing.
use mathlib.Core.Path.{◌≡◌, refl, sym, ap, ◌∙◌}
use mathlib.Core.List.{List, []}
use Prim.Native.Nat.{ℕ}
use native.Mathlib.Omega.{arith}
use lib.ListN.{length}
use lib.Seq.{take_all}
use Rattle.sets.proofs.Operations.{has-intersection}
use Rattle.refusals.specs.Refusals.{first_of}
use Rattle.protocol.specs.declared.State.{State}
use Rattle.protocol.specs.States.{current_of, live}
use Rattle.protocol.specs.Stores.{apply_all}
use Rattle.protocol.specs.Lists.{move_to_live}
use Rattle.protocol.specs.Outcomes.{Outcome, disks_of, carry_out}
use Rattle.protocol.specs.Calls.{block_refusals, copies_out, read_outcome}
use Rattle.protocol.specs.History.{Cabinet}
use Rattle.protocol.specs.Reference.{after_writes}
use Rattle.protocol.specs.Claims.{Noticing, ReadsNotice, SameInReach, ReadsInReach}
use Rattle.protocol.proofs.States.{source_has, live_in_reach}
use Rattle.protocol.proofs.Labels.{move_area}
use Rattle.protocol.proofs.Outcomes.{refused_or_lem, refused, passed}
use Rattle.protocol.proofs.Outcomes.{is_cut, is_whole, cut_or_whole, refused_cut_or_whole}
use Rattle.protocol.proofs.NotRefused.{block_passed}
use Rattle.protocol.proofs.LiveMoves.{live-fits, live_current, live_cut, live_done}
use Rattle.protocol.proofs.Preservation.{Preserves, unless_refused, carried_out, runs_with_lem}

-- ---- what it does, whatever it is given

pub reads_notice : ReadsNotice
unfolding read_outcome copies_out apply_all
reads_notice s area output k budget =
    let all = take_all (length (move_to_live s)) (move_to_live s) (omega arith) in
    refused_or_lem _ s area output _ (Noticing s area output)
    (λ ne. record { noticed = λ z. absurd (ne z); unfilled = λ nz. refl; counted = refl })
    (λ e. cut_or_whole _ budget s area _ _ (Noticing s area output)
    (λ l. record { noticed = λ z. absurd (omega arith); unfilled = λ nz. refl; counted = refl })
    (λ l. record {
      noticed = λ z. (live s, refl, has-intersection (current_of s.power) s.online);
      unfilled = λ nz. absurd (nz refl);
      counted = ap (λ stores. apply_all s.blocks stores (disks_of s area)) (sym all);
    }))

-- two areas with the same blocks in reach: a read of either is refused alike, and has the same block at L's source
module _ (s : State) (area other output : List ℕ) (k budget : ℕ) (size : length area ≡ length other)
    (same : SameInReach s area other) where
  same_refusal : first_of (block_refusals s other k output) ≡ first_of (block_refusals s area k output)
  unfolding block_refusals
  same_refusal = rw size

  module _ (e : first_of (block_refusals s other k output) ≡ 0) where
    not_refused : {x : Outcome} → carry_out (move_to_live s) budget s area output (copies_out s k) ≡ x
        → (read_outcome s area output k budget).output ≡ x.output
    unfolding read_outcome
    not_refused h = ap (λ o. o.output) (sym (passed _ s area output _ same_refusal e refl) ∙ h)

    same_block : (count : ℕ)
        → (copies_out s k count (apply_all s.blocks (move_to_live s) (disks_of s area))).output
        ≡ (copies_out s k count (apply_all s.blocks (move_to_live s) (disks_of s other))).output
    unfolding copies_out
    same_block count =
        let pass = block_passed s other k output e in
        rw (move_area, move_area)
        (same _ _ (live_in_reach s _ (source_has _ pass.some)) (omega (arith, pass.known)))

  same_output : (read_outcome s area output k budget).output ≡ (read_outcome s other output k budget).output
  unfolding read_outcome
  same_output =
      refused_cut_or_whole (move_to_live s) budget s other output (copies_out s k) _
      (λ o. (read_outcome s area output k budget).output ≡ o.output)
      (λ ne. sym (ap (λ o. o.output) (refused _ s area output _ same_refusal ne refl)))
      (λ e l. not_refused e (is_cut (move_to_live s) budget s area output (copies_out s k) l))
      (λ e l. not_refused e (is_whole (move_to_live s) budget s area output (copies_out s k) l) ∙ same_block e _)

pub reads_in_reach : ReadsInReach
reads_in_reach = same_output

-- ---- what it preserves

module _ (c : Cabinet) (k : ℕ) (output : List ℕ) (budget : ℕ) where
  pub read_preserves : Preserves c [] (read_outcome c.state c.area output k budget)
  unfolding read_outcome block_refusals copies_out after_writes
  read_preserves =
      unless_refused c [] _ output _ refl (λ ne. refl)
      (λ e.
      let pass = block_passed c.state c.area k output e in
      let fits = live-fits c pass.fit pass.runs pass.some in
      carried_out c [] (move_to_live c.state) fits budget output _
      (λ contents h. live_cut c pass.fit pass.runs pass.some contents h budget)
      (λ i. runs_with_lem c [] (move_to_live c.state) fits (live c.state) _
      (live_current c pass.fit pass.runs pass.some) (live_done c pass.fit pass.runs pass.some)))

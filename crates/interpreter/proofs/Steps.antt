-- A call among the commands: one more of the list, or none while the state is all zero. Assumes nothing.
use mathlib.Core.Path.{◌≡◌, refl, sym, ap, subst, ◌∙◌}
use mathlib.Core.Bool.{Bool, true, false, and-false}
use mathlib.Core.List.{List, [], ◌∷◌, ◌++◌}
use Prim.Native.Nat.{ℕ, ◌≤◌}
use native.Mathlib.Omega.{arith}
use lib.ListN.{length, take, take-append-drop}
use borrow.Author.Tests.{eqb-true}
use Rattle.refusals.specs.Refusals.{first_of}
use Rattle.label.specs.Rules.{outside}
use Rattle.protocol.specs.declared.State.{State}
use Rattle.protocol.specs.declared.Call.{Call}
use Rattle.protocol.specs.declared.Call.TheVariants.{Read, Write, Join, Clean, Restart, Detach, Attach, PowerOff}
use Rattle.protocol.specs.declared.Call.TheVariants.{Diagnose, Swap}
use Rattle.protocol.specs.Geometry.{area_size}
use Rattle.protocol.specs.Soundness.{in_range, sound}
use Rattle.protocol.specs.Outcomes.{Outcome, outcome, refused_or}
use Rattle.protocol.specs.Calls.{unsound, zero_area, format_outcome, block_refusals, read_outcome, write_outcome}
use Rattle.protocol.specs.Calls.{join_refusals, join_outcome, clean_refusals, clean_outcome, restart_refusals}
use Rattle.protocol.specs.Calls.{restart_outcome, reach_refusals, detach_outcome, attach_outcome, power_off_outcome}
use Rattle.protocol.specs.Calls.{attach_refusals, swap_refusals, swap_outcome}
use Rattle.protocol.specs.Diagnosis.{diagnose_refusals, diagnose_outcome}
use Rattle.protocol.specs.States.{zero_state}
use Rattle.protocol.specs.History.{Step, Cabinet, perform, outcome_of, cabinet_of}
use Rattle.protocol.specs.Demand3.{cabinet_after}
use Rattle.protocol.proofs.Formatting.{format_done}
use Rattle.protocol.proofs.History.{ran_last}
use Rattle.commands.specs.declared.Command.TheVariants.{Perform}
use Rattle.commands.specs.declared.Loan.{Loan}
use Rattle.interpreter.specs.Execution.{Machine, machine_of, cabinet_in, step_of, call_executed, call_reply, executed}
use Rattle.interpreter.specs.Execution.{reply_to, is_read, first_byte, with_area}
use Rattle.interpreter.specs.Histories as history
use Rattle.interpreter.proofs.Tracking.{largest, in_memory, area_back, memory_kept, fits, Tracks}

-- "calls give 1" while the state is all zero
zero_unsound : sound zero_state ≡ false
unfolding sound zero_state in_range outside
zero_unsound = refl

module _ (bytes output area : List ℕ) where
  refuses : (later : List (ℕ × Bool)) (done : Outcome)
      → refused_or (unsound zero_state ∷ later) zero_state area output done ≡ outcome 1 0 zero_state area output
  unfolding first_of refused_or
  refuses later done = rw zero_unsound

  zero_stays : (call : Call)
      → perform call bytes output (record { state = zero_state; area = area }) ≡ outcome 1 0 zero_state area output
  unfolding perform read_outcome write_outcome join_outcome clean_outcome restart_outcome detach_outcome attach_outcome
      power_off_outcome diagnose_outcome swap_outcome block_refusals join_refusals clean_refusals restart_refusals
      reach_refusals attach_refusals diagnose_refusals swap_refusals
  zero_stays (Read k budget) = refuses _ _
  zero_stays (Write k budget) = refuses _ _
  zero_stays (Join d budget) = refuses _ _
  zero_stays (Clean budget) = refuses _ _
  zero_stays (Restart budget) = refuses _ _
  zero_stays (Detach d) = refuses _ _
  zero_stays (Attach d) = refuses _ _
  zero_stays PowerOff = refuses _ _
  zero_stays (Diagnose stage d) = refuses _ _
  zero_stays (Swap d budget) = refuses _ _

module _ (call : Call) (loan : Loan) where
  -- the call of the list, on a cabinet of this state
  abbrev x : State → Step
  x s = step_of call loan s

  zero_executed : (memory : List ℕ)
      → executed (Perform call loan) (machine_of zero_state memory)
      ≡ record { machine = machine_of zero_state memory; reply = reply_to 1 0 zero_state 0 }
  unfolding executed call_executed call_reply first_byte
  zero_executed memory =
      let size = area_size zero_state.disks zero_state.blocks in
      rw (
        zero_stays (x zero_state).bytes (x zero_state).output (take size memory) call,
        take-append-drop size memory,
        and-false (is_read call),
      )

  module _ (m : Machine) (room : length m.memory ≡ largest) where
    pub zero_tracked : m.state ≡ zero_state → Tracks history.unformatted (executed (Perform call loan) m).machine
    zero_tracked e = rw (e, zero_executed m.memory) (record { left = refl; room = room })

    pub zero_replies : m.state ≡ zero_state → (executed (Perform call loan) m).reply ≡ reply_to 1 0 zero_state 0
    zero_replies e = rw (e, zero_executed m.memory)

    module _ (n b : ℕ) (earlier : List Step) (g : history.good n b ≡ true)
        (e : cabinet_in m ≡ cabinet_after n b (zero_area n b) earlier) where
      abbrev before : Cabinet
      before = cabinet_after n b (zero_area n b) earlier

      abbrev this : Step
      this = x before.state

      abbrev yielded : Outcome
      yielded = outcome_of this before

      done : (format_outcome (zero_area n b) [] n b).answer.refusal ≡ 0
      done = eqb-true _ 0 g

      one_more : cabinet_after n b (zero_area n b) (earlier ++ (this ∷ [])) ≡ cabinet_of yielded
      one_more = ran_last earlier this _

      -- what the program's call yields is what the list's does
      same : outcome_of (x m.state) (cabinet_in m) ≡ yielded
      same = ap (λ c. outcome_of (x c.state) c) e

      -- a machine that a call with this outcome leaves
      abbrev left : Outcome → Machine
      left o = machine_of o.answer.state (with_area m.state.disks m.state.blocks m.memory o.area)

      pub call_tracked : Tracks (history.calls n b (earlier ++ (this ∷ []))) (executed (Perform call loan) m).machine
      unfolding executed call_executed
      call_tracked =
          let given = fits n b done earlier in
          let after = rw one_more at (fits n b done (earlier ++ (this ∷ []))) in
          let range = (format_done n b (zero_area n b) [] done).0 in
          let enough : area_size n b ≤ length m.memory = omega (arith, room, in_memory n b range) in
          let disks : m.state.disks ≡ n = ap (λ c. c.state.disks) e ∙ given.0 in
          let blocks : m.state.blocks ≡ b = ap (λ c. c.state.blocks) e ∙ given.1 in
          let back = area_back m.memory (area_size n b) enough yielded.area after.2 in
          subst (λ o. Tracks (history.calls n b (earlier ++ (this ∷ []))) (left o)) (sym same)
          (rw (disks, blocks)
          (record {
            left = (g, rw (after.0, after.1, back) (sym one_more));
            room = memory_kept m.memory (area_size n b) enough yielded.area after.2 ∙ room;
          }))

      pub call_replies : (executed (Perform call loan) m).reply ≡ call_reply call yielded
      unfolding executed call_executed
      call_replies = ap (call_reply call) same

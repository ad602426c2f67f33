-- The first byte of an output that was zero is the first byte read: 0 unless a read was done. Assumes nothing.
use mathlib.Core.Path.{◌≡◌, refl}
use mathlib.Core.Bool.{Bool, true, false, cond, ◌&&◌}
use mathlib.Core.List.{List}
use Prim.Native.Nat.{ℕ}
use lib.Dec.{eqb}
use lib.ListN.{get_or, replicate}
use borrow.Author.Tests.{ne_eqb}
use Rattle.protocol.specs.declared.Call.{Call}
use Rattle.protocol.specs.declared.Call.TheVariants.{Read, Write, Join, Clean, Restart, Detach, Attach, PowerOff}
use Rattle.protocol.specs.declared.Call.TheVariants.{Diagnose, Swap}
use Rattle.protocol.specs.Geometry.{block_size}
use Rattle.protocol.specs.Stores.{Disks, Store}
use Rattle.protocol.specs.Outcomes.{Outcome, refused_or, Ending, carry_out}
use Rattle.protocol.specs.Calls.{copies_out, read_outcome, write_outcome, join_outcome, clean_outcome}
use Rattle.protocol.specs.Calls.{restart_outcome, detach_outcome, attach_outcome, power_off_outcome, swaps_in}
use Rattle.protocol.specs.Calls.{swap_outcome}
use Rattle.protocol.specs.Diagnosis.{diagnose_outcome}
use Rattle.protocol.specs.History.{Cabinet, perform}
use Rattle.protocol.proofs.Outcomes.{refused_or_lem, refused_cut_or_whole}
use Rattle.interpreter.specs.Execution.{is_read, first_byte}

module _ (bytes : List ℕ) (c : Cabinet) where
  abbrev zeros : List ℕ
  zeros = replicate block_size 0

  abbrev IsFirstByte : Call → Outcome → Type 0
  IsFirstByte call o = get_or o.output 0 0 ≡ first_byte call o.answer.refusal (get_or o.output 0 0)

  -- a call that leaves the output, done at once or by a list of stores
  zero_either : (t : Bool) → ◌≡◌ {A = ℕ} 0 (cond t 0 0)
  zero_either true = refl
  zero_either false = refl

  left : (call : Call) (refusal : ℕ) → 0 ≡ first_byte call refusal 0
  unfolding first_byte
  left call refusal = zero_either (is_read call && eqb refusal 0)

  at_once : (call : Call) (refusals : List (ℕ × Bool)) (done : Outcome) → IsFirstByte call done
      → IsFirstByte call (refused_or refusals c.state c.area zeros done)
  at_once call refusals done h =
      refused_or_lem refusals c.state c.area zeros done (IsFirstByte call) (λ ne. left call _) (λ z. h)

  by_stores : (call : Call) (refusals : List (ℕ × Bool)) (stores : List Store) (budget : ℕ) (whole : Ending)
      → ((count : ℕ) (w : Disks) → (whole count w).output ≡ zeros)
      → IsFirstByte call (refused_or refusals c.state c.area zeros
      (carry_out stores budget c.state c.area zeros whole))
  by_stores call refusals stores budget whole leaves =
      refused_cut_or_whole stores budget c.state c.area zeros whole refusals (IsFirstByte call)
      (λ ne. left call _) (λ e l. left call _) (λ e l. rw (leaves _ _) (left call _))

  pub first_byte_lem : (call : Call) → IsFirstByte call (perform call bytes zeros c)
  unfolding perform first_byte read_outcome copies_out write_outcome join_outcome clean_outcome restart_outcome
      detach_outcome
      attach_outcome power_off_outcome diagnose_outcome swap_outcome swaps_in
  first_byte_lem (Read k budget) =
      refused_cut_or_whole _ budget c.state c.area zeros _ _ (IsFirstByte (Read k budget))
      (λ ne. rw (ne_eqb _ _ ne)) (λ e l. refl) (λ e l. refl)
  first_byte_lem (Write k budget) = by_stores (Write k budget) _ _ _ _ (λ count w. refl)
  first_byte_lem (Join d budget) = by_stores (Join d budget) _ _ _ _ (λ count w. refl)
  first_byte_lem (Clean budget) = by_stores (Clean budget) _ _ _ _ (λ count w. refl)
  first_byte_lem (Restart budget) = by_stores (Restart budget) _ _ _ _ (λ count w. refl)
  first_byte_lem (Detach d) = at_once (Detach d) _ _ refl
  first_byte_lem (Attach d) = at_once (Attach d) _ _ refl
  first_byte_lem PowerOff = at_once PowerOff _ _ refl
  first_byte_lem (Diagnose stage d) = at_once (Diagnose stage d) _ _ refl
  first_byte_lem (Swap d budget) = by_stores (Swap d budget) _ _ _ _ (λ count w. refl)

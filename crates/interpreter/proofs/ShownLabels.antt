-- What the program shows for a disk: the label that the state holds, which brings the disk back. Assumes nothing.
use mathlib.Core.Path.{◌≡◌, refl}
use mathlib.Core.Bool.{cond}
use mathlib.Core.List.{List, [], append-nil}
use Prim.Native.Nat.{ℕ, ◌≤◌, ◌<◌}
use native.Mathlib.Nat.{zero-add}
use native.Mathlib.Decide.{dec_lt}
use native.Mathlib.Omega.{arith}
use lib.Dec.{eqb, ltb}
use lib.ListN.{length, take, drop, replicate, length-append}
use lib.Seq.{take_at}
use borrow.Author.Tests.{lt-ltb, le-ltb}
use Rattle.sets.proofs.Tests.{Test, test, passes, fails}
use Rattle.label.specs.declared.Label.{Label}
use Rattle.label.specs.Bytes.{longest_label}
use Rattle.label.specs.Writing.{write_refusal, written, written_bytes}
use Rattle.buffers.specs.Buffers.{splice}
use Rattle.protocol.specs.declared.Call.TheVariants.{Attach}
use Rattle.protocol.specs.declared.State.{State}
use Rattle.protocol.specs.Geometry.{label_form, block_size}
use Rattle.protocol.specs.States.{label_at}
use Rattle.protocol.specs.Soundness.{Sound}
use Rattle.protocol.specs.Bays.{stored_label}
use Rattle.protocol.specs.History.{Cabinet, perform, outcome_of}
use Rattle.protocol.proofs.Saving.{stored_taken}
use Rattle.protocol.proofs.Returns.{no_such_disk_lem, stored_returns}
use Rattle.commands.specs.declared.Loan.TheVariants.{StoredLabel}
use Rattle.interpreter.specs.Execution.{step_of}
use Rattle.interpreter.specs.Lending.{shown_label}

-- the front of what the label writer leaves, by the length that it yields
module _ (s : State) (d : ℕ) (old : List ℕ) where
  abbrev label : Label
  label = label_at s.labels d

  abbrev len : ℕ
  len = (written label_form d s.disks label (length old)).length

  abbrev bytes : List ℕ
  bytes = written_bytes label_form d s.disks label old

  pub shown_written : (len ≤ length bytes) × (take len bytes ≡ shown_label s d (length old))
  unfolding written written_bytes shown_label splice
  shown_written = go (test (eqb (write_refusal label_form d s.disks label (length old)) 0))
    where
      go : Test (eqb (write_refusal label_form d s.disks label (length old)) 0)
          → (len ≤ length bytes) × (take len bytes ≡ shown_label s d (length old))
      go (passes t) =
          let front = take_at (stored_label s d) (drop (length (stored_label s d)) old) _ refl in
          rw (t, zero-add) (simp length-append (omega arith), front)
      go (fails t) = rw t (omega arith, refl)

-- a return of a sound state's cabinet that shows it: every disk of the cabinet comes back, and there is no other
pub shown_returns : (c : Cabinet) → Sound c.state → (d : ℕ)
    → (outcome_of (step_of (Attach d) (StoredLabel d) c.state) c).answer.refusal ≡ cond (ltb d c.state.disks) 0 8
unfolding perform shown_label longest_label
shown_returns c fit d = go (dec_lt d s.disks)
  where
    s : State
    s = c.state

    go : Dec (d < s.disks)
        → (outcome_of (step_of (Attach d) (StoredLabel d) s) c).answer.refusal ≡ cond (ltb d s.disks) 0 8
    go (yes known) =
        let returns = stored_returns s c.area (replicate block_size 0) d fit known [] in
        rw (lt-ltb _ _ known, stored_taken s fit d known block_size (omega arith))
        (rw (append-nil (stored_label s d)) at returns)
    go (no unknown) =
        let above : s.disks ≤ d = omega arith in
        rw (le-ltb _ _ above) (no_such_disk_lem s c.area (replicate block_size 0) d fit above _)

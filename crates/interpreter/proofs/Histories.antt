-- Commands are histories. Assumes nothing.
use mathlib.Core.Path.{◌≡◌, refl, ap, ◌∙◌}
use mathlib.Core.Bool.{cond}
use mathlib.Core.List.{List, [], ◌∷◌, ◌++◌}
use Prim.Native.Nat.{ℕ}
use lib.Dec.{ltb}
use borrow.Author.Tests.{eqb-true}
use Rattle.sets.proofs.Tests.{Test, test, passes, fails}
use Rattle.protocol.specs.declared.Call.TheVariants.{Attach}
use Rattle.protocol.specs.Calls.{zero_area, format_outcome}
use Rattle.protocol.specs.History.{Step}
use Rattle.protocol.specs.Demand3.{cabinet_after}
use Rattle.protocol.proofs.Invariant.{invariant}
use Rattle.protocol.proofs.Demand3.{demand_3}
use Rattle.commands.specs.declared.Command.{Command}
use Rattle.commands.specs.declared.Command.TheVariants.{Format, Perform, Bad}
use Rattle.commands.specs.declared.Loan.TheVariants.{StoredLabel}
use Rattle.interpreter.specs.Execution.{Machine, reply_to, call_reply, executed}
use Rattle.interpreter.specs.Histories as history
use Rattle.interpreter.proofs.ShownLabels.{shown_returns}
use Rattle.interpreter.proofs.Tracking.{Tracks}
use Rattle.interpreter.proofs.Formatting.{good_reply, good_tracked, refused_machine}
use Rattle.interpreter.proofs.Steps.{zero_tracked, zero_replies, call_tracked, call_replies}

bad_tracked : (t : history.SinceFormat) (m : Machine) → Tracks t m → Tracks t (executed Bad m).machine
unfolding executed
bad_tracked t m h = h

command_tracked : (x : Command) (t : history.SinceFormat) (m : Machine) → Tracks t m
    → Tracks (history.with_command x t) (executed x m).machine
command_tracked (Format n b) t m h = go (test (history.good n b))
  where
    go : Test (history.good n b)
        → Tracks (cond (history.good n b) (history.calls n b []) t) (executed (Format n b) m).machine
    go (passes g) = rw g (good_tracked n b m g h.room)
    go (fails g) = rw (g, refused_machine n b m g) h
command_tracked (Perform call loan) history.unformatted m h = zero_tracked call loan m h.room h.left
command_tracked (Perform call loan) (history.calls n b earlier) m h =
    call_tracked call loan m h.room n b earlier h.left.0 h.left.1
command_tracked Bad t m h = bad_tracked t m h

-- one command more
pub machine_last : (commands : List Command) (x : Command) (m : Machine)
    → history.machine_after (commands ++ (x ∷ [])) m ≡ (executed x (history.machine_after commands m)).machine
unfolding history.machine_after
machine_last [] x m = refl
machine_last (y ∷ later) x m = machine_last later x (executed y m).machine

pub since_last : (commands : List Command) (x : Command) (t : history.SinceFormat)
    → history.since_format (commands ++ (x ∷ [])) t ≡ history.with_command x (history.since_format commands t)
unfolding history.since_format
since_last [] x t = refl
since_last (y ∷ later) x t = since_last later x (history.with_command y t)

commands_tracked : (commands : List Command) (t : history.SinceFormat) (m : Machine) → Tracks t m
    → Tracks (history.since_format commands t) (history.machine_after commands m)
unfolding history.since_format history.machine_after
commands_tracked [] t m h = h
commands_tracked (x ∷ later) t m h =
    commands_tracked later (history.with_command x t) (executed x m).machine (command_tracked x t m h)

module _ (t : history.SinceFormat) (m : Machine) (h : Tracks t m) where
  left_here : (n b : ℕ) (earlier : List Step) → t ≡ history.calls n b earlier
      → history.Leaves (history.calls n b earlier) m
  left_here n b earlier is = rw is at h.left

-- what a return yields that shows the stored label
return_result : (n b : ℕ) (earlier : List Step) → (format_outcome (zero_area n b) [] n b).answer.refusal ≡ 0 → (d : ℕ)
    → (history.reply_after n b earlier (Attach d) (StoredLabel d)).result ≡ cond (ltb d n) 0 8
unfolding call_reply reply_to
return_result n b earlier done d =
    let h = invariant n b (zero_area n b) done earlier in
    shown_returns (cabinet_after n b (zero_area n b) earlier) h.proper.fit d
    ∙ ap (λ disks. cond (ltb d disks) 0 8) h.disks

conforms : (t : history.SinceFormat) (m : Machine) → Tracks t m → history.Conforms t m
conforms t m h = record {
  left = h.left;
  refused = λ is call loan. zero_replies call loan m h.room (rw is at h.left);
  replies =
      λ n b earlier is call loan. let (g, e) = left_here t m h n b earlier is in
      call_replies call loan m h.room n b earlier g e;
  returns =
      λ n b earlier is d. let (g, e) = left_here t m h n b earlier is in
      ap (λ reply. reply.result) (call_replies (Attach d) (StoredLabel d) m h.room n b earlier g e)
      ∙ return_result n b earlier (eqb-true _ 0 g) d;
  demand_3 = λ n b earlier is. demand_3 n b (zero_area n b) (eqb-true _ 0 (left_here t m h n b earlier is).0) earlier;
  formats = λ n b g. good_reply n b m g h.room;
}

pub commands_are_histories : history.CommandsAreHistories
commands_are_histories memory size commands =
    conforms _ _ (commands_tracked commands history.unformatted _ (record { left = refl; room = size }))

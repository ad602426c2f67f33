use mathlib.Core.Path.{sym, ◌∙◌}
use native.Mathlib.Omega.{arith}
use borrow.Author.Rules.{rules}
use Rattle.protocol.specs.Saving.{assembled}
use Rattle.slots.proofs.Found.{slots_next, arguments_stop, arguments_passed}
use Rattle.slots.proofs.assembling.stopped_state.Goals as goal

pub returns-in_err-arguments_refusal-clause-refused : goal.returns-in_err-arguments_refusal-clause-refused
returns-in_err-arguments_refusal-clause-refused c =
    let a = c.args in
    let all = arguments_stop a.disks a.blocks a.online a.slots.now _ c.in_err-arguments_refusal.ensures in search rules

pub read_slots-requires : goal.read_slots-requires
read_slots-requires c =
    let passed = arguments_passed _ _ c.args.online _ (sym c.in_ok-arguments_refusal.ensures) in
    (passed.disks, passed.size)

pub returns-in_err-labels-clause-refused : goal.returns-in_err-labels-clause-refused
returns-in_err-labels-clause-refused c =
    let next = slots_next _ _ c.args.online _ (sym c.in_ok-arguments_refusal.ensures) in
    let all = c.in_err-labels.ensures.refused ∙ sym next in search rules

pub overflow_cast-disks : goal.overflow_cast-disks
overflow_cast-disks c =
    omega (arith, arguments_passed _ _ c.args.online _ (sym c.in_ok-arguments_refusal.ensures))

pub overflow_cast-blocks : goal.overflow_cast-blocks
overflow_cast-blocks c =
    omega (arith, arguments_passed _ _ c.args.online _ (sym c.in_ok-arguments_refusal.ensures))

pub returns-clause-refused : goal.returns-clause-refused
returns-clause-refused c =
    let next = slots_next _ _ c.args.online _ (sym c.in_ok-arguments_refusal.ensures) in
    c.in_ok-labels.ensures.refused ∙ sym next

pub returns-clause-state : goal.returns-clause-state
unfolding assembled
returns-clause-state c = rw (c.state_of.ensures, c.in_ok-labels.ensures.labels)

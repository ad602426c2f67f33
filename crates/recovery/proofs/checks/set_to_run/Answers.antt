use mathlib.Core.Path.{◌≡◌, refl, ap, ◌∙◌}
use mathlib.Core.Bool.{Bool, false, not, cond}
use lib.Dec.{eqb}
use Rattle.std.proofs.Common.{Err}
use borrow.Author.Rules.{rules}
use borrow.Author.Tests.{not-false}
use Rattle.refusals.specs.Refusals.{first_of}
use Rattle.protocol.specs.Naming.{the_set, found_number}
use Rattle.naming.specs.declared.Unnamed.{Unnamed}
use Rattle.naming.specs.declared.Unnamed.TheVariants.{Nothing, Several}
use Rattle.naming.specs.Meaning.{found_of}
use Rattle.protocol.specs.Calls.{restart_refusals}
use Rattle.protocol.specs.declared.State.{State}
use Rattle.protocol.specs.Soundness.{Sound, sound}
use Rattle.protocol.proofs.Soundness.{test_agrees}
use Rattle.protocol.proofs.Finder.{finds_found}
use Rattle.recovery.proofs.checks.set_to_run.Goals as goal

-- a state that has passed the test of soundness
sound_if : (s : State) {tested : Bool} → tested ≡ sound s → not tested ≡ false → Sound s
sound_if s e passed = (test_agrees s).0 (not-false _ (rw e at passed))

-- of a set that is not named, the last two lines give its number
named : (u : Unnamed) → let number = found_number (found_of (Err u)) in
    number ≡ cond (eqb number 13) 13 (cond (eqb number 14) 14 0)
named Nothing = refl
named Several = refl

pub of-requires : goal.of-requires
of-requires c = sound_if c.args.s c.sound.ensures c.in_ok-when.ensures

pub returns-clause-set : goal.returns-clause-set
returns-clause-set c =
    let s = c.args.s in
    let fit = sound_if s c.sound.ensures c.in_ok-when.ensures in
    let found = rw (c.of.ensures.disks, c.of.ensures.online, c.of.ensures.labels) at c.in_ok-find.ensures in
    ap the_set (found ∙ finds_found s fit)

pub returns-clause-refused : goal.returns-clause-refused
unfolding restart_refusals first_of
returns-clause-refused c =
    let s = c.args.s in
    let fit = sound_if s c.sound.ensures c.in_ok-when.ensures in
    let found = rw (c.of.ensures.disks, c.of.ensures.online, c.of.ensures.labels) at c.in_ok-find.ensures in
    rw (← (found ∙ finds_found s fit)) (search rules)

pub returns-in_err-find-clause-refused : goal.returns-in_err-find-clause-refused
unfolding restart_refusals first_of
returns-in_err-find-clause-refused c =
    let s = c.args.s in
    let fit = sound_if s c.sound.ensures c.in_ok-when.ensures in
    let number = named c.in_err-find.field-0.0 in
    let found = rw (c.of.ensures.disks, c.of.ensures.online, c.of.ensures.labels) at c.in_err-find.ensures in
    rw (← (found ∙ finds_found s fit)) (search rules)

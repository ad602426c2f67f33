use mathlib.Core.Path.{sym}
use mathlib.Core.Logic.{inl, inr}
use native.Mathlib.Omega.{arith}
use Rattle.sets.proofs.Tests.{clash}
use Rattle.console.proofs.Runs.{next_made}
use Rattle.console.proofs.Program.read_on.Goals as goal

pub loop-preserved : goal.loop-preserved
loop-preserved c =
    let before = c.loop.invariant in
    let served = c.serve_once-last.ensures in
    let on = sym c.if-not-goes_on.ensures in
    record {
      empty = served.room;
      none = λ off. clash (rw (before.none off).0 at on) off;
      some = λ start made. next_made (before.some start made) on served.dialogue;
    }

pub returns-then-not-goes_on : goal.returns-then-not-goes_on
returns-then-not-goes_on c =
    let before = c.loop.invariant in
    let off = sym c.if-not-goes_on.ensures in
    record {
      none = before.none;
      some = λ start made. record { reads = _; made = before.some start made; ends = inl off };
    }

pub returns-after-loop : goal.returns-after-loop
returns-after-loop c =
    let before = c.loop.invariant in
    record {
      none = before.none;
      some = λ start made. record { reads = _; made = before.some start made; ends = inr (omega arith) };
    }

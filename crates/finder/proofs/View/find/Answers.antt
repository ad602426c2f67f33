use mathlib.Core.Path.{◌≡◌, sym}
use mathlib.Core.Logic.{◌≢◌}
use native.Mathlib.Omega.{arith}
use Rattle.std.proofs.Common.{rules, Err}
use Rattle.protocol.specs.Naming.{decide}
use Rattle.protocol.specs.Finder.{find}
use Rattle.protocol.proofs.Naming.{found_last}
use Rattle.naming.specs.declared.Unnamed.TheVariants.{Nothing}
use Rattle.finder.proofs.Walk.{found_here, found_later, nothing_proposed}
use Rattle.finder.proofs.View.find.Goals as goal
use Rattle.finder.proofs.View.find.Goals.{then-proposals-gt0+else-ne+else-ne-2, else-proposals-gt0}

pub returns-then-ne : goal.returns-then-ne
unfolding find decide
returns-then-ne c =
    let here : c.among-first.result ≢ Err Nothing = search rules in
    rw (← c.among-first.ensures) (sym (found_here _ _ here))

pub returns-then-ne-2 : goal.returns-then-ne-2
unfolding find decide
returns-then-ne-2 c =
    let later : c.among-first.result ≡ Err Nothing = search rules in
    let here : c.among-second.result ≢ Err Nothing = search rules in
    rw (← c.among-first.ensures, ← c.among-second.ensures, found_later _ _ later) (sym (found_here _ _ here))

pub returns : goal.returns
unfolding find decide
returns c =
    let v = c.args.self.now in
    elim c.if-proposals-gt0.branch [
      | then-proposals-gt0+else-ne+else-ne-2 w ↦
          let later : w.among-first.result ≡ Err Nothing = search rules in
          let last : w.among-second.result ≡ Err Nothing = search rules in
          rw (
            c.among.ensures,
            ← w.among-first.ensures,
            found_later _ _ later,
            ← w.among-second.ensures,
            found_later _ _ last,
            found_last,
          )
      | else-proposals-gt0 w ↦ rw (c.among.ensures, found_last)
          (sym (nothing_proposed v.disks v.online v.labels _ v.within.0
          (omega (arith, w.if-proposals-gt0.false, c.proposals.ensures))))
    ]

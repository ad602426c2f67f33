use mathlib.Core.Path.{◌≡◌}
use mathlib.Core.Bool.{false}
use mathlib.Core.List.{List}
use Prim.Native.Nat.{ℕ, ◌+◌}
use Rattle.program.specs.Reads.{count_read, goes_on}
use Rattle.console.specs.Runs.{Made}
use Rattle.console.proofs.Program.read_on.Given as goal

abbrev pub invariant-loop : goal.invariant-loop
invariant-loop l = record {
  empty : l.self.shell.used ≡ 0;
  none : goes_on (count_read l.initial.last.got) l.initial.last.written ≡ false
      → (l.last ≡ l.initial.last) × (l.self ≡ l.initial.self);
  some : (start : List ℕ) → Made 1 start l.initial.self l.initial.last → Made (l.counter + 1) start l.self l.last;
}

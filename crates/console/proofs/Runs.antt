-- The first read of a run, and one more. Assumes nothing.
use mathlib.Core.Path.{◌≡◌, refl, sym, ap, ◌∙◌}
use mathlib.Core.Bool.{true}
use mathlib.Core.List.{List, [], ◌∷◌, ◌++◌}
use Prim.Native.Nat.{ℕ, ◌+◌}
use native.Mathlib.Omega.{arith}
use lib.ListN.{length-append}
use Rattle.shell.specs.Dialogue.{dialogue, initial}
use Rattle.program.specs.Reads.{count_read, after_read, goes_on}
use Rattle.program.specs.Rounds.{after_rounds, AllGoOn}
use Rattle.program.proofs.Rounds.{rounds_last, go_on_last}
use Rattle.console.specs.declared.Program.{Program}
use Rattle.console.specs.declared.Served.{Served}
use Rattle.console.specs.Runs.{round_of, Made}

module _ {memory₀ : List ℕ} {program : Program} {last : Served} where
  pub first_made : dialogue program.shell program.memory
      ≡ after_read (count_read last.got) program.block (initial memory₀)
      → Made 1 memory₀ program last
  unfolding after_rounds AllGoOn
  first_made served = record { earlier = []; count = refl; go_on = tt; left = served }

  pub next_made : {reads : ℕ} {program' : Program} {next : Served}
      → Made reads memory₀ program last → goes_on (count_read last.got) last.written ≡ true
      → dialogue program'.shell program'.memory
      ≡ after_read (count_read next.got) program'.block (dialogue program.shell program.memory)
      → Made (reads + 1) memory₀ program' next
  next_made {program'} {next} made on served =
      let round = round_of last program.block in
      record {
        earlier = made.earlier ++ (round ∷ []);
        count = omega (arith, length-append made.earlier (round ∷ []), made.count);
        go_on = go_on_last made.earlier round made.go_on on;
        left =
            served ∙ ap (after_read (count_read next.got) program'.block) made.left
            ∙ sym (rounds_last _ (round_of next program'.block) _);
      }

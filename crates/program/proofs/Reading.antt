-- What a read gave. Assumes nothing.
use mathlib.Core.Path.{◌≡◌, refl}
use mathlib.Core.Bool.{Bool, true, false, ◌&&◌}
use mathlib.Core.Logic.{◌≢◌}
use mathlib.Core.List.{List}
use Prim.Native.Nat.{ℕ, zero, suc, min}
use native.Mathlib.Omega.{arith}
use lib.IntN.{ℤ, pos, negsuc}
use lib.ListN.{length, take}
use lib.Signed.{lt_z}
use borrow.Author.Tests.{lt-ltb}
use Rattle.std.proofs.lemmas.List.{take_min}
use Rattle.buffers.proofs.Splicing.{splice_nothing}
use Rattle.shell.specs.Dialogue.{Dialogue, after_input, printed_input}
use Rattle.program.specs.Reads.{after_read, printed_read, goes_on}

-- one that gave bytes leaves and prints what these bytes of the block do
pub some_leave : (count : ℕ) (block : List ℕ) (d : Dialogue) → count ≢ 0
    → after_read (pos count) block d ≡ after_input (take (min count (length block)) block) d
some_leave zero block d h = absurd (h refl)
some_leave (suc k) block d h = rw (take_min (suc k) block)

pub some_print : (count : ℕ) (block : List ℕ) (d : Dialogue) → count ≢ 0
    → printed_read (pos count) block d ≡ printed_input (take (min count (length block)) block) d
some_print zero block d h = absurd (h refl)
some_print (suc k) block d h = rw (take_min (suc k) block)

-- what the check needs to prove `hear`
pub ruleset hearing = (splice_nothing, some_leave, some_print)

-- whether another follows, as a test of the number
pub goes_on_lem : (got : ℤ) (written : Bool) → (written && lt_z (pos 0) got) ≡ goes_on got written
goes_on_lem (pos zero) true = refl
goes_on_lem (pos zero) false = refl
goes_on_lem (pos (suc k)) true = lt-ltb 0 (suc k) (omega arith)
goes_on_lem (pos (suc k)) false = refl
goes_on_lem (negsuc k) true = refl
goes_on_lem (negsuc k) false = refl

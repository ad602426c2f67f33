-- How long the lists are: from ones counts. Assumes nothing.
use mathlib.Core.Path.{◌≡◌, sym}
use mathlib.Core.Bool.{true}
use mathlib.Core.List.{List}
use Prim.Native.Nat.{ℕ, ◌+◌, ◌*◌}
use native.Mathlib.Numerals.{add-one}
use native.Mathlib.Omega.{arith}
use lib.ListN.{length, length-append}
use Rattle.sets.specs.Sets.{below, size}
use Rattle.protocol.specs.Loops.{ascending}
use Rattle.protocol.specs.Stores.{Store, propose, commit}
use Rattle.protocol.specs.Lists.{proposals, commits, move}
use Rattle.protocol.proofs.Loops.{for_length}

pub commits_size : (n set : ℕ) → below set n ≡ true → length (commits n set) ≡ size set
unfolding commits
commits_size n set known = for_length n set (λ d. commit d set) known

pub move_size : (n set : ℕ) → below set n ≡ true → length (move n set) ≡ 2 * size set
unfolding move proposals
move_size n set known =
    omega (
      arith,
      length-append (proposals n set) (commits n set),
      for_length n set (λ d. propose d set) known,
      commits_size n set known,
    )

-- an iteration of a loop adds its length
pub length_next : (f : ℕ → List Store) (i : ℕ) {k m : ℕ} → k ≡ length (ascending i f) → m ≡ length (f i)
    → k + m ≡ length (ascending (i + 1) f)
unfolding ascending
length_next f i before here = rw (add-one, ascending, before, here) (sym (length-append (ascending i f) (f i)))

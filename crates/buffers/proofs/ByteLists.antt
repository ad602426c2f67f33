-- A byte more in a list of so many bytes at most, which is the front of an array. Assumes nothing.
use mathlib.Core.Path.{◌≡◌}
use Prim.Native.Nat.{ℕ, ◌+◌, ◌≤◌, ◌<◌}
use mathlib.Core.List.{List}
use native.Mathlib.Numerals.{add-one}
use native.Mathlib.Omega.{arith}
use lib.ListN.{length, take, set}
use lib.Seq.{take-suc-set, take_all, length-take-le}
use borrow.Author.Tests.{lt-ltb, le-ltb}
use Rattle.buffers.specs.ByteLists.{with_byte_within}

pub with_byte_stored : (bytes : List ℕ) (count x room : ℕ) → count < length bytes → length bytes ≡ room
    → take (count + 1) (set bytes count x) ≡ with_byte_within room (take count bytes) x
unfolding with_byte_within
with_byte_stored bytes count x room h full =
    let few : length (take count bytes) < room = omega (arith, h, full, length-take-le count bytes (omega arith)) in
    rw (add-one count, take-suc-set bytes count x h, lt-ltb (length (take count bytes)) room few)

pub with_byte_full : (bytes : List ℕ) (count x room : ℕ) → length bytes ≤ count → length bytes ≡ room
    → take count bytes ≡ with_byte_within room (take count bytes) x
unfolding with_byte_within
with_byte_full bytes count x room h full =
    let many : room ≤ length (take count bytes) = rw (take_all count bytes h) (omega (arith, full)) in
    rw (le-ltb (length (take count bytes)) room many)

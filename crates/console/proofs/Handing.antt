-- What is handed to the writer, of an output that was empty. Assumes nothing.
use mathlib.Core.Path.{◌≡◌}
use mathlib.Core.List.{List}
use Prim.Native.Nat.{ℕ}
use native.Mathlib.Nat.{zero-add}
use lib.ListN.{take}
use lib.Seq.{take-append_seam}
use Rattle.buffers.specs.Buffers.{splice, Stored}

pub stored_first : {at used : ℕ} (printed old : List ℕ) {out : List ℕ} → at ≡ 0 → Stored at printed old used out
    → take used out ≡ printed
unfolding splice
stored_first printed old empty (behind, stored) =
    rw (stored, behind, empty, zero-add) (take-append_seam printed _)

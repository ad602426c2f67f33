-- Bytes stored over others. Assumes nothing.
use mathlib.Core.Path.{◌≡◌, sym, ap, ◌∙◌}
use mathlib.Core.List.{List, [], ◌∷◌, ◌++◌, append_assoc}
use Prim.Native.Nat.{ℕ, ◌+◌, ◌≤◌, ◌<◌}
use native.Mathlib.Nat.{add-zero, add_assoc}
use native.Mathlib.Numerals.{add-one}
use native.Mathlib.Omega.{arith}
use lib.ListN.{length, take, drop, set, length-append, length-set, take-append-drop}
use lib.Seq.{set_split, length-take-le, take-append_seam, drop-append-add, drop-drop}
use Rattle.buffers.specs.Buffers.{splice, Stored}

pub splice_nothing : (old : List ℕ) (at : ℕ) → splice at [] old ≡ old
unfolding splice
splice_nothing old at = rw (add-zero at) (take-append-drop at old)

pub splice_one : (old : List ℕ) (at v : ℕ) → at < length old → set old at v ≡ splice at (v ∷ []) old
unfolding splice
splice_one old at v h = set_split old at v h ∙ rw (add-one at)

-- what is stored behind other bytes is stored with them
pub splice_after : (old first next : List ℕ) (at : ℕ) → at ≤ length old
    → splice (at + length first) next (splice at first old) ≡ splice at (first ++ next) old
unfolding splice
splice_after old first next at h =
    let front = take at old ++ first in
    let e : length front ≡ at + length first =
    length-append (take at old) first ∙ ap (λ (n : ℕ). n + length first) (length-take-le at old h) in
    rw (
      ← append_assoc (take at old) first (drop (at + length first) old),
      ← e,
      take-append_seam front (drop (length front) old),
      drop-append-add front (drop (length front) old) (length next),
      drop-drop (length next) (length front) old,
      e,
      length-append first next,
      ← add_assoc at (length first) (length next),
    )
    (append_assoc (take at old) first _ ∙ ap (λ (l : List ℕ). take at old ++ l) (sym (append_assoc first next _)))

pub splice_two : (old : List ℕ) (at v w : ℕ) → at + 1 < length old
    → set (set old at v) (at + 1) w ≡ splice at (v ∷ w ∷ []) old
splice_two old at v w h =
    splice_one (set old at v) (at + 1) w (rw length-set h)
    ∙ rw (splice_one old at v (omega arith)) (splice_after old (v ∷ []) (w ∷ []) at (omega arith))

-- the same of functions that store and give the place behind
pub stored_after : (old first next : List ℕ) (at : ℕ) {r₁ r₂ : ℕ} {o₁ o₂ : List ℕ} → at ≤ length old
    → Stored at first old r₁ o₁ → Stored r₁ next o₁ r₂ o₂ → Stored at (first ++ next) old r₂ o₂
stored_after old first next at h a b = (
  rw (b.0, a.0, length-append first next) (add_assoc at _ _),
  rw (b.1, a.0, a.1) (splice_after old first next at h),
)

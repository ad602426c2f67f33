-- The reader looks at no byte beyond those that the map asks. Assumes nothing.
use mathlib.Core.Path.{◌≡◌, refl, sym, ap, ap₂, ◌∙◌}
use mathlib.Core.List.{List}
use Prim.Native.Nat.{ℕ, zero, suc, ◌+◌, ◌*◌, ◌/◌, ◌%◌, ◌≤◌, ◌<◌, min}
use native.Mathlib.Nat.{le_refl, mod-lt, mul-one}
use native.Mathlib.Omega.{arith}
use lib.Dec.{ltb, lit<}
use lib.ListN.{length, get_or, take, drop, length-take}
use lib.Seq.{get_or-take, get_or-drop}
use borrow.Author.Tests.{ltb-true, lt-ltb}
use Rattle.sets.proofs.Tests.{same_test}
use Rattle.label.specs.declared.Form.{Form}
use Rattle.label.specs.Bytes.{label_length, from_little_endian, field_at, fields_of}
use Rattle.label.specs.Reading.{read_refusals, read_refusal, judged, reading}
use Rattle.label.specs.Codec.{ReadAlike}
use Rattle.label.specs.declared.Label.{Label}

-- the number in k bytes depends on those alone
value_alike : (k : ℕ) (s t : List ℕ) → ((i : ℕ) → i < k → get_or s i 0 ≡ get_or t i 0)
    → from_little_endian k s ≡ from_little_endian k t
unfolding from_little_endian
value_alike zero s t h = refl
value_alike (suc k) s t h =
    ap₂ (λ (x y : ℕ). x + 256 * y) (h 0 (omega arith))
    (value_alike k (drop 1 s) (drop 1 t) (λ i l. rw (get_or-drop 1 s i 0, get_or-drop 1 t i 0)
    (h (1 + i) (omega arith))))

-- a field within the first m bytes depends on those alone
field_prefix : (s : List ℕ) (bit k at m : ℕ) → bit < 2 → at + k * bit ≤ m
    → field_at (take m s) bit k at ≡ field_at s bit k at
unfolding field_at
field_prefix s zero k at m h l = refl
field_prefix s (suc zero) k at m h l =
    let fits : at + k ≤ m = rw mul-one at l in
    value_alike k (drop at (take m s)) (drop at s)
    (λ i b. rw (get_or-drop at (take m s) i 0, get_or-drop at s i 0) (get_or-take m s (at + i) 0 (omega arith)))
field_prefix s (suc (suc bit)) k at m h l = absurd (omega arith)

fields_prefix : (f : Form) (s : List ℕ) (map : ℕ) → fields_of f (take (label_length f map) s) map ≡ fields_of f s map
unfolding fields_of label_length
fields_prefix f s map =
    rw (
      field_prefix s (map % 2) f.width 2 (label_length f map) (mod-lt map (lit< tt)) (omega arith),
      field_prefix s (map / 2 % 2) f.width (2 + f.width * (map % 2)) (label_length f map) (mod-lt _ (lit< tt))
          (omega arith),
      field_prefix s (map / 4 % 2) 1 (2 + f.width * (map % 2) + f.width * (map / 2 % 2)) (label_length f map)
          (mod-lt _ (lit< tt)) (omega arith),
    )

-- a bound of at most m asks the same of the first m bytes as of all
short_prefix : (s : List ℕ) (m k : ℕ) → k ≤ m → ltb (length (take m s)) k ≡ ltb (length s) k
short_prefix s m k h =
    rw (length-take m s) (same_test (ltb (min m (length s)) k) (ltb (length s) k)
    (λ e. lt-ltb (length s) k (omega (arith, ltb-true (min m (length s)) k e)))
    (λ e. lt-ltb (min m (length s)) k (omega (arith, ltb-true (length s) k e))))

at_least_two : (f : Form) (map : ℕ) → 2 ≤ label_length f map
unfolding label_length
at_least_two f map = omega arith

refusal_prefix : (f : Form) (s : List ℕ) (map d n : ℕ) (l : Label)
    → read_refusal f (length (take (label_length f map) s)) map d n l ≡ read_refusal f (length s) map d n l
unfolding read_refusal read_refusals
refusal_prefix f s map d n l =
    rw (
      short_prefix s (label_length f map) 2 (at_least_two f map),
      short_prefix s (label_length f map) (label_length f map) (le_refl _),
    )

read_prefix : (f : Form) (s : List ℕ) → reading f (take (label_length f (get_or s 0 0)) s) ≡ reading f s
unfolding reading judged
read_prefix f s =
    let two = at_least_two f (get_or s 0 0) in
    rw (
      get_or-take (label_length f (get_or s 0 0)) s 0 0 (omega arith),
      get_or-take (label_length f (get_or s 0 0)) s 1 0 (omega arith),
      fields_prefix f s (get_or s 0 0),
      refusal_prefix f s (get_or s 0 0),
    )

pub read_alike : (f : Form) → ReadAlike f
read_alike f s t e =
    let two = at_least_two f (get_or s 0 0) in
    let asked = label_length f (get_or s 0 0) in
    let same : get_or t 0 0 ≡ get_or s 0 0 =
    sym (get_or-take asked t 0 0 (omega arith)) ∙ ap (λ (x : List ℕ). get_or x 0 0) (sym e)
    ∙ get_or-take asked s 0 0 (omega arith) in
    sym (read_prefix f s) ∙ ap (reading f) e ∙ rw same at (read_prefix f t)

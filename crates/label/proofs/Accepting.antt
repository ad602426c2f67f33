-- What it says of a label that no refusal applies. Assumes nothing.
use mathlib.Core.Path.{◌≡◌, refl, sym}
use mathlib.Core.Bool.{false, false≢true}
use Prim.Native.Nat.{ℕ, ◌*◌, ◌/◌, ◌^◌, ◌≤◌, ◌<◌}
use native.Mathlib.Nat.{lt_of_lt_of_le}
use native.Mathlib.Omega.{arith}
use lib.Dec.{eqb, ltb, leb}
use lib.Pow.{pow_pos, pow_mono}
use lib.ListN.{length}
use borrow.Author.Tests.{ltb-false, eqb-true, le-ltb, eq-eqb, not-false}
use Rattle.sets.specs.Sets.{below}
use Rattle.sets.proofs.Tests.{Test, passes, fails, test, or_parts}
use Rattle.sets.proofs.Bounds.{below_pow}
use Rattle.refusals.specs.Refusals.{first_of}
use Rattle.refusals.proofs.Order.{none_at, none_by}
use Rattle.label.specs.declared.Form.{Form}
use Rattle.label.specs.Form.{Roomy}
use Rattle.label.specs.Bytes.{label_length, encode}
use Rattle.label.specs.Rules.{outside, wrong_set, wrong_sets}
use Rattle.label.specs.Reading.{empty_field, read_refusals, read_refusal}
use Rattle.label.specs.Writing.{write_refusals, write_refusal}
use Rattle.label.specs.declared.Label.{Label}

-- the label of disk d of n as both calls want it
pub record Proper (f : Form) (d n : ℕ) (l : Label) : Type 0 where
  pub count : outside f n ≡ false
  pub number : leb n d ≡ false
  pub sets : wrong_sets l d n ≡ false

-- ---- the writer

pub writer_accepts : (f : Form) (d n : ℕ) (l : Label) (room : ℕ) → write_refusal f d n l room ≡ 0
    → Proper f d n l × (length (encode f d n l) ≤ room)
unfolding write_refusal write_refusals
writer_accepts f d n l room e =
    let no = none_by (write_refusals f d n l room) refl e in
    (record { count = no 4; number = no 8; sets = no 20 }, ltb-false _ _ (no 21))

pub accepted : (f : Form) (d n : ℕ) (l : Label) (room : ℕ) → Proper f d n l → length (encode f d n l) ≤ room
    → write_refusal f d n l room ≡ 0
unfolding write_refusal write_refusals first_of
accepted f d n l room p h = rw (p.count, p.number, p.sets, le-ltb _ _ h)

-- ---- the reader

-- what a string of so many bytes with these parts passed
pub record Passed (f : Form) (len map d n : ℕ) (l : Label) : Type 0 where
  pub two : 2 ≤ len
  pub fixed : map / 8 ≡ f.fixed
  pub proper : Proper f d n l
  pub whole : label_length f map ≤ len
  pub full : empty_field map l ≡ false

pub reader_passes : (f : Form) (len map d n : ℕ) (l : Label) → read_refusal f len map d n l ≡ 0 → Passed f len map d n l
unfolding read_refusal read_refusals
reader_passes f len map d n l e =
    let passed = none_at (read_refusals f len map d n l) refl e in
    let place = or_parts (outside f n) (leb n d) (passed 2) in
    record {
      two = ltb-false _ _ (passed 0);
      fixed = eqb-true _ _ (not-false _ (passed 1));
      proper = record { count = place.0; number = place.1; sets = passed 5 };
      whole = ltb-false _ _ (passed 3);
      full = passed 4;
    }

pub passed : (f : Form) (len map d n : ℕ) (l : Label) → Passed f len map d n l → read_refusal f len map d n l ≡ 0
unfolding read_refusal read_refusals first_of
passed f len map d n l p =
    rw (
      le-ltb _ _ p.two,
      eq-eqb _ _ p.fixed,
      p.proper.count,
      p.proper.number,
      le-ltb _ _ p.whole,
      p.full,
      p.proper.sets,
    )

-- ---- what a proper label says in numbers

pub in_range_lem : (f : Form) (n : ℕ) → outside f n ≡ false → (1 ≤ n) × (n ≤ f.most)
unfolding outside
in_range_lem f n e = let p = or_parts (ltb n 1) (ltb f.most n) e in (ltb-false _ _ p.0, ltb-false _ _ p.1)

-- a set that is not wrong fits the form's bytes
set-fits : (f : Form) (s d n : ℕ) → Roomy f → n ≤ f.most → wrong_set s d n ≡ false → s < 2 ^ (8 * f.width)
unfolding wrong_set
set-fits f s d n r h e = go (test (eqb s 0)) (test (below s n))
  where
    go : Test (eqb s 0) → Test (below s n) → s < 2 ^ (8 * f.width)
    go (passes z) b = rw (eqb-true s 0 z) (pow_pos (8 * f.width))
    go (fails z) (passes b) = lt_of_lt_of_le ((below_pow s n).0 b) (pow_mono (omega (arith, r.sets)))
    go (fails z) (fails b) = absurd (false≢true (sym (rw (z, b) at e)))

pub sets_fit : (f : Form) (d n : ℕ) (l : Label) → Roomy f → Proper f d n l
    → (l.committed < 2 ^ (8 * f.width)) × (l.tentative < 2 ^ (8 * f.width))
unfolding wrong_sets
sets_fit f d n l r p =
    let each = or_parts (wrong_set l.committed d n) (wrong_set l.tentative d n) p.sets in
    let most = (in_range_lem f n p.count).1 in
    (set-fits f l.committed d n r most each.0, set-fits f l.tentative d n r most each.1)

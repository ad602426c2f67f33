-- What a done fresh gives. Assumes nothing.
use mathlib.Core.Path.{◌≡◌, refl, sym, ap, ◌∙◌}
use mathlib.Core.Logic.{◌⊎◌, inl, inr}
use mathlib.Core.Bool.{true}
use mathlib.Core.List.{List}
use Prim.Native.Nat.{ℕ, ◌^◌, ◌≤◌, ◌<◌}
use native.Mathlib.Omega.{arith}
use native.Mathlib.Decide.{dec_lt}
use lib.ListN.{length, replicate, length-replicate, get_or-replicate, get_or-eq_default}
use borrow.Author.Tests.{ltb-true, lt-ltb, eq-eqb}
use Rattle.sets.specs.Sets.{has, all}
use Rattle.sets.proofs.Operations.{has_all}
use Rattle.sets.proofs.Bounds.{below_pow, below_empty, below_members}
use Rattle.sets.proofs.LowestMember.{non_empty}
use Rattle.label.specs.declared.Label.{Label}
use Rattle.refusals.specs.Refusals.{first_of}
use Rattle.refusals.proofs.Order.{none_by}
use Rattle.label.specs.Bytes.{blank}
use Rattle.protocol.specs.Geometry.{most_disks, area_size, regions}
use Rattle.protocol.specs.States.{label_at, committed_at, tentative_at, zero_state, source}
use Rattle.protocol.specs.Soundness.{InRange, FitLabel, Proper}
use Rattle.protocol.specs.Naming.{second, Backs}
use Rattle.protocol.specs.Outcomes.{refused_or}
use Rattle.protocol.specs.Calls.{format_refusals, fresh_label, formatted, zero_area, format_outcome}
use Rattle.protocol.specs.History.{cabinet_of}
use Rattle.protocol.specs.Claims.{FormatDone}
use Rattle.protocol.specs.Reference.{zero_contents, started}
use Rattle.protocol.proofs.Soundness.{right_counts}
use Rattle.protocol.proofs.Blocks.{zero_block}
use Rattle.protocol.proofs.States.{source_has, filled_up_lem, filled_up-length}
use Rattle.protocol.proofs.Backing.{Backed}
use Rattle.protocol.proofs.Outcomes.{refused_or_lem}
use Rattle.protocol.proofs.Consistency.{Consistent}

-- ---- its labels

module _ (n b : ℕ) where
  fresh_label_lem : (d : ℕ) → d < n → label_at (formatted n b).labels d ≡ fresh_label n
  unfolding formatted
  fresh_label_lem d l = filled_up_lem n (replicate n (fresh_label n)) d ∙ get_or-replicate n d (fresh_label n) blank l

  fresh_sets : (d : ℕ) → d < n
      → (committed_at (formatted n b).labels d ≡ all n) × (tentative_at (formatted n b).labels d ≡ 0)
  fresh_sets d l = let e = fresh_label_lem d l in (ap (λ l. l.committed) e, ap (λ l. l.tentative) e)

  no_label : (d : ℕ) → n ≤ d → label_at (formatted n b).labels d ≡ blank
  unfolding formatted
  no_label d l =
      filled_up_lem n (replicate n (fresh_label n)) d
      ∙ get_or-eq_default (replicate n (fresh_label n)) blank {n = d} (rw length-replicate l)

  fresh_slots : n ≤ most_disks → length (formatted n b).labels ≡ most_disks
  unfolding formatted
  fresh_slots h = filled_up-length n (replicate n (fresh_label n)) (length-replicate n (fresh_label n)) h

  member_of_all : (d : ℕ) → has (all n) d ≡ true → d < n
  member_of_all d m = ltb-true d n (sym (has_all n d) ∙ m)

  all_known : all n < 2 ^ n
  all_known = (below_pow (all n) n).0 ((below_members (all n) n).1 member_of_all)

  all_filled : 1 ≤ n → 0 < all n
  all_filled h = non_empty (all n) 0 (has_all n 0 ∙ lt-ltb 0 n h)

  -- no other set is backed
  only_all : (x : ℕ) → Backed (formatted n b).labels x → x ≡ all n
  only_all x p = go (dec_lt (source x) n) (p.each (source x) (source_has x p.filled))
    where
      is : (l : Label) → label_at (formatted n b).labels (source x) ≡ l
          → Backs second (label_at (formatted n b).labels (source x)) x → (l.tentative ≡ x) ⊎ (l.committed ≡ x)
      is l e (inl q) = inl (rw e at q)
      is l e (inr q) = inr (rw e at q)

      fresh : (0 ≡ x) ⊎ (all n ≡ x) → x ≡ all n
      fresh (inl q) = absurd (omega (arith, p.filled))
      fresh (inr q) = sym q

      nothing : (0 ≡ x) ⊎ (0 ≡ x) → x ≡ all n
      nothing (inl q) = absurd (omega (arith, p.filled))
      nothing (inr q) = absurd (omega (arith, p.filled))

      go : Dec (source x < n) → Backs second (label_at (formatted n b).labels (source x)) x → x ≡ all n
      go (yes l) q = fresh (is (fresh_label n) (fresh_label_lem (source x) l) q)
      go (no l) q = nothing (is blank (no_label (source x) (omega arith)) q)

-- ---- it is sound

module _ (n b : ℕ) (range : InRange n b) where
  fresh_fit : (d : ℕ) → d < n → FitLabel n b d (fresh_label n)
  fresh_fit d l = record {
    committed = record { known = (below_pow _ n).1 (all_known n b); own = inr (has_all n d ∙ lt-ltb d n l) };
    tentative = record { known = below_empty n; own = inl refl };
    dirty = below_empty (regions b);
  }

  formatted_proper : Proper (formatted n b)
  unfolding formatted
  formatted_proper = record {
    fit = record {
      range = range;
      online = (below_pow _ n).1 (all_known n b);
      labels = record { each = λ d l. rw (fresh_label_lem n b d l) (fresh_fit d l); rest = λ d g l. no_label n b d g };
      power = record {
        known = (below_pow _ n).1 (all_known n b);
        filled = all_filled n b range.some_disk;
        members = λ d l m. fresh_sets n b d l;
      };
    };
    slots = fresh_slots n b range.disks;
  }

-- ---- it runs with all disks, and all hold zeros, as the reference does

pub started_consistent : (n b : ℕ) → InRange n b → Consistent zero_contents (started n b).cabinet
unfolding started formatted zero_area
started_consistent n b range = record {
  held = record {
    room = rw (fresh_slots n b range.disks) range.disks;
    size = length-replicate {A = ℕ} (area_size n b) 0;
    agreed = record {
      filled = all_filled n b range.some_disk;
      known = all_known n b;
      members = λ d m. fresh_sets n b d (member_of_all n b d m);
      only = only_all n b;
    };
    holds = λ d m k hk. zero_block n b d k (member_of_all n b d m) hk;
  };
}

-- ---- when it is refused, and what is known where it is not

pub format_passed : (n b : ℕ) (area : List ℕ) → first_of (format_refusals n b area) ≡ 0 → InRange n b
unfolding format_refusals
format_passed n b area e =
    let no = none_by (format_refusals n b area) refl e in
    (right_counts n b).0 (no 4, no 5)

pub format_is_done : FormatDone
unfolding format_outcome refused_or format_refusals first_of
format_is_done area output n b range size =
    let (right-disks, right-blocks) = (right_counts n b).1 range in rw (right-disks, right-blocks, eq-eqb _ _ size)

-- a done fresh gives what the reference begins with, whatever was in the area
pub format_done : (n b : ℕ) (area output : List ℕ) → (format_outcome area output n b).answer.refusal ≡ 0
    → InRange n b × (cabinet_of (format_outcome area output n b) ≡ (started n b).cabinet)
unfolding format_outcome started
format_done n b area output =
    refused_or_lem (format_refusals n b area) zero_state area output _
    (λ o. o.answer.refusal ≡ 0 → InRange n b × (cabinet_of o ≡ (started n b).cabinet))
    (λ ne e. absurd (ne e)) (λ z e. (format_passed n b area z, refl))

-- and a sound state
pub format_proper : (area output : List ℕ) (n b : ℕ) → (format_outcome area output n b).answer.refusal ≡ 0
    → Proper (format_outcome area output n b).answer.state
unfolding format_outcome
format_proper area output n b =
    refused_or_lem (format_refusals n b area) zero_state area output _
    (λ o. o.answer.refusal ≡ 0 → Proper o.answer.state)
    (λ ne e. absurd (ne e)) (λ e z. formatted_proper n b (format_passed n b area e))

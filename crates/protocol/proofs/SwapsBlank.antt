-- What a swap does, whatever it is given: a blank disk in the place of one that is out of reach, or the old one as it
-- was; and that the blank disk can then join. Assumes nothing.
use mathlib.Core.Path.{◌≡◌, refl, sym, ap, subst, ◌∙◌}
use mathlib.Core.Logic.{◌≢◌}
use mathlib.Core.Bool.{true, false}
use mathlib.Core.List.{List, [], append-nil}
use Prim.Native.Nat.{ℕ, ◌<◌}
use native.Mathlib.Omega.{arith}
use lib.ListN.{length}
use lib.Seq.{get_or-set_other, take_all}
use borrow.Author.Tests.{eq-eqb, ne_eqb, lt-ltb}
use Rattle.sets.specs.Sets.{has, union, singleton}
use Rattle.sets.proofs.Tests.{Test, passes, fails, test, clash}
use Rattle.sets.proofs.Operations.{has-union, has-intersection, has_with}
use Rattle.sets.proofs.LowestMember.{non_empty}
use Rattle.refusals.specs.Refusals.{first_of}
use Rattle.label.specs.Bytes.{blank, encode}
use Rattle.protocol.specs.declared.Power.TheVariants.{Running}
use Rattle.protocol.specs.declared.State.{State}
use Rattle.protocol.specs.Geometry.{label_form, area_size, block}
use Rattle.protocol.specs.States.{label_at, with_online, current_of, live, source}
use Rattle.protocol.specs.Soundness.{Sound, Proper}
use Rattle.protocol.specs.Bays.{stored_label}
use Rattle.protocol.specs.Stores.{Disks, Store, apply_all, made}
use Rattle.protocol.specs.Lists.{move, join_list, swap_list}
use Rattle.protocol.specs.Outcomes.{Outcome, outcome, disks_of, cut_short, runs_with, carry_out}
use Rattle.protocol.specs.Calls.{join_refusals, join_outcome, swap_refusals, swap_power, swaps_in, swap_outcome}
use Rattle.protocol.specs.Calls.{attach_outcome}
use Rattle.protocol.specs.History.{Cabinet, cabinet_of}
use Rattle.protocol.specs.Claims.{Swapping, SwapsBlank, SparesSwapped, Joinable, SwappedJoins}
use Rattle.protocol.proofs.Blocks.{zeroed_size, zeroed_same, zeroed_other}
use Rattle.protocol.proofs.Labels.{blank-set, move_leaves}
use Rattle.protocol.proofs.States.{source_has, live_inside, live_in_reach, not_live}
use Rattle.protocol.proofs.Soundness.{test_agrees}
use Rattle.protocol.proofs.Outcomes.{refused_or_lem, cut_or_whole, refused_cut_or_whole}
use Rattle.protocol.proofs.NotRefused.{SwapPassed, swap_passed}
use Rattle.protocol.proofs.StorelessCalls.{attach_preserves}
use Rattle.protocol.proofs.Saving.{stored_read}
use Rattle.protocol.proofs.Returns.{own_taken}
use Rattle.protocol.proofs.Swaps.{member_list, member_power, spare_list, spare_power, swap_preserves}

module _ (s : State) (area output : List ℕ) (d budget : ℕ) where
  abbrev g : ℕ
  g = current_of s.power

  abbrev to_live : List Store
  to_live = move s.disks (live s)

  -- the disks after so many stores of the move to L
  abbrev after : ℕ → Disks
  after count = apply_all s.blocks (made count to_live) (disks_of s area)

  -- ---- how it ends

  -- so many stores are its whole list
  record Whole (count : ℕ) : Type 0 where
    moves : has g d ≡ true → (count ≡ length to_live) × (swap_power s d ≡ Running (live s))
    stays : has g d ≡ false → (count ≡ 0) × (swap_power s d ≡ s.power)

  swap_ends : (P : Outcome → Type 0)
      → (first_of (swap_refusals s area d) ≢ 0 → P (outcome (first_of (swap_refusals s area d)) 0 s area output))
      → (SwapPassed s area d → has g d ≡ true → P (cut_short to_live budget s area output))
      → (SwapPassed s area d → (count : ℕ) → Whole count → P (swaps_in s d output count (after count)))
      → P (swap_outcome s area output d budget)
  unfolding swap_outcome apply_all
  swap_ends P refused cut whole =
      refused_or_lem (swap_refusals s area d) s area output _ P refused
      (λ e. go (swap_passed s area d e) (test (has g d)))
    where
      go : SwapPassed s area d → Test (has g d)
          → P (carry_out (swap_list s d) budget s area output (swaps_in s d output))
      go pass (passes m) =
          let all = take_all (length to_live) to_live (omega arith) in
          rw (member_list s d m)
          (cut_or_whole to_live budget s area output (swaps_in s d output) P (λ l. cut pass m)
          (λ l. subst (λ stores. P (swaps_in s d output (length to_live)
          (apply_all s.blocks stores (disks_of s area)))) all
          (whole pass (length to_live)
          (record { moves = λ q. (refl, member_power s d m); stays = λ q. clash m q }))))
      go pass (fails m) =
          rw (spare_list s d m)
          (cut_or_whole [] budget s area output (swaps_in s d output) P (λ l. absurd (omega arith))
          (λ l. whole pass 0 (record { moves = λ q. clash q m; stays = λ q. (refl, spare_power s d m) })))

  -- ---- what each of its ends owes

  swap_refused : first_of (swap_refusals s area d) ≢ 0
      → Swapping s area d (outcome (first_of (swap_refusals s area d)) 0 s area output)
  unfolding apply_all
  swap_refused ne = record {
    blank_label = λ z. absurd (ne z);
    zero_blocks = λ z. absurd (ne z);
    away = λ z. absurd (ne z);
    old_disk = λ nz. (refl, refl);
    reach = refl;
    other_blocks = λ e k i j apart. refl;
    other_labels = λ e apart. refl;
    moved = λ m z. absurd (ne z);
    stayed = λ m. (refl, refl);
  }

  module _ (pass : SwapPassed s area d) where
    out : has (live s) d ≡ false
    out = not_live s d pass.away

    -- so many stores leave the area, and the label of d
    left : (count : ℕ) → (label_at (after count).labels d ≡ label_at s.labels d) × ((after count).area ≡ area)
    left = move_leaves s.blocks s.disks (live s) d (disks_of s area) out

    swap_cut : has g d ≡ true → Swapping s area d (cut_short to_live budget s area output)
    swap_cut m = record {
      blank_label = λ z. absurd (omega arith);
      zero_blocks = λ z. absurd (omega arith);
      away = λ z. absurd (omega arith);
      old_disk = λ nz. left budget;
      reach = refl;
      other_blocks = λ e k i j apart. ap (λ bytes. block s.blocks bytes e k) (left budget).1;
      other_labels = λ e apart. refl;
      moved = λ q z. absurd (omega arith);
      stayed = λ q. clash m q;
    }

    module _ (count : ℕ) (all : Whole count) where
      swap_whole : Swapping s area d (swaps_in s d output count (after count))
      unfolding swaps_in
      swap_whole =
          let same = (left count).1 in
          record {
            blank_label = λ z. blank-set (after count).labels d;
            zero_blocks =
                λ z k j. rw same (zeroed_same s.disks s.blocks area pass.size d pass.known k j);
            away = λ z. pass.away;
            old_disk = λ nz. absurd (nz refl);
            reach = refl;
            other_blocks =
                λ e k i j apart. rw same
                (zeroed_other s.disks s.blocks area pass.size d pass.known e k i j (λ q. apart (sym q)));
            other_labels = λ e apart. get_or-set_other (after count).labels d e blank blank apart;
            moved = λ m z. ((all.moves m).0, live s, (all.moves m).1, has-intersection g s.online);
            stayed = all.stays;
          }

      -- it runs, with a set that has not the disk
      runs_without : (x : ℕ) × (swap_power s d ≡ Running x) × (has x d ≡ false)
      runs_without = go (test (has g d))
        where
          go : Test (has g d) → (x : ℕ) × (swap_power s d ≡ Running x) × (has x d ≡ false)
          go (passes m) = (live s, (all.moves m).1, out)
          go (fails m) = (g, (all.stays m).1 ∙ pass.runs, m)

pub swaps_blank : SwapsBlank
swaps_blank s area output d budget =
    swap_ends s area output d budget (Swapping s area d) (swap_refused s area output d budget)
    (swap_cut s area output d budget) (swap_whole s area output d budget)

pub spares_swapped : SparesSwapped
unfolding swap_outcome swap_refusals first_of swaps_in
spares_swapped s area output g d budget fit size runs known away spare =
    let out : has (current_of s.power) d ≡ false = rw runs spare in
    refused_cut_or_whole (swap_list s d) budget s area output (swaps_in s d output) (swap_refusals s area d)
    (λ o. o.answer.refusal ≡ 0)
    (λ ne. absurd (ne (rw ((test_agrees s).1 fit, eq-eqb _ _ size, lt-ltb _ _ known, away, out) (rw runs))))
    (λ e l. absurd (let few = rw (spare_list s d out) at l in omega (arith, few)))
    (λ e l. refl)

-- ---- a disk out of reach that is not current, returned and joined

module _ (c : Cabinet) (output : List ℕ) (d budget : ℕ) where
  abbrev s : State
  s = c.state

  abbrev back : State
  back = with_online s (union s.online (singleton d))

  module _ (proper : Proper s) (size : length c.area ≡ area_size s.disks s.blocks) (known : d < s.disks)
      (g : ℕ) (runs : s.power ≡ Running g) (out : has g d ≡ false) (away : has s.online d ≡ false)
      (empty : label_at s.labels d ≡ blank) where
    returned : attach_outcome s c.area output d (encode label_form d s.disks blank)
        ≡ outcome 0 0 back c.area output
    returned =
        let read = rw (append-nil (stored_label s d)) at (stored_read s proper.fit d known []) in
        own_taken s c.area output d proper.fit known away d s.disks blank _ _ (rw empty at read) refl refl
        (sym empty)

    back-sound : Sound back
    back-sound = (subst (λ o. Proper o.answer.state) returned ((attach_preserves c output d _).proper proper)).fit

    still_live : 0 < live s → 0 < live back
    still_live some =
        let e = source (live s) in
        let m = source_has (live s) some in
        non_empty (live back) e
        (has-intersection (current_of s.power) _ e
        ∙ rw (live_inside s e m, has-union s.online (singleton d) e, live_in_reach s e m))

    none : 0 < live s → first_of (join_refusals back c.area d) ≡ 0
    unfolding join_refusals first_of
    none some =
        rw (
          (test_agrees back).1 back-sound,
          eq-eqb _ _ size,
          lt-ltb _ _ known,
          has_with s.online d,
          ne_eqb (live back) 0 (λ z. omega (arith, still_live some)),
        )
        (rw (runs, out))

    joinable : Joinable c output d budget
    unfolding join_outcome
    joinable = record {
      back = back;
      returns = returned;
      joins = λ some enough.
          refused_cut_or_whole (join_list back d) budget back c.area output
          (runs_with (union (live back) (singleton d)) back output) (join_refusals back c.area d)
          (λ o. (o.answer.refusal ≡ 0) × (x : ℕ) × (o.answer.state.power ≡ Running x) × (has x d ≡ true))
          (λ ne. absurd (ne (none some))) (λ e l. absurd (omega (arith, l, enough)))
          (λ e l. (
            refl,
            union (live back) (singleton d),
            refl,
            has_with (live back) d,
          ));
    }

pub swapped_joins : SwappedJoins
swapped_joins s area output d budget later proper =
    swap_ends s area output d budget
    (λ o. Proper o.answer.state → o.answer.refusal ≡ 0 → Joinable (cabinet_of o) output d later)
    (λ ne p z. absurd (ne z)) (λ pass m p z. absurd (omega arith)) after-swap
    ((swap_preserves (record { state = s; area = area }) d output budget).proper proper)
  where
    after-swap : (pass : SwapPassed s area d) (count : ℕ) → Whole s area output d budget count
        → Proper (swaps_in s d output count (after s area output d budget count)).answer.state
        → (swaps_in s d output count (after s area output d budget count)).answer.refusal ≡ 0
        → Joinable (cabinet_of (swaps_in s d output count (after s area output d budget count))) output d later
    after-swap pass count all p z =
        let (x, runs, out) = runs_without s area output d budget pass count all in
        unfold swaps_in in
        joinable (cabinet_of (swaps_in s d output count (after s area output d budget count))) output d later p
        (rw (left s area output d budget pass count).1
        (zeroed_size s.disks s.blocks area pass.size d pass.known))
        pass.known x runs out pass.away (blank-set (after s area output d budget count).labels d)

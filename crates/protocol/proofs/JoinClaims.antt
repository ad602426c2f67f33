-- What joins leave, whatever they are given, and in every list. Assumes nothing.
use mathlib.Core.Path.{◌≡◌, refl, sym, ap, ◌∙◌}
use mathlib.Core.Logic.{◌≢◌, inl, inr}
use mathlib.Core.Bool.{or-true, ◌&&◌, ◌||◌}
use mathlib.Core.List.{List, ◌∷◌, []}
use Prim.Native.Nat.{ℕ, ◌<◌}
use native.Mathlib.Omega.{arith}
use lib.Dec.{eqb}
use lib.ListN.{length, take}
use borrow.Author.Tests.{eq-eqb, lt-ltb}
use Rattle.sets.specs.Sets.{has, union, singleton}
use Rattle.sets.proofs.Tests.{clash}
use Rattle.sets.proofs.Bounds.{below_members}
use Rattle.sets.proofs.Operations.{has-union, has-intersection, has-singleton}
use Rattle.refusals.specs.Refusals.{first_of}
use Rattle.label.specs.declared.Label.{Label}
use Rattle.protocol.specs.declared.State.{State}
use Rattle.protocol.specs.Geometry.{block_size, area_size, block}
use Rattle.protocol.specs.States.{label_at, current_of, live, source}
use Rattle.protocol.specs.Stores.{Disks, copy, on_label, apply, apply_all}
use Rattle.protocol.specs.Lists.{move_to_live, fill, join_list}
use Rattle.protocol.specs.Outcomes.{disks_of, refused_or}
use Rattle.protocol.specs.Calls.{join_refusals, join_outcome}
use Rattle.protocol.specs.History.{perform}
use Rattle.protocol.specs.Demand3.{given}
use Rattle.protocol.specs.JoinClaims.{MembersTold, Joining, JoinsCopy, JoinsRight}
use Rattle.protocol.proofs.Loops.{Each, each_append}
use Rattle.protocol.proofs.Lists.{each_move, each_live, each_fill}
use Rattle.protocol.proofs.Stores.{apply_append, Keeps, keeps, keeps_along, made_all}
use Rattle.protocol.proofs.Blocks.{block_length, stored_size, stored_same, stored_other}
use Rattle.protocol.proofs.Labels.{field-set}
use Rattle.protocol.proofs.States.{source_known, source_has, live_inside}
use Rattle.protocol.proofs.Soundness.{test_agrees, live_known}
use Rattle.protocol.proofs.Outcomes.{refused_cut_or_whole}
use Rattle.protocol.proofs.NotRefused.{JoinPassed, join_passed}
use Rattle.protocol.proofs.Invariant.{holds_reference, invariant_after}

pub members_told : MembersTold
unfolding join_outcome refused_or join_refusals first_of
members_told s area output g d budget fit size runs member =
    let current = rw runs at fit.power in
    let known = (below_members g s.disks).0 current.known d member in
    rw ((test_agrees s).1 fit, eq-eqb _ _ size, runs, lt-ltb _ _ known, member)

-- ---- what its list leaves

module _ (s : State) (area : List ℕ) (d : ℕ) where
  abbrev n : ℕ
  n = s.disks

  abbrev b : ℕ
  b = s.blocks

  abbrev l : ℕ
  l = live s

  abbrev joined : ℕ
  joined = union l (singleton d)

  abbrev w : Disks
  w = disks_of s area

  module _ (pass : JoinPassed s area d) where
    source_below : source l < n
    source_below = source_known n l pass.some (live_known s pass.fit)

    source_apart : source l ≢ d
    source_apart e = clash (live_inside s (source l) (source_has l pass.some)) (rw e pass.out)

    -- done or cut, it keeps the map of d and the blocks of the others
    record Kept (v : Disks) : Type 0 where
      map : (label_at v.labels d).dirty ≡ (label_at s.labels d).dirty
      size : length v.area ≡ area_size n b
      others : (e k : ℕ) → e < n → k < b → e ≢ d → block b v.area e k ≡ block b area e k

    start : Kept w
    start = record { map = refl; size = pass.size; others = λ e k i j ne. refl }

    -- another label of disk e with the same map
    label_kept : (e : ℕ) (l : Label) (v : Disks) → l.dirty ≡ (label_at v.labels e).dirty → Kept v
        → Kept (on_label v e l)
    label_kept e l v same h = record {
      map = field-set (λ y. y.dirty) v.labels e l same d ∙ h.map;
      size = h.size;
      others = h.others;
    }

    module _ (k : ℕ) (hk : k < b) (v : Disks) (h : Kept v) where
      full : length (block b v.area (source l) k) ≡ block_size
      full = block_length n b v.area h.size (source l) k source_below hk

      copy_kept : Kept (apply b (copy (source l) d k) v)
      unfolding apply
      copy_kept = record {
        map = h.map;
        size = stored_size n b v.area h.size d k pass.known hk _ full;
        others = λ e j he hj ne.
            stored_other n b v.area h.size d k pass.known hk _ full e j he hj (inl (λ q. ne (sym q)))
            ∙ h.others e j he hj ne;
      }

      copy_there : block b (apply b (copy (source l) d k) v).area d k ≡ block b area (source l) k
      unfolding apply
      copy_there =
          stored_same n b v.area h.size d k pass.known hk _ full
          ∙ h.others (source l) k source_below hk source_apart

      copy_stays : (j : ℕ) → j < b → j ≢ k → block b (apply b (copy (source l) d k) v).area d j ≡ block b v.area d j
      unfolding apply
      copy_stays j hj ne =
          stored_other n b v.area h.size d k pass.known hk _ full d j pass.known hj (inr (λ q. ne (sym q)))

    moves_kept : Each (Keeps b Kept) (move_to_live s)
    unfolding apply
    moves_kept = each_live s (λ e i m v. label_kept e _ v refl) (λ e i m v. label_kept e _ v refl)

    stores_kept : Each (Keeps b Kept) (join_list s d)
    unfolding join_list apply
    stores_kept =
        each_append moves_kept
        (each_append (each_fill b l d copy_kept)
        (each_move n joined (λ e i m v. label_kept e _ v refl) (λ e i m v. label_kept e _ v refl)))

    -- done, d has the blocks of the source
    abbrev Copied : ℕ → Disks → Type 0
    Copied k v = block b v.area d k ≡ block b area (source l) k

    filled : (v : Disks) → Kept v → (k : ℕ) → k < b → Copied k (apply_all b (fill b l d) v)
    unfolding fill apply_all
    filled v h =
        (made_all b (λ k. copy (source l) d k ∷ []) Kept Copied b
        (λ k hk u g. (copy_kept k hk u g, copy_there k hk u g))
        (λ k j hk i u g q. copy_stays k hk u g j (omega arith) (λ z. omega arith) ∙ q)
        v h).1

    -- the moves before and behind the copies leave the blocks
    copied : (k : ℕ) → k < b → Copied k (apply_all b (join_list s d) w)
    unfolding join_list apply
    copied k hk =
        rw (apply_append, apply_append)
        (keeps b (Copied k) (each_move n joined (λ e i m u q. q) (λ e i m u q. q)) _
        (filled _ (keeps b Kept moves_kept w start) k hk))

    -- the same cut anywhere, and whole
    cut_kept : (count : ℕ) → Kept (apply_all b (take count (join_list s d)) w)
    cut_kept = keeps_along b Kept stores_kept w start

    whole_kept : Kept (apply_all b (join_list s d) w)
    whole_kept = keeps b Kept stores_kept w start

    members : (e : ℕ) → has joined e ≡ (has (current_of s.power) e && has s.online e || eqb e d)
    members e =
        has-union l (singleton d) e ∙ rw (has-intersection (current_of s.power) s.online e, has-singleton d e)

pub joins_copy : JoinsCopy
unfolding join_outcome
joins_copy s area output d budget =
    refused_cut_or_whole (join_list s d) budget s area output _ (join_refusals s area d) (Joining s area d)
    (λ ne. record {
      dirty_map = refl;
      copied = λ z. absurd (ne z);
      other_blocks = λ e k i j apart. refl;
      joined = λ z. absurd (ne z);
    })
    (λ e i.
    let cut = cut_kept s area d (join_passed s area d e) budget in
    record {
      dirty_map = cut.map;
      copied = λ z. absurd (omega arith);
      other_blocks = cut.others;
      joined = λ z. absurd (omega arith);
    })
    (λ e i.
    let pass = join_passed s area d e in
    let whole = whole_kept s area d pass in
    record {
      dirty_map = whole.map;
      copied = λ z. copied s area d pass;
      other_blocks = whole.others;
      joined = λ z. (joined s area d, refl, members s area d pass);
    })

-- ---- in a list

pub joins_right : JoinsRight
unfolding perform
joins_right n b lent done calls c d budget is z =
    let cabinet = given n b lent c in
    let performs = ap (λ call. perform call c.this.bytes c.this.output cabinet) is in
    let (g, runs, members) =
    (joins_copy cabinet.state cabinet.area c.this.output d budget).joined
    (sym (ap (λ o. o.answer.refusal) performs) ∙ z) in
    let live-before = has (current_of cabinet.state.power) d && has cabinet.state.online d in
    let now = ap (λ o. o.answer.state.power) performs ∙ runs in (
      g,
      now,
      members d ∙ rw (eq-eqb d d refl) (or-true live-before),
      holds_reference (invariant_after n b lent done c) g now,
    )

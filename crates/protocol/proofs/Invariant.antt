-- What holds of the program's cabinet and the reference contents after any list of calls that a done fresh begins.
-- Assumes nothing.
use mathlib.Core.Path.{◌≡◌, refl, sym, ap, ◌∙◌, subst}
use mathlib.Core.Bool.{true}
use mathlib.Core.List.{List, [], ◌∷◌, ◌++◌}
use Prim.Native.Nat.{ℕ, ◌<◌}
use Rattle.sets.specs.Sets.{has}
use Rattle.protocol.specs.declared.Power.TheVariants.{Running}
use Rattle.protocol.specs.Geometry.{block}
use Rattle.protocol.specs.Soundness.{Proper}
use Rattle.protocol.specs.Calls.{formatted, format_outcome}
use Rattle.protocol.specs.History.{Step, Cabinet, cabinet_of, ran}
use Rattle.protocol.specs.Reference.{Contents, Reference, carried_by, after_writes}
use Rattle.protocol.specs.Reference.{started, recorded, recorded_all, contents_after}
use Rattle.protocol.specs.Demand3.{CallIn, cabinet_after, given, result, contents_at}
use Rattle.protocol.proofs.Consistency.{Consistent, held_in_sync}
use Rattle.protocol.proofs.Calls.{call_preserves}
use Rattle.protocol.proofs.Formatting.{format_done, started_consistent, format_proper}
use Rattle.protocol.proofs.History.{recorded_append, ran_last, same_cabinet, after_calls}

-- a cabinet is consistent with the reference contents, is sound, and has its n and b
pub record Invariant (n b : ℕ) (contents : Contents) (c : Cabinet) : Type 0 where
  pub consistent : Consistent contents c
  pub proper : Proper c.state
  pub disks : c.state.disks ≡ n
  pub blocks : c.state.blocks ≡ b

-- while it runs, every member of its current set holds the reference contents
pub holds_reference : {n b : ℕ} {contents : Contents} {c : Cabinet} → Invariant n b contents c
    → (g : ℕ) → c.state.power ≡ Running g → (d k : ℕ) → has g d ≡ true → k < b → block b c.area d k ≡ contents k
holds_reference {contents = contents} {c = c} h g e d k m =
    subst (λ z. k < z → block z c.area d k ≡ contents k) h.blocks
    ((held_in_sync c.state.power e h.consistent.held).holds d m k)

-- ---- the reference's own cabinet

abbrev Kept : ℕ → ℕ → Reference → Type 0
Kept n b ref = Invariant n b ref.contents ref.cabinet

call_keeps : (n b : ℕ) (x : Step) (ref : Reference) → Kept n b ref → Kept n b (recorded x ref)
unfolding recorded
call_keeps n b x ref h =
    let kept = call_preserves x.call x.bytes x.output ref.cabinet in
    record {
      consistent = kept.consistent ref.contents h.consistent;
      proper = kept.proper h.proper;
      disks = kept.disks ∙ h.disks;
      blocks = kept.blocks ∙ h.blocks;
    }

-- ---- the program's

module _ (n b : ℕ) (lent : List ℕ) (done : (format_outcome lent [] n b).answer.refusal ≡ 0) where
  started_kept : Kept n b (started n b)
  unfolding started formatted
  started_kept =
      let (range, e) = format_done n b lent [] done in
      record {
        consistent = started_consistent n b range;
        proper = subst (λ c. Proper c.state) e (format_proper lent [] n b done);
        disks = refl;
        blocks = refl;
      }

  -- it is the reference's, though neither is given anything of the other
  same_as_reference : (calls : List Step) → (recorded_all calls (started n b)).cabinet ≡ cabinet_after n b lent calls
  same_as_reference calls = same_cabinet calls (started n b) ∙ ap (ran calls) (sym (format_done n b lent [] done).1)

  pub invariant : (calls : List Step) → Invariant n b (contents_after n b calls) (cabinet_after n b lent calls)
  invariant calls =
      subst (Invariant n b (contents_after n b calls)) (same_as_reference calls)
      (after_calls (Kept n b) (call_keeps n b) calls (started n b) started_kept)

  -- ---- before and after a call of the list

  module _ {calls : List Step} (c : CallIn calls) where
    pub invariant_before : Invariant n b (contents_after n b c.before) (given n b lent c)
    invariant_before = invariant c.before

    pub invariant_after : Invariant n b (contents_at n b c) (cabinet_of (result n b lent c))
    invariant_after =
        subst (Invariant n b (contents_at n b c)) (ran_last c.before c.this _)
        (invariant (c.before ++ (c.this ∷ [])))

    -- the reference contents after it are those before it, with the writes that it carries out on the program's cabinet
    pub contents_at_is : contents_at n b c
        ≡ after_writes (carried_by c.this.call c.this.bytes (given n b lent c)) (contents_after n b c.before)
    unfolding recorded_all recorded
    contents_at_is =
        ap (λ ref. ref.contents) (recorded_append c.before (c.this ∷ []) (started n b))
        ∙ rw (same_as_reference c.before)

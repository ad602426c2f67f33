-- The sets that labels back, and what they leave a restart to name. Every candidate of every stage is backed, so what
-- limits the backed sets limits what a restart can name, whichever disks are in reach. Assumes nothing.
use mathlib.Core.Path.{◌≡◌, refl, sym, ◌∙◌}
use mathlib.Core.Logic.{inl, inr}
use mathlib.Core.Bool.{true, false}
use mathlib.Core.List.{List}
use Prim.Native.Nat.{ℕ, ◌^◌, ◌<◌}
use lib.Dec.{eqb}
use borrow.Author.Tests.{eqb-true, eq-eqb, lt-ltb}
use Rattle.sets.specs.Sets.{has, all}
use Rattle.sets.proofs.Tests.{Test, passes, fails, test, clash}
use Rattle.sets.proofs.Operations.{has_all}
use Rattle.sets.proofs.Bounds.{member_below}
use Rattle.label.specs.declared.Label.{Label}
use Rattle.protocol.specs.Loops.{some}
use Rattle.protocol.specs.States.{label_at, committed_at, tentative_at, source}
use Rattle.protocol.specs.Naming.{Stage, first, second, third, Found, none, one, several}
use Rattle.protocol.specs.Naming.{Backs, Candidate, Exactly, no_set, one_set, several_sets}
use Rattle.protocol.specs.Naming.{Decides, here, further, nowhere, Names}
use Rattle.protocol.proofs.Loops.{some_member, some_not}
use Rattle.protocol.proofs.States.{source_has}

-- every member has the set as its T or its C
pub record Backed (labels : List Label) (x : ℕ) : Type 0 where
  pub filled : 0 < x
  pub each : (d : ℕ) → has x d ≡ true → Backs second (label_at labels d) x

-- ---- labels of a running cabinet, and of one that may be restarted

-- every member of g has it, and no other set is backed
pub record Agreed (n : ℕ) (labels : List Label) (g : ℕ) : Type 0 where
  pub filled : 0 < g
  pub known : g < 2 ^ n
  pub members : (d : ℕ) → has g d ≡ true → (committed_at labels d ≡ g) × (tentative_at labels d ≡ 0)
  pub only : (x : ℕ) → Backed labels x → x ≡ g

-- some set is backed, and all that are share a disk, the anchor, so each is the anchor's own C or T. Where one of them
-- is both the anchor's C and some member's T, there is no other.
pub record Recoverable (n : ℕ) (labels : List Label) : Type 0 where
  pub anchor : ℕ
  pub anchored : (x : ℕ) → Backed labels x → has x anchor ≡ true
  pub decided : (m : ℕ) → has (committed_at labels anchor) m ≡ true → tentative_at labels m ≡ committed_at labels anchor
      → (x : ℕ) → Backed labels x → x ≡ committed_at labels anchor
  pub known : (x : ℕ) → Backed labels x → x < 2 ^ n
  pub some_set : (x : ℕ) × Backed labels x

agreed_backed : {n : ℕ} {labels : List Label} {g : ℕ} → Agreed n labels g → Backed labels g
agreed_backed h = record { filled = h.filled; each = λ d m. inr (h.members d m).0 }

pub agreed_recoverable : {n : ℕ} {labels : List Label} {g : ℕ} → Agreed n labels g → Recoverable n labels
agreed_recoverable {g = g} h =
    let m = source_has g h.filled in
    record {
      anchor = source g;
      anchored = λ x p. rw (h.only x p) m;
      decided = λ d q e x p. h.only x p ∙ sym (h.members (source g) m).0;
      known = λ x p. rw (h.only x p) h.known;
      some_set = (g, agreed_backed h);
    }

-- ---- what a restart finds

pub candidate_backed : (stage : Stage) {online : ℕ} {labels : List Label} {x : ℕ} → Candidate stage online labels x
    → Backed labels x
candidate_backed first c = record { filled = c.filled; each = λ d m. inl (c.each d m) }
candidate_backed second c = record { filled = c.filled; each = c.each }
candidate_backed third c = record { filled = c.filled; each = λ d m. inr (c.each d m) }

module _ {n : ℕ} {labels : List Label} (rec : Recoverable n labels) where
  -- a stage has no two candidates
  unique : (stage : Stage) {online : ℕ} (x y : ℕ) → Candidate stage online labels x → Candidate stage online labels y
      → x ≡ y
  unique stage x y p q = go stage p q (at_anchor stage p) (at_anchor stage q)
    where
      a : ℕ
      a = rec.anchor

      at_anchor : (stage : Stage) {online z : ℕ} → Candidate stage online labels z → Backs stage (label_at labels a) z
      at_anchor stage {z = z} c = c.each a (rec.anchored z (candidate_backed stage c))

      -- one is the anchor's C, and proposed
      wins : {online z v : ℕ} → Candidate second online labels z → Candidate second online labels v
          → committed_at labels a ≡ z → v ≡ z
      wins {z = z} {v = v} c d e =
          let (m, h, t) = c.proposed in
          rec.decided m (rw e h) (t ∙ sym e) v (candidate_backed second d) ∙ e

      go : (stage : Stage) {online : ℕ} → Candidate stage online labels x → Candidate stage online labels y
          → Backs stage (label_at labels a) x → Backs stage (label_at labels a) y → x ≡ y
      go first p q e f = sym e ∙ f
      go second p q (inl e) (inl f) = sym e ∙ f
      go second p q (inl e) (inr f) = wins q p f
      go second p q (inr e) f = sym (wins p q e)
      go third p q e f = sym e ∙ f

  one_at_most : (stage : Stage) {online : ℕ} → Exactly (Candidate stage online labels) several → ⊥
  one_at_most stage (several_sets {x} {y} p q ne) = ne (unique stage x y p q)

  -- so a restart never finds several sets
  pub never_several : {online : ℕ} {stages : List Stage} → Decides online labels stages several → ⊥
  never_several (here {stage} f e) = one_at_most stage e
  never_several (further e h) = never_several h

  -- a backed set is a candidate of some stage where all disks are in reach
  no_candidate : Exactly (Candidate second (all n) labels) none → Exactly (Candidate third (all n) labels) none
      → (x : ℕ) → Backed labels x → ⊥
  no_candidate (no_set e2) (no_set e3) x p = go (test (some n x (λ d. eqb (tentative_at labels d) x)))
    where
      in_reach : (d : ℕ) → has x d ≡ true → d < n
      in_reach d m = member_below x n d (rec.known x p) m

      inside : (d : ℕ) → has x d ≡ true → has (all n) d ≡ true
      inside d m = has_all n d ∙ lt-ltb d n (in_reach d m)

      committed : some n x (λ d. eqb (tentative_at labels d) x) ≡ false → (d : ℕ) → has x d ≡ true
          → Backs second (label_at labels d) x → committed_at labels d ≡ x
      committed f d m (inl e) = clash (eq-eqb _ _ e) (some_not n x _ f d (in_reach d m) m)
      committed f d m (inr e) = e

      go : Test (some n x (λ d. eqb (tentative_at labels d) x)) → ⊥
      go (passes e) =
          let (d, l, m, t) = some_member n x _ e in
          e2 x (record { filled = p.filled; inside = inside; each = p.each; proposed = (d, m, eqb-true _ _ t) })
      go (fails e) =
          e3 x (record {
            filled = p.filled;
            inside = inside;
            each = λ d m. committed e d m (p.each d m);
            proposed = (source x, source_has x p.filled, tt);
          })

  -- with all disks in reach it finds one
  pub finds_one : (f : Found) → Names (all n) labels f → (x : ℕ) × (f ≡ one x)
  finds_one none (here f e) = absurd (f refl)
  finds_one none (further e1 (here f e)) = absurd (f refl)
  finds_one none (further e1 (further e2 (here f e))) = absurd (f refl)
  finds_one none (further e1 (further e2 (further e3 nowhere))) =
      absurd (no_candidate e2 e3 rec.some_set.0 rec.some_set.1)
  finds_one (one x) h = (x, refl)
  finds_one several h = absurd (never_several h)

-- what it finds is a candidate of some stage
pub found_candidate : {online : ℕ} {labels : List Label} {stages : List Stage} {x : ℕ}
    → Decides online labels stages (one x)
    → (stage : Stage) × Candidate stage online labels x
found_candidate (here {stage} f (one_set p u)) = (stage, p)
found_candidate (further e h) = found_candidate h

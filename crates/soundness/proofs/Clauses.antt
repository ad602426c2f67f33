-- The clauses as the code tests them say what the definition does. Assumes nothing.
use mathlib.Core.Path.{◌≡◌, refl}
use mathlib.Core.Logic.{◌⊎◌, inl, inr, ◌↔◌}
use mathlib.Core.Bool.{true, false}
use mathlib.Core.List.{List}
use Prim.Native.Nat.{ℕ, zero, suc, ◌≤◌, ◌<◌}
use native.Mathlib.Decide.{dec_lt}
use native.Mathlib.Omega.{arith}
use lib.Dec.{eqb}
use borrow.Author.Tests.{eqb-true, eq-eqb, ltb-true, lt-ltb, le-ltb}
use Rattle.sets.specs.Sets.{has, union, below}
use Rattle.sets.proofs.Tests.{Test, passes, fails, test, clash, and_parts, same_test}
use Rattle.sets.proofs.Membership.{has_empty}
use Rattle.sets.proofs.Bounds.{below_empty, below-union, below_members}
use Rattle.label.specs.declared.Label.{Label}
use Rattle.label.specs.Bytes.{blank}
use Rattle.label.proofs.Comparing.{compares_labels}
use Rattle.protocol.specs.declared.Power.{Power}
use Rattle.protocol.specs.declared.Power.TheVariants.{Stopped, Running}
use Rattle.protocol.specs.declared.State.{State}
use Rattle.protocol.specs.Geometry.{most_disks, regions}
use Rattle.protocol.specs.States.{label_at, current_of}
use Rattle.protocol.specs.Soundness.{Sound, InRange, FitSet, FitLabel, FitPower, in_range, sound}
use Rattle.protocol.proofs.Loops.{or_last}
use Rattle.protocol.proofs.Soundness.{in_range_lem, own_disk_lem, test_agrees}
use Rattle.soundness.specs.declared.Survey.{Survey}
use Rattle.soundness.specs.Clauses.{own_disk, add, survey_below, filled, sound_given, sound_by_clauses}

-- ---- one label

record FitByItself (n g regions d : ℕ) (l : Label) : Type 0 where
  committed : (l.committed ≡ 0) ⊎ (has l.committed d ≡ true)
  tentative : (l.tentative ≡ 0) ⊎ (has l.tentative d ≡ true)
  rest : n ≤ d → l ≡ blank
  member : has g d ≡ true → (l.committed ≡ g) × (l.tentative ≡ 0)
  -- of others below n
  known : has g d ≡ false → below (union l.committed l.tentative) n ≡ true
  dirty : below l.dirty regions ≡ true

-- ---- what a survey of labels says

record FitSurvey (n regions : ℕ) (survey : Survey) : Type 0 where
  fit : survey.fit ≡ true
  named : below survey.named n ≡ true
  dirty : below survey.dirty regions ≡ true

-- one more label; a member is below n, as G is
module _ (n g regions d : ℕ) (l : Label) (inside : has g d ≡ true → d < n) (survey : Survey) where
  one_more : FitSurvey n regions (add n g d l survey) → FitSurvey n regions survey × FitByItself n g regions d l
  unfolding add own_disk
  one_more h = go (test (has g d)) (dec_lt d n)
    where
      go : Test (has g d) → Dec (d < n) → FitSurvey n regions survey × FitByItself n g regions d l
      go (passes m) _ =
          let now = rw m at h in
          let (fit, e) = and_parts survey.fit _ now.fit in
          let (same, none) = and_parts (eqb l.committed g) (eqb l.tentative 0) e in
          let (before, here) = (below-union survey.dirty l.dirty regions).0 now.dirty in
          let c = eqb-true l.committed g same in
          let t = eqb-true l.tentative 0 none in (
            record { fit = fit; named = now.named; dirty = before },
            record {
              committed = inr (rw c m);
              tentative = inl t;
              rest = λ b. absurd (omega (arith, inside m));
              member = λ _. (c, t);
              known = λ e. clash m e;
              dirty = here;
            },
          )
      go (fails m) (yes p) =
          let now = rw (m, lt-ltb d n p) at h in
          let (fit, e) = and_parts survey.fit _ now.fit in
          let (c, t) = and_parts (own_disk d l.committed) (own_disk d l.tentative) e in
          let (before, here) = (below-union survey.dirty l.dirty regions).0 now.dirty in
          let (others, known) = (below-union survey.named (union l.committed l.tentative) n).0 now.named in (
            record { fit = fit; named = others; dirty = before },
            record {
              committed = (own_disk_lem d _).0 c;
              tentative = (own_disk_lem d _).0 t;
              rest = λ b. absurd (omega arith);
              member = λ e. clash e m;
              known = λ _. known;
              dirty = here;
            },
          )
      go (fails m) (no q) =
          let now = rw (m, le-ltb d n (omega arith)) at h in
          let (fit, e) = and_parts survey.fit _ now.fit in
          let zero = (compares_labels l blank).0 e in (
            record { fit = fit; named = now.named; dirty = now.dirty },
            record {
              committed = rw zero (inl refl);
              tentative = rw zero (inl refl);
              rest = λ b. zero;
              member = λ e. clash e m;
              known = λ _. rw zero ((below-union 0 0 n).1 (below_empty n, below_empty n));
              dirty = rw zero (below_empty regions);
            },
          )

  with_one_lem : FitSurvey n regions survey → FitByItself n g regions d l → FitSurvey n regions (add n g d l survey)
  unfolding add own_disk
  with_one_lem h a = go (test (has g d)) (dec_lt d n)
    where
      dirty : below (union survey.dirty l.dirty) regions ≡ true
      dirty = (below-union survey.dirty l.dirty regions).1 (h.dirty, a.dirty)

      go : Test (has g d) → Dec (d < n) → FitSurvey n regions (add n g d l survey)
      go (passes m) _ =
          rw m
          (record {
            fit = rw (h.fit, eq-eqb _ _ (a.member m).0, eq-eqb _ _ (a.member m).1);
            named = h.named;
            dirty = dirty;
          })
      go (fails m) (yes p) =
          rw (m, lt-ltb d n p) (record {
            fit = rw (h.fit, (own_disk_lem d l.committed).1 a.committed, (own_disk_lem d l.tentative).1 a.tentative);
            named = (below-union survey.named (union l.committed l.tentative) n).1 (h.named, a.known m);
            dirty = dirty;
          })
      go (fails m) (no q) =
          rw (m, le-ltb d n (omega arith))
          (record {
            fit = rw h.fit ((compares_labels l blank).1 (a.rest (omega arith)));
            named = h.named;
            dirty = h.dirty;
          })

-- all of them
module _ (n g regions : ℕ) (labels : List Label) (inside : (d : ℕ) → has g d ≡ true → d < n) where
  all_fit : (k : ℕ) → FitSurvey n regions (survey_below n g labels k) → (d : ℕ) → d < k
      → FitByItself n g regions d (label_at labels d)
  unfolding survey_below
  all_fit zero h d l = absurd (omega arith)
  all_fit (suc k) h d l =
      let (before, last) = one_more n g regions k (label_at labels k) (inside k) _ h in
      or_last (λ e. FitByItself n g regions e (label_at labels e)) k d l (all_fit k before d) last

  fit_all : (k : ℕ) → ((d : ℕ) → d < k → FitByItself n g regions d (label_at labels d))
      → FitSurvey n regions (survey_below n g labels k)
  unfolding survey_below
  fit_all zero h = record { fit = refl; named = below_empty n; dirty = below_empty regions }
  fit_all (suc k) h =
      with_one_lem n g regions k (label_at labels k) (inside k) _ (fit_all k (λ d l. h d (omega arith)))
      (h k (omega arith))

-- a label all zero is fit for any disk
blank_fit : (n b d : ℕ) → FitLabel n b d blank
blank_fit n b d =
    let none : FitSet n d 0 = record { known = below_empty n; own = inl refl } in
    record { committed = none; tentative = none; dirty = below_empty (regions b) }

-- ---- the power condition

module _ (n : ℕ) (labels : List Label) where
  -- "each member has C = G and T = 0"
  Agree : Power → ℕ → Type 0
  Agree p d =
      has (current_of p) d ≡ true → ((label_at labels d).committed ≡ current_of p) × ((label_at labels d).tentative ≡ 0)

  fit_power_lem : (p : Power) → n ≤ most_disks → below (current_of p) n ≡ true → filled p ≡ true
      → ((d : ℕ) → d < most_disks → Agree p d) → FitPower n labels p
  unfolding filled Agree
  fit_power_lem Stopped few known full members = tt
  fit_power_lem (Running g) few known full members =
      record { known = known; filled = ltb-true 0 g full; members = λ d l. members d (omega arith) }

  power_fit : (p : Power) → FitPower n labels p
      → (below (current_of p) n ≡ true) × (filled p ≡ true) × ((d : ℕ) → Agree p d)
  unfolding filled Agree
  power_fit Stopped h = (below_empty n, refl, λ d m. clash m (has_empty d))
  power_fit (Running g) h = (
    h.known,
    lt-ltb 0 g h.filled,
    λ d m. h.members d ((below_members g n).0 h.known d m) m,
  )

-- ---- the whole state

module _ (s : State) where
  abbrev g : ℕ
  g = current_of s.power

  abbrev survey : Survey
  survey = survey_below s.disks g s.labels most_disks

  -- soundness, clause by clause
  record Clauses : Type 0 where
    range : InRange s.disks s.blocks
    online : below s.online s.disks ≡ true
    current : below g s.disks ≡ true
    surveyed : FitSurvey s.disks (regions s.blocks) survey
    full : filled s.power ≡ true

  tested : (sound_by_clauses s ≡ true) ↔ Clauses
  unfolding sound_by_clauses sound_given
  tested = (
    λ e.
        let (range, e1) = and_parts (in_range s.disks s.blocks) _ e in
        let (sets, e2) = and_parts (below (union (union s.online g) survey.named) s.disks) _ e1 in
        let (dirty, e3) = and_parts (below survey.dirty (regions s.blocks)) _ e2 in
        let (fit, full) = and_parts survey.fit _ e3 in
        let (both, named) = (below-union (union s.online g) _ s.disks).0 sets in
        let (online, current) = (below-union s.online g s.disks).0 both in
        record {
          range = (in_range_lem _ _).0 range;
          online = online;
          current = current;
          surveyed = record { fit = fit; named = named; dirty = dirty };
          full = full;
        },
    λ h.
        let both = (below-union s.online g s.disks).1 (h.online, h.current) in
        rw (
          (in_range_lem _ _).1 h.range,
          (below-union (union s.online g) survey.named s.disks).1 (both, h.surveyed.named),
          h.surveyed.dirty,
          h.surveyed.fit,
          h.full,
        ),
  )

  from_clauses : Clauses → Sound s
  unfolding Agree
  from_clauses h = record {
    range = h.range;
    online = h.online;
    labels = record { each = each; rest = λ d b l. (by_itself d l).rest b };
    power =
        fit_power_lem s.disks s.labels s.power h.range.disks h.current h.full
        (λ d l. (by_itself d l).member);
  }
    where
      by_itself : (d : ℕ) → d < most_disks → FitByItself s.disks g (regions s.blocks) d (label_at s.labels d)
      by_itself =
          all_fit s.disks g (regions s.blocks) s.labels ((below_members g s.disks).0 h.current) most_disks
          h.surveyed

      each : (d : ℕ) → d < s.disks → FitLabel s.disks s.blocks d (label_at s.labels d)
      each d l =
          let own = by_itself d (omega (arith, h.range.disks)) in
          let (c, t) = known own (test (has g d)) in
          record {
            committed = record { known = c; own = own.committed };
            tentative = record { known = t; own = own.tentative };
            dirty = own.dirty;
          }
        where
          label : Label
          label = label_at s.labels d

          known : FitByItself s.disks g (regions s.blocks) d label → Test (has g d)
              → (below label.committed s.disks ≡ true) × (below label.tentative s.disks ≡ true)
          known own (passes m) = (rw (own.member m).0 h.current, rw (own.member m).1 (below_empty s.disks))
          known own (fails m) = (below-union label.committed label.tentative s.disks).0 (own.known m)

  to_clauses : Sound s → Clauses
  unfolding Agree
  to_clauses h =
      let (current, full, members) = power_fit s.disks s.labels s.power h.power in
      record {
        range = h.range;
        online = h.online;
        current = current;
        surveyed =
            fit_all s.disks g (regions s.blocks) s.labels ((below_members g s.disks).0 current) most_disks
            (λ d l. record {
              committed = (fit d l).committed.own;
              tentative = (fit d l).tentative.own;
              rest = λ b. h.labels.rest d b l;
              member = members d;
              known = λ _. (below-union _ _ s.disks).1 ((fit d l).committed.known, (fit d l).tentative.known);
              dirty = (fit d l).dirty;
            });
        full = full;
      }
    where
      fit : (d : ℕ) → d < most_disks → FitLabel s.disks s.blocks d (label_at s.labels d)
      fit d l = go (dec_lt d s.disks)
        where
          go : Dec (d < s.disks) → FitLabel s.disks s.blocks d (label_at s.labels d)
          go (yes p) = h.labels.each d p
          go (no q) = rw (h.labels.rest d (omega arith) l) (blank_fit s.disks s.blocks d)

  pub clauses_agree : sound_by_clauses s ≡ sound s
  clauses_agree =
      same_test (sound_by_clauses s) (sound s) (λ e. (test_agrees s).1 (from_clauses (tested.0 e)))
      (λ e. tested.1 (to_clauses ((test_agrees s).0 e)))

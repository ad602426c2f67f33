-- A diagnosis gives the right reason and the right set, and where a restart gives 13 it tells what is missing. Assumes
-- nothing.
use mathlib.Core.Path.{◌≡◌, refl, sym, ap, ◌∙◌, subst}
use mathlib.Core.Logic.{◌≢◌, ◌⊎◌, inl, inr}
use mathlib.Core.Bool.{true, false}
use mathlib.Core.List.{List}
use Prim.Native.Nat.{ℕ, ◌<◌}
use native.Mathlib.Omega.{arith}
use lib.Dec.{lit<}
use borrow.Author.Tests.{eq-eqb, ne_eqb, lt-ltb}
use Rattle.sets.specs.Sets.{has, below}
use Rattle.sets.proofs.Tests.{same_or_not}
use Rattle.label.specs.declared.Label.{Label}
use Rattle.refusals.specs.Refusals.{first_of}
use Rattle.protocol.specs.declared.Power.TheVariants.{Stopped}
use Rattle.protocol.specs.declared.Reason.{Reason}
use Rattle.protocol.specs.declared.Reason.TheVariants.{NoReason, NoneProposes, IsCandidate}
use Rattle.protocol.specs.declared.State.{State}
use Rattle.protocol.specs.States.{label_at, is_running}
use Rattle.protocol.specs.Soundness.{Sound}
use Rattle.protocol.specs.Naming.{Stage, first, second, third, stage_number, Found, none, one, several}
use Rattle.protocol.specs.Naming.{Candidate, Names, found_by}
use Rattle.protocol.specs.Outcomes.{outcome}
use Rattle.protocol.specs.Calls.{refusals_finding, restart_refusals, restart_outcome}
use Rattle.protocol.specs.Diagnosis.{reason_number, Own, tentative, committed, own_set, reason_for}
use Rattle.protocol.specs.Diagnosis.{set_without, stage_numbered, no_such_stage}
use Rattle.protocol.specs.Diagnosis.{diagnose_refusals, diagnosed, diagnosis, diagnose_outcome}
use Rattle.protocol.specs.Diagnosis.{ChangesNothing, SetRight, DiagnosedRight, MissingTold}
use Rattle.protocol.proofs.Soundness.{test_agrees}
use Rattle.protocol.proofs.Refusals.{not_given}
use Rattle.protocol.proofs.Outcomes.{refused_or_lem, refused_cut_or_whole}
use Rattle.protocol.proofs.NotRefused.{diagnose_passed}
use Rattle.protocol.proofs.Naming.{no_candidate, found_names, named_as_defined}
use Rattle.protocol.proofs.Reasons.{lacks_proposal, reason_right}

-- ---- the set

set_right : (s : State) (d : ℕ) → Sound s → SetRight s.online s.labels d (set_without d (found_by s))
set_right s d fit = record {
  without = λ x names out. ap (set_without d) (sym (named_as_defined.only s fit (one x) names)) ∙ rw out;
  otherwise = go (found_by s) (found_names s fit);
}
  where
    go : (f : Found) → Names s.online s.labels f
        → ((x : ℕ) → Names s.online s.labels (one x) → has x d ≡ true) → set_without d f ≡ 0
    go none names each = refl
    go (one x) names each = rw (each x names)
    go several names each = refl

-- ---- the call

own_is : (l : Label) → Own l (own_set l)
unfolding own_set
own_is l = go (same_or_not l.tentative 0)
  where
    go : (l.tentative ≡ 0) ⊎ (l.tentative ≢ 0) → Own l (own_set l)
    go (inl e) = rw (eq-eqb _ _ e) (committed e)
    go (inr ne) = rw (ne_eqb _ _ ne) (tentative ne)

-- it names disks that there are
own_known : (s : State) (d : ℕ) → Sound s → d < s.disks → below (own_set (label_at s.labels d)) s.disks ≡ true
own_known s d fit l = go (own_is (label_at s.labels d))
  where
    go : {x : ℕ} → Own (label_at s.labels d) x → below x s.disks ≡ true
    go (tentative ne) = (fit.labels.each d l).tentative.known
    go (committed e) = (fit.labels.each d l).committed.known

stage_is : (stage : Stage) → stage_numbered (stage_number stage) ≡ stage
stage_is first = refl
stage_is second = refl
stage_is third = refl

is_stage : (stage : Stage) → no_such_stage (stage_number stage) ≡ false
is_stage first = refl
is_stage second = refl
is_stage third = refl

not_refused : (s : State) (stage : Stage) (d : ℕ) → Sound s → s.power ≡ Stopped → d < s.disks
    → first_of (diagnose_refusals s (stage_number stage) d) ≡ 0
unfolding diagnose_refusals first_of
not_refused s stage d fit off l = rw ((test_agrees s).1 fit, ap is_running off, lt-ltb _ _ l, is_stage stage)

pub changes_nothing : ChangesNothing
unfolding diagnose_outcome diagnosis diagnosed
changes_nothing s area output stage d =
    refused_or_lem (diagnose_refusals s stage d) s area output _
    (λ o. o ≡ outcome (diagnosis s stage d).refusal 0 s area output) (λ ne. rw (ne_eqb _ _ ne))
    (λ e. rw (eq-eqb _ _ e))

pub diagnosed_right : DiagnosedRight
unfolding diagnosis diagnosed
diagnosed_right s stage d fit off l =
    rw (eq-eqb _ _ (not_refused s stage d fit off l), stage_is stage)
    (record {
      done = refl;
      own = own_set (label_at s.labels d);
      is_own = own_is (label_at s.labels d);
      reason = reason_right stage s.disks s.online s.labels _ (own_known s d fit l);
      set = set_right s d fit;
    })

-- ---- where a restart gives 13

none_found : (s : State) (area output : List ℕ) (budget : ℕ)
    → (restart_outcome s area output budget).answer.refusal ≡ 13 → found_by s ≡ none
unfolding restart_outcome restart_refusals
none_found s area output budget =
    refused_cut_or_whole _ budget s area output _ _ (λ o. o.answer.refusal ≡ 13 → found_by s ≡ none)
    (λ ne. go (found_by s)) (λ e l z. absurd (omega arith)) (λ e l z. absurd (omega arith))
  where
    go : (f : Found) → first_of (refusals_finding s area f) ≡ 13 → f ≡ none
    go none z = refl
    go (one x) z = absurd (not_given 13 (lit< tt) (refusals_finding s area (one x)) refl z)
    go several z = absurd (not_given 13 (lit< tt) (refusals_finding s area several) refl z)

module _ (s : State) (stage d : ℕ) where
  abbrev own : ℕ
  own = own_set (label_at s.labels d)

  abbrev given : Reason
  given = reason_for (stage_numbered stage) s.disks s.online s.labels own

  refused_reason : first_of (diagnose_refusals s stage d) ≢ 0 → (diagnosis s stage d).reason ≡ NoReason
  unfolding diagnosis
  refused_reason ne = rw (ne_eqb _ _ ne)

  done_reason : first_of (diagnose_refusals s stage d) ≡ 0 → (diagnosis s stage d).reason ≡ given
  unfolding diagnosis diagnosed
  done_reason e = rw (eq-eqb _ _ e)

  -- a reason that makes the set a candidate of some stage is not given where a restart finds none
  not_told : (reason : Reason) → 0 < reason_number reason → found_by s ≡ none
      → (Sound s → d < s.disks → given ≡ reason → (found : Stage) × Candidate found s.online s.labels own)
      → (diagnosis s stage d).reason ≢ reason
  not_told reason numbered nothing candidate told = go (same_or_not (first_of (diagnose_refusals s stage d)) 0)
    where
      go : (first_of (diagnose_refusals s stage d) ≡ 0) ⊎ (first_of (diagnose_refusals s stage d) ≢ 0) → ⊥
      go (inr ne) = omega (arith, numbered, ap reason_number (sym (refused_reason ne) ∙ told))
      go (inl z) =
          let pass = diagnose_passed s stage d z in
          let (found, c) = candidate pass.fit pass.known (sym (done_reason z) ∙ told) in
          no_candidate (subst (Names s.online s.labels) nothing (found_names s pass.fit)) found own c

pub missing_told : MissingTold
missing_told s area output budget stage d e =
    let nothing = none_found s area output budget e in
    let asked = stage_numbered stage in (
      not_told s stage d IsCandidate (lit< tt) nothing
          (λ fit l is. (asked, (reason_right asked _ _ _ _ (own_known s d fit l)).candidate.0 is)),
      not_told s stage d NoneProposes (lit< tt) nothing
          (λ fit l is. let known = own_known s d fit l in (third, lacks_proposal asked _ _ _ _ known is)),
    )

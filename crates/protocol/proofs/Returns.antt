-- What a return makes of the label that the disk shows. Assumes nothing.
use mathlib.Core.Path.{◌≡◌, refl, sym, ap, ◌∙◌}
use mathlib.Core.Logic.{◌≢◌, ◌⊎◌, inl, inr}
use mathlib.Core.Bool.{true, false, not, ◌&&◌, ◌||◌, and-false}
use mathlib.Core.List.{List, [], ◌∷◌, ◌++◌}
use Prim.Native.Nat.{ℕ, ◌≤◌, ◌<◌}
use native.Mathlib.Omega.{arith}
use lib.Dec.{eqb, lit<}
use lib.ListN.{drop, take-append-drop}
use borrow.Author.Tests.{eq-eqb, ne_eqb, lt-ltb, le-ltb, not-false}
use Rattle.sets.specs.Sets.{has, union, singleton, below}
use Rattle.sets.proofs.Tests.{Test, passes, fails, test}
use Rattle.sets.proofs.Operations.{has-union, has-singleton, with_member}
use Rattle.refusals.specs.Refusals.{first_of}
use Rattle.refusals.proofs.Order.{none_of}
use Rattle.label.specs.declared.Label.{Label}
use Rattle.label.specs.declared.Reading.{Reading}
use Rattle.label.specs.Bytes.{encode}
use Rattle.label.specs.Comparing.{same_label}
use Rattle.label.specs.Reading.{reading, found}
use Rattle.label.specs.Codec.{Writable}
use Rattle.label.proofs.Comparing.{compares_labels}
use Rattle.protocol.specs.declared.State.{State}
use Rattle.protocol.specs.Geometry.{label_form, regions}
use Rattle.protocol.specs.States.{label_at, with_online}
use Rattle.protocol.specs.Soundness.{Sound}
use Rattle.protocol.specs.Bays.{bay_refusals, stored_label}
use Rattle.protocol.specs.Outcomes.{outcome, refused_or}
use Rattle.protocol.specs.Calls.{reach_refusals, shown_refusals, attach_refusals, attach_outcome}
use Rattle.protocol.specs.Claims.{Returning, ReturnsShown, Judging, LabelsJudged, InReachUnseen}
use Rattle.protocol.proofs.Loops.{nil, cons}
use Rattle.protocol.proofs.Refusals.{none_in_a_row, none_applies}
use Rattle.protocol.proofs.Soundness.{test_agrees}
use Rattle.protocol.proofs.Outcomes.{refused_or_lem}
use Rattle.protocol.proofs.Assembling.{bay_numbered, bay_found}
use Rattle.protocol.proofs.Saving.{label_codec, stored_read}

module _ (s : State) (area output : List ℕ) (d : ℕ) where
  abbrev stored : Label
  stored = label_at s.labels d

  abbrev back : State
  back = with_online s (union s.online (singleton d))

  -- ---- of any state, shown any bytes

  module _ (bytes : List ℕ) where
    abbrev read : Reading
    read = reading label_form bytes

    module _ (none : first_of (attach_refusals s d bytes) ≡ 0) where
      -- not refused, a disk out of reach showed its label
      shown_found : has s.online d ≡ false → read ≡ found d s.disks stored read.length
      unfolding attach_refusals reach_refusals shown_refusals
      shown_found away =
          let numbered = bay_numbered d s.disks s.blocks read in
          let later = (none_in_a_row _ (cons (λ z. lit< tt) (cons (λ z. lit< tt) nil)) none).1 in
          let (bay, other) = none_in_a_row _ numbered (rw away at later) in
          let same = (compares_labels read.label stored).0 (not-false _ (none_of 25 _ _ (lit< tt) other).0) in
          bay_found d s.disks s.blocks read (none_applies numbered bay)
          ∙ ap (λ l. found d s.disks l read.length) same

      done : Returning s area output d bytes (outcome 0 0 back area output)
      done = record {
        shown = λ z away are.
            let (front, e) = label_codec.one_way bytes d s.disks stored read.length are (shown_found away) in
            (drop read.length bytes, sym (take-append-drop read.length bytes) ∙ rw front);
        foreign = λ away e n l rest writes small is apart.
            let here = ap (reading label_form) is ∙ label_codec.written_reads e n l rest small writes in
            let both = sym here ∙ shown_found away in
            absurd (apart (ap (λ r. r.number) both) (ap (λ r. r.disks) both) (ap (λ r. r.label) both));
        back = λ z. (
          union s.online (singleton d),
          refl,
          λ e. has-union s.online (singleton d) e ∙ ap (λ t. has s.online e || t) (has-singleton d e),
        );
        unchanged = λ nz. absurd (nz refl);
      }

    returning : Returning s area output d bytes (attach_outcome s area output d bytes)
    unfolding attach_outcome
    returning =
        refused_or_lem (attach_refusals s d bytes) s area output _ (Returning s area output d bytes)
        (λ ne. record {
          shown = λ z away are. absurd (ne z);
          foreign = λ away e n l rest writes small is apart. ne;
          back = λ z. absurd (ne z);
          unchanged = λ nz. refl;
        })
        done

    -- ---- by its number

    taken : first_of (attach_refusals s d bytes) ≡ 0
        → attach_outcome s area output d bytes ≡ outcome 0 0 back area output
    unfolding attach_outcome refused_or
    taken e = rw e

    refused_with : (number : ℕ) → number ≢ 0 → first_of (attach_refusals s d bytes) ≡ number
        → attach_outcome s area output d bytes ≡ outcome number 0 s area output
    unfolding attach_outcome refused_or
    refused_with number ne e = rw (e, ne_eqb number 0 ne)

  -- ---- of a sound state

  -- a number that is no disk's gives 8, whatever is shown
  pub no_such_disk_lem : Sound s → s.disks ≤ d → (bytes : List ℕ)
      → (attach_outcome s area output d bytes).answer.refusal ≡ 8
  unfolding attach_refusals reach_refusals first_of
  no_such_disk_lem fit unknown bytes =
      ap (λ o. o.answer.refusal)
      (refused_with bytes 8 (λ z. omega arith) (rw ((test_agrees s).1 fit, le-ltb _ _ unknown)))

  module _ (fit : Sound s) (known : d < s.disks) where
    in_reach : (bytes : List ℕ) → has s.online d ≡ true
        → attach_outcome s area output d bytes ≡ outcome 0 0 s area output
    unfolding attach_refusals reach_refusals first_of
    in_reach bytes m =
        taken bytes (rw ((test_agrees s).1 fit, lt-ltb _ _ known, m))
        ∙ ap (λ online. outcome 0 0 (with_online s online) area output) (with_member s.online d m)

    module _ (away : has s.online d ≡ false) (e n : ℕ) (l : Label) where
      -- what is left to refuse of a label that is read
      module _ (bytes : List ℕ) (len : ℕ) (read : reading label_form bytes ≡ found e n l len) where
        judged : first_of (attach_refusals s d bytes)
            ≡ first_of (
            (18, not (eqb e d && eqb n s.disks)) ∷
            (22, not (below l.dirty (regions s.blocks))) ∷
            (25, not (same_label l stored)) ∷
            [])
        unfolding attach_refusals reach_refusals shown_refusals bay_refusals first_of
        judged = rw ((test_agrees s).1 fit, lt-ltb _ _ known, away, read)

        pub own_taken : e ≡ d → n ≡ s.disks → l ≡ stored
            → attach_outcome s area output d bytes ≡ outcome 0 0 back area output
        unfolding first_of
        own_taken number disks same =
            taken bytes
            (judged
            ∙ rw (
              eq-eqb e d number,
              eq-eqb n _ disks,
              (compares_labels l stored).1 same,
              ap (λ m. m.dirty) same,
              (fit.labels.each d known).dirty,
            ))

      judging : (rest : List ℕ) → Writable label_form e n l → l.dirty < 256
          → Judging s area output d e n l (attach_outcome s area output d (encode label_form e n l ++ rest))
      unfolding first_of
      judging rest writes small =
          let bytes = encode label_form e n l ++ rest in
          let read = label_codec.written_reads e n l rest small writes in
          let numbers = judged bytes _ read in
          record {
            own = λ number disks same. ap (λ o. o.answer.refusal) (own_taken bytes _ read number disks same);
            place = λ apart. refused_with bytes 18 (λ z. omega arith) (numbers ∙ rw (elsewhere apart));
            region = λ number disks none. refused_with bytes 22 (λ z. omega arith)
                (numbers ∙ rw (eq-eqb e d number, eq-eqb n _ disks, none));
            differs = λ number disks some ne. refused_with bytes 25 (λ z. omega arith)
                (numbers ∙ rw (eq-eqb e d number, eq-eqb n _ disks, some, differs ne));
          }
        where
          elsewhere : (e ≢ d) ⊎ (n ≢ s.disks) → (eqb e d && eqb n s.disks) ≡ false
          elsewhere (inl ne) = rw (ne_eqb e d ne)
          elsewhere (inr ne) = rw (ne_eqb n s.disks ne) (and-false (eqb e d))

          differs : l ≢ stored → same_label l stored ≡ false
          differs ne = go (test (same_label l stored))
            where
              go : Test (same_label l stored) → same_label l stored ≡ false
              go (passes t) = absurd (ne ((compares_labels l stored).0 t))
              go (fails t) = t

    -- the stored label brings the disk back, whatever follows it
    pub stored_returns : (rest : List ℕ) → (attach_outcome s area output d (stored_label s d ++ rest)).answer.refusal
        ≡ 0
    stored_returns rest = go (test (has s.online d))
      where
        go : Test (has s.online d) → (attach_outcome s area output d (stored_label s d ++ rest)).answer.refusal ≡ 0
        go (passes m) = ap (λ o. o.answer.refusal) (in_reach (stored_label s d ++ rest) m)
        go (fails m) =
            let read = stored_read s fit d known rest in
            ap (λ o. o.answer.refusal) (own_taken m d s.disks stored _ _ read refl refl refl)

pub returns_shown : ReturnsShown
returns_shown = returning

pub labels_judged : LabelsJudged
labels_judged s area output d e n l rest fit known away writes small =
    judging s area output d fit known away e n l rest writes small

pub in_reach-unseen : InReachUnseen
in_reach-unseen s area output d bytes fit known m = in_reach s area output d fit known bytes m

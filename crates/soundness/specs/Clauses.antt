-- Soundness as the code tests it: the clauses of document 01's sentence one by one, each over all labels.
use Rattle.std.specs.Prelude.{Bool, true, cond, ◌&&◌, ◌||◌, List, ℕ, zero, suc, eqb, ltb}
use Rattle.sets.specs.Sets.{has, union, below}
use Rattle.label.specs.declared.Label.{Label}
use Rattle.label.specs.Bytes.{blank}
use Rattle.label.specs.Comparing.{same_label}
use Rattle.protocol.specs.declared.Power.{Power}
use Rattle.protocol.specs.declared.Power.TheVariants.{Stopped, Running}
use Rattle.protocol.specs.declared.State.{State}
use Rattle.protocol.specs.Geometry.{most_disks, regions}
use Rattle.protocol.specs.States.{label_at, current_of}
use Rattle.protocol.specs.Soundness.{in_range}
use Rattle.soundness.specs.declared.Survey.{Survey}

-- "a C or T that is not 0 names its own disk"
unfoldable pub own_disk : ℕ → ℕ → Bool
own_disk d set = eqb set 0 || has set d

-- What disk d's label adds to the survey of others: of a member "C = G and T = 0" is asked, of another disk below n
-- that its sets name it; "labels from n up are all zero". A member's sets need not be noted: they are G and none.
unfoldable pub add : ℕ → ℕ → ℕ → Label → Survey → Survey
add n g d l survey =
    cond (has g d)
    (record {
      fit = survey.fit && (eqb l.committed g && eqb l.tentative 0);
      named = survey.named;
      dirty = union survey.dirty l.dirty;
    })
    (cond (ltb d n)
    (record {
      fit = survey.fit && (own_disk d l.committed && own_disk d l.tentative);
      named = union survey.named (union l.committed l.tentative);
      dirty = union survey.dirty l.dirty;
    })
    (record { fit = survey.fit && same_label l blank; named = survey.named; dirty = survey.dirty }))

-- the labels of the first disks
unfoldable pub survey_below : ℕ → ℕ → List Label → ℕ → Survey
survey_below n g labels zero = record { fit = true; named = 0; dirty = 0 }
survey_below n g labels (suc d) = add n g d (label_at labels d) (survey_below n g labels d)

-- "when running, G is not empty"
unfoldable pub filled : Power → Bool
filled Stopped = true
filled (Running g) = ltb 0 g

-- "n and b are in range; R, G, every C and every T name only disks below n; .. dirty bits name existing regions"
unfoldable pub sound_given : State → Survey → Bool
sound_given s survey =
    in_range s.disks s.blocks
    && (below (union (union s.online (current_of s.power)) survey.named) s.disks
    && (below survey.dirty (regions s.blocks)
    && (survey.fit
    && filled s.power)))

unfoldable pub sound_by_clauses : State → Bool
sound_by_clauses s = sound_given s (survey_below s.disks (current_of s.power) s.labels most_disks)

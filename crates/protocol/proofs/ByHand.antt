-- H1 to H12, by computing. Assumes nothing.
use mathlib.Core.Path.{refl}
use Rattle.sets.specs.Sets.{has, intersection, difference, singleton, subset, below, lowest}
use Rattle.label.specs.Bytes.{map_byte, place_byte, little_endian, encode}
use Rattle.label.specs.Bytes.{label_length, from_little_endian, field_at, fields_of}
use Rattle.label.specs.Comparing.{same_label}
use Rattle.refusals.specs.Refusals.{first_of}
use Rattle.label.specs.Rules.{outside, wrong_set, wrong_sets}
use Rattle.label.specs.Reading.{empty_field, read_refusals, read_refusal, judged, reading}
use Rattle.protocol.specs.Geometry.{region_of, regions, area_size}
use Rattle.protocol.specs.Loops.{ascending, for_each, all_below, some_below, every, some}
use Rattle.protocol.specs.States.{source}
use Rattle.protocol.specs.Soundness.{in_range, fit_set, fit_label, fit_labels, fit_member, fit_power, sound}
use Rattle.protocol.specs.Stores.{apply, apply_all}
use Rattle.protocol.specs.Lists.{commits, resyncs, restart_list}
use Rattle.protocol.specs.Naming.{backs, proposes, candidate, candidates}
use Rattle.protocol.specs.Naming.{found_in, or_later, decide, named, found_by}
use Rattle.protocol.specs.Outcomes.{refused_or, carry_out}
use Rattle.protocol.specs.Calls.{zero_area, restart_refusals, restart_outcome}
use Rattle.protocol.specs.ByHand.{labelled, stopped_with, restarted, HandCasesHold}

-- one case more
also : {A B : Type 0} → A → B → A × B
also case cases = (case, cases)

pub hand_cases_lem : HandCasesHold
unfolding has intersection difference singleton subset below lowest map_byte place_byte little_endian encode
    label_length from_little_endian field_at fields_of first_of outside wrong_set wrong_sets empty_field read_refusals
    read_refusal judged reading region_of regions area_size ascending for_each all_below some_below every some source
    in_range fit_set fit_label same_label fit_labels fit_member fit_power sound apply apply_all commits resyncs
    restart_list backs proposes candidate candidates found_in or_later decide named refused_or carry_out zero_area
    found_by restart_refusals restart_outcome labelled stopped_with restarted
hand_cases_lem =
    also (refl, refl) (also (refl, refl) (also (refl, refl) (also (refl, refl)
    (also (refl, refl) (also (refl, refl) (also (refl, refl) (also (refl, refl)
    (also (refl, refl) (also (refl, refl) (also (refl, refl) (also (refl, refl) tt)))))))))))

-- The history in which a lost disk's block is altered, by computing. Assumes nothing.
use mathlib.Core.Path.{refl, ap}
use native.Mathlib.Omega.{arith}
use lib.ListN.{get_or}
use Rattle.sets.specs.Sets.{has, union, intersection, difference, singleton, all, subset, below, lowest}
use Rattle.label.specs.Bytes.{map_byte, place_byte, little_endian, encode}
use Rattle.label.specs.Bytes.{label_length, from_little_endian, field_at, fields_of}
use Rattle.label.specs.Comparing.{same_label}
use Rattle.label.specs.Rules.{outside, wrong_set, wrong_sets}
use Rattle.label.specs.Reading.{empty_field, read_refusals, read_refusal, judged, reading}
use Rattle.buffers.specs.Buffers.{splice}
use Rattle.refusals.specs.Refusals.{first_of}
use Rattle.protocol.specs.Geometry.{region_of, regions, area_size, place, block, with_block}
use Rattle.protocol.specs.Loops.{ascending, for_each, all_below, some_below, every, some}
use Rattle.protocol.specs.States.{source}
use Rattle.protocol.specs.Soundness.{in_range, fit_set, fit_label, fit_labels, fit_member, fit_power, sound}
use Rattle.protocol.specs.Stores.{apply, apply_all}
use Rattle.protocol.specs.Lists.{commits, resyncs, restart_list}
use Rattle.protocol.specs.Naming.{backs, proposes, candidate, candidates}
use Rattle.protocol.specs.Naming.{found_in, or_later, decide, named, found_by}
use Rattle.protocol.specs.Bays.{bay_refusals}
use Rattle.protocol.specs.Outcomes.{refused_or, carry_out}
use Rattle.protocol.specs.Calls.{format_refusals, formatted, zero_area, format_outcome}
use Rattle.protocol.specs.Calls.{reach_refusals, shown_refusals, attach_refusals}
use Rattle.protocol.specs.Calls.{detach_outcome, attach_outcome, power_off_outcome, restart_refusals, restart_outcome}
use Rattle.protocol.specs.History.{perform, ran}
use Rattle.protocol.specs.Reference.{carried_by, after_writes, started, recorded, recorded_all}
use Rattle.protocol.specs.AlteredBlocks.{Misled}

pub misled : Misled
unfolding has union intersection difference singleton all subset below lowest map_byte place_byte little_endian encode
    label_length from_little_endian field_at fields_of same_label outside wrong_set wrong_sets empty_field
    read_refusals read_refusal judged reading splice first_of region_of regions area_size place block with_block
    ascending for_each all_below some_below every some source in_range fit_set fit_label fit_labels fit_member
    fit_power sound apply apply_all commits resyncs restart_list backs proposes candidate candidates found_in or_later
    decide named found_by bay_refusals refused_or carry_out format_refusals formatted zero_area format_outcome
    reach_refusals shown_refusals attach_refusals detach_outcome attach_outcome power_off_outcome restart_refusals
    restart_outcome perform ran carried_by after_writes started recorded recorded_all
misled = record {
  finished = refl;
  names = (refl, refl);
  wrong = λ e. omega (arith, ap (λ bytes. get_or bytes 0 0) e);
}

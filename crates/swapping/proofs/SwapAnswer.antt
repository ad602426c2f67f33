-- A swap's answer: the move, where the disk is current, and behind it the blank disk, where all stores were made.
-- Assumes nothing.
use mathlib.Core.Path.{◌≡◌, refl, sym, ap₂, ◌∙◌}
use mathlib.Core.Logic.{◌≢◌}
use mathlib.Core.Bool.{true, false}
use mathlib.Core.List.{List, []}
use Prim.Native.Nat.{ℕ}
use native.Mathlib.Omega.{arith}
use Rattle.sets.specs.Sets.{has}
use Rattle.protocol.specs.declared.Answer.{Answer}
use Rattle.protocol.specs.declared.Power.{Power}
use Rattle.protocol.specs.declared.State.{State}
use Rattle.protocol.specs.Geometry.{with_zero_disk}
use Rattle.protocol.specs.States.{current_of, live}
use Rattle.protocol.specs.Stores.{Store, apply_all}
use Rattle.protocol.specs.Lists.{move, swap_list}
use Rattle.protocol.specs.Outcomes.{Outcome, yields, ended, runs_with, carry_out}
use Rattle.protocol.specs.Calls.{swaps_in}
use Rattle.protocol.proofs.Outcomes.{is_whole, went_on, left_off}
use Rattle.protocol.proofs.Swaps.{member_list, member_power, spare_list, spare_power}
use Rattle.swapping.specs.Steps.{moved_off, with_blank_label}

module _ (s : State) (d budget : ℕ) (area output : List ℕ) where
  -- a list of stores, and then this power condition
  abbrev carried : List Store → Power → Outcome
  carried stores power = carry_out stores budget s area output (λ count w. ended 0 count s w power output)

  abbrev listed : Outcome
  listed = carry_out (swap_list s d) budget s area output (moved_off s d output)

  pub member_moved : has (current_of s.power) d ≡ true → {o : Outcome}
      → o ≡ carry_out (move s.disks (live s)) budget s area output (runs_with (live s) s output)
      → o ≡ listed
  member_moved m e = e ∙ ap₂ carried (sym (member_list s d m)) (sym (member_power s d m))

  pub spare_stays : has (current_of s.power) d ≡ false
      → yields (record { refusal = 0; stores = 0; state = s }) area output ≡ listed
  unfolding apply_all
  spare_stays m =
      sym (is_whole [] budget s area output (λ count w. ended 0 count s w s.power output) (omega arith))
      ∙ ap₂ carried (sym (spare_list s d m)) (sym (spare_power s d m))

  -- ---- the blank disk, where all stores were made

  module _ (r : Answer) (moved : yields r area output ≡ listed) where
    abbrev answered : Outcome
    answered = carry_out (swap_list s d) budget s area output (swaps_in s d output)

    abbrev blanked : Outcome → Outcome
    blanked o = yields (with_blank_label o.answer d) (with_zero_disk s.blocks o.area d) o.output

    pub swapped : r.refusal ≡ 0 → blanked (yields r area output) ≡ answered
    unfolding swaps_in
    swapped = went_on (swap_list s d) budget s area output (moved_off s d output) blanked (λ count w. refl) moved

    pub old_disk_in : r.refusal ≢ 0 → yields r area output ≡ answered
    unfolding swaps_in
    old_disk_in = left_off (swap_list s d) budget s area output (moved_off s d output) blanked (λ count w. refl) moved

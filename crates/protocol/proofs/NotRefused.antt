-- What is known where a call is not refused. Assumes nothing.
use mathlib.Core.Path.{◌≡◌, refl}
use mathlib.Core.Bool.{true, false, not}
use mathlib.Core.List.{List}
use Prim.Native.Nat.{ℕ, ◌<◌}
use lib.Dec.{eqb, lit<}
use lib.ListN.{length}
use borrow.Author.Tests.{eqb-true, ltb-true, not-false}
use Rattle.sets.specs.Sets.{has}
use Rattle.sets.proofs.Tests.{clash, positive}
use Rattle.refusals.specs.Refusals.{first_of}
use Rattle.refusals.proofs.Order.{none_by}
use Rattle.protocol.specs.declared.Power.{Power}
use Rattle.protocol.specs.declared.Power.TheVariants.{Stopped, Running}
use Rattle.protocol.specs.declared.State.{State}
use Rattle.protocol.specs.Geometry.{block_size, area_size}
use Rattle.protocol.specs.States.{is_running, current_of, live}
use Rattle.protocol.specs.Soundness.{Sound, sound}
use Rattle.protocol.specs.Naming.{Stage, Found, none, one, several, Candidate, found_number, the_set, found_by}
use Rattle.protocol.specs.Calls.{wrong_area, block_refusals, join_refusals, swap_refusals}
use Rattle.protocol.specs.Calls.{clean_refusals, restart_refusals, reach_refusals, attach_refusals}
use Rattle.protocol.specs.Diagnosis.{diagnose_refusals}
use Rattle.protocol.proofs.Loops.{nil, cons}
use Rattle.protocol.proofs.Refusals.{none_in_a_row}
use Rattle.protocol.proofs.Soundness.{test_agrees}
use Rattle.protocol.proofs.Naming.{found_names}
use Rattle.protocol.proofs.Backing.{found_candidate}

sound_if : (s : State) → not (sound s) ≡ false → Sound s
sound_if s e = (test_agrees s).0 (not-false _ e)

abbrev RightArea : State → List ℕ → Type 0
RightArea s area = length area ≡ area_size s.disks s.blocks

area_if : (s : State) (area : List ℕ) → wrong_area s.disks s.blocks area ≡ false → RightArea s area
area_if s area e = eqb-true _ _ (not-false _ e)

-- it runs, with what is its current set
abbrev pub Runs : Power → Type 0
Runs p = p ≡ Running (current_of p)

runs_if : (p : Power) → not (is_running p) ≡ false → Runs p
runs_if Stopped e = clash refl e
runs_if (Running g) e = refl

pub record BlockPassed (s : State) (area : List ℕ) (k : ℕ) (bytes : List ℕ) : Type 0 where
  pub fit : Sound s
  pub size : RightArea s area
  pub full : length bytes ≡ block_size
  pub runs : Runs s.power
  pub known : k < s.blocks
  pub some : 0 < live s

pub block_passed : (s : State) (area : List ℕ) (k : ℕ) (bytes : List ℕ) → first_of (block_refusals s area k bytes) ≡ 0
    → BlockPassed s area k bytes
unfolding block_refusals
block_passed s area k bytes e =
    let no = none_by (block_refusals s area k bytes) refl e in
    record {
      fit = sound_if s (no 1);
      size = area_if s area (no 2);
      full = eqb-true _ _ (not-false _ (no 3));
      runs = runs_if s.power (no 6);
      known = ltb-true _ _ (not-false _ (no 9));
      some = positive (live s) (no 12);
    }

pub record JoinPassed (s : State) (area : List ℕ) (d : ℕ) : Type 0 where
  pub fit : Sound s
  pub size : RightArea s area
  pub runs : Runs s.power
  pub known : d < s.disks
  pub out : has (current_of s.power) d ≡ false
  pub some : 0 < live s

pub join_passed : (s : State) (area : List ℕ) (d : ℕ) → first_of (join_refusals s area d) ≡ 0 → JoinPassed s area d
unfolding join_refusals
join_passed s area d e =
    let no = none_by (join_refusals s area d) refl e in
    record {
      fit = sound_if s (no 1);
      size = area_if s area (no 2);
      runs = runs_if s.power (no 6);
      known = ltb-true _ _ (not-false _ (no 8));
      out = no 11;
      some = positive (live s) (no 12);
    }

pub record SwapPassed (s : State) (area : List ℕ) (d : ℕ) : Type 0 where
  pub fit : Sound s
  pub size : RightArea s area
  pub runs : Runs s.power
  pub known : d < s.disks
  pub away : has s.online d ≡ false
  -- where it has to move, there is a disk to move to
  pub some : has (current_of s.power) d ≡ true → 0 < live s

pub swap_passed : (s : State) (area : List ℕ) (d : ℕ) → first_of (swap_refusals s area d) ≡ 0 → SwapPassed s area d
unfolding swap_refusals
swap_passed s area d e =
    let no = none_by (swap_refusals s area d) refl e in
    record {
      fit = sound_if s (no 1);
      size = area_if s area (no 2);
      runs = runs_if s.power (no 6);
      known = ltb-true _ _ (not-false _ (no 8));
      away = no 24;
      some = λ m. positive (live s) (let empty = no 12 in cc);
    }

pub record CleanPassed (s : State) : Type 0 where
  pub fit : Sound s
  pub runs : Runs s.power

pub clean_passed : (s : State) → first_of (clean_refusals s) ≡ 0 → CleanPassed s
unfolding clean_refusals
clean_passed s e =
    let no = none_by (clean_refusals s) refl e in
    record { fit = sound_if s (no 1); runs = runs_if s.power (no 6) }

names_one_if : (f : Found) → eqb (found_number f) 13 ≡ false → eqb (found_number f) 14 ≡ false → f ≡ one (the_set f)
names_one_if none p q = clash refl p
names_one_if (one x) p q = refl
names_one_if several p q = clash refl q

pub record RestartPassed (s : State) (area : List ℕ) : Type 0 where
  pub fit : Sound s
  pub size : RightArea s area
  -- the set that it names is a candidate of some stage
  pub is_candidate : (stage : Stage) × Candidate stage s.online s.labels (the_set (found_by s))

pub restart_passed : (s : State) (area : List ℕ) → first_of (restart_refusals s area) ≡ 0 → RestartPassed s area
unfolding restart_refusals
restart_passed s area e =
    let no = none_by (restart_refusals s area) refl e in
    let fit = sound_if s (no 1) in
    record {
      fit = fit;
      size = area_if s area (no 2);
      is_candidate = found_candidate (rw (names_one_if (found_by s) (no 13) (no 14)) at (found_names s fit));
    }

pub record ReachPassed (s : State) (d : ℕ) : Type 0 where
  pub fit : Sound s
  pub known : d < s.disks

pub reach_passed : (s : State) (d : ℕ) → first_of (reach_refusals s d) ≡ 0 → ReachPassed s d
unfolding reach_refusals
reach_passed s d e =
    let no = none_by (reach_refusals s d) refl e in
    record { fit = sound_if s (no 1); known = ltb-true _ _ (not-false _ (no 8)) }

-- the same of a return, whatever the disk shows
pub attach_passed : (s : State) (d : ℕ) (bytes : List ℕ) → first_of (attach_refusals s d bytes) ≡ 0 → ReachPassed s d
unfolding attach_refusals reach_refusals
attach_passed s d bytes e =
    reach_passed s d (none_in_a_row _ (cons (λ z. lit< tt) (cons (λ z. lit< tt) nil)) e).0

-- and of a diagnosis
pub diagnose_passed : (s : State) (stage d : ℕ) → first_of (diagnose_refusals s stage d) ≡ 0 → ReachPassed s d
unfolding diagnose_refusals
diagnose_passed s stage d e =
    let no = none_by (diagnose_refusals s stage d) refl e in
    record { fit = sound_if s (no 1); known = ltb-true _ _ (not-false _ (no 8)) }

-- What is proved of lose and cut where they have no effect, and of a disk that comes back: document 01, "Losing a lost
-- disk, returning one in reach and cutting a stopped cabinet are done, with no effect. A returned disk that is in G is
-- current again."
use Rattle.std.specs.Prelude.{◌≡◌, true, false, List, ◌++◌, ℕ, ◌<◌}
use Rattle.sets.specs.Sets.{has}
use Rattle.protocol.specs.declared.Power.TheVariants.{Stopped, Running}
use Rattle.protocol.specs.declared.State.{State}
use Rattle.protocol.specs.States.{live}
use Rattle.protocol.specs.Bays.{stored_label}
use Rattle.protocol.specs.Soundness.{Sound}
use Rattle.protocol.specs.Outcomes.{outcome}
use Rattle.protocol.specs.Calls.{detach_outcome, attach_outcome, power_off_outcome}

-- "Losing a lost disk"
abbrev pub LostStays : Type 0
LostStays = (s : State) (area output : List ℕ) (d : ℕ) → Sound s → d < s.disks → has s.online d ≡ false
    → detach_outcome s area output d ≡ outcome 0 0 s area output

-- "cutting a stopped cabinet"
abbrev pub StoppedStays : Type 0
StoppedStays = (s : State) (area output : List ℕ) → Sound s → s.power ≡ Stopped
    → power_off_outcome s area output ≡ outcome 0 0 s area output

-- "A returned disk that is in G is current again": whatever it showed, once the return is done, L has it, and G is as
-- it was.
abbrev pub CurrentAgain : Type 0
CurrentAgain = (s : State) (area output : List ℕ) (d : ℕ) (bytes : List ℕ) (g : ℕ)
    → s.power ≡ Running g → has g d ≡ true → (attach_outcome s area output d bytes).answer.refusal ≡ 0
    → let after = (attach_outcome s area output d bytes).answer.state in
    (after.power ≡ Running g) × (has (live after) d ≡ true)

-- A disk in reach that is lost, and returns and shows its stored label, whatever follows it, leaves the cabinet as it
-- was.
abbrev pub LossUndone : Type 0
LossUndone = (s : State) (area output : List ℕ) (d : ℕ) (rest : List ℕ)
    → Sound s → d < s.disks → has s.online d ≡ true
    → let lost = detach_outcome s area output d in
    (lost.answer.refusal ≡ 0) × (has lost.answer.state.online d ≡ false)
    × (attach_outcome lost.answer.state lost.area lost.output d (stored_label s d ++ rest)
    ≡ outcome 0 0 s area output)

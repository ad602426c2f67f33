-- A state and what a call yields, as programs in C and Rust hold them.
use Rattle.std.specs.Prelude.{◌≡◌, cond, List, ℕ, eqb}
use Rattle.protocol.specs.declared.Power.{Power}
use Rattle.protocol.specs.declared.Power.TheVariants.{Stopped, Running}
use Rattle.protocol.specs.declared.State.{State}
use Rattle.protocol.specs.declared.Answer.{Answer}
use Rattle.protocol.specs.declared.Diagnosis.{Diagnosis}
use Rattle.protocol.specs.States.{current_of}
use Rattle.protocol.specs.Soundness.{Sound}
use Rattle.protocol.specs.Outcomes.{Outcome}
use Rattle.protocol.specs.Diagnosis.{reason_number, reason_disk, diagnosis, diagnose_outcome}
use Rattle.flat.specs.declared.FlatState.{FlatState}
use Rattle.flat.specs.declared.FlatAnswer.{FlatAnswer}
use Rattle.flat.specs.declared.FlatDiagnosis.{FlatDiagnosis}

-- "either running with a current set G, or stopped with none": none is written 0, as the cabinet program prints it
unfoldable pub power_of : ℕ → Power
power_of g = cond (eqb g 0) Stopped (Running g)

-- the state that a flat one stands for
unfoldable pub opened : FlatState → State
opened f = record {
  disks = f.disks;
  blocks = f.blocks;
  labels = f.labels;
  online = f.online;
  power = power_of f.current;
}

unfoldable pub flat_state : State → FlatState
flat_state s = record {
  labels = s.labels;
  disks = s.disks;
  blocks = s.blocks;
  online = s.online;
  current = current_of s.power;
}

unfoldable pub flat_answer : Answer → FlatAnswer
flat_answer a = record { state = flat_state a.state; stores = a.stores; refusal = a.refusal }

unfoldable pub flat_diagnosis : Diagnosis → FlatDiagnosis
flat_diagnosis d = record {
  disk = reason_disk d.reason;
  refusal = d.refusal;
  reason = reason_number d.reason;
  set = d.set;
}

-- what a program outside sees of a call
pub record FlatOutcome : Type 0 where
  pub answer : FlatAnswer
  pub area : List ℕ
  pub output : List ℕ

unfoldable pub flat_outcome : Outcome → FlatOutcome
flat_outcome o = record { answer = flat_answer o.answer; area = o.area; output = o.output }

-- What a program outside has after a diagnosis, its number, no stores and the state that it gave, is what the list's
-- call yields.
abbrev pub DiagnosisIsCall : Type 0
DiagnosisIsCall = (f : FlatState) (area output : List ℕ) (stage d : ℕ)
    → ◌≡◌ {A = FlatOutcome} (record {
      answer = record { state = f; stores = 0; refusal = (flat_diagnosis (diagnosis (opened f) stage d)).refusal };
      area = area;
      output = output;
    }) (flat_outcome (diagnose_outcome (opened f) area output stage d))

-- ---- one way of writing each

-- Every flat state stands for one state, and is that state's writing: what a call leaves as it was, it gives back as
-- it was.
abbrev pub OpenedIsWritten : Type 0
OpenedIsWritten = (f : FlatState) → flat_state (opened f) ≡ f

-- Every sound state is written as one that stands for it. (A running one with no current disk has no writing, and is
-- not sound.)
abbrev pub SoundIsWritten : Type 0
SoundIsWritten = (s : State) → Sound s → opened (flat_state s) ≡ s

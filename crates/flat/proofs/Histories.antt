-- The exported calls, one after the other, are a session. Assumes nothing.
use mathlib.Core.Path.{◌≡◌, sym, ap, ◌∙◌}
use mathlib.Core.List.{List, [], ◌∷◌, map-append}
use Prim.Native.Nat.{ℕ}
use Rattle.protocol.specs.Soundness.{Sound, Proper}
use Rattle.protocol.specs.Outcomes.{Outcome, yields}
use Rattle.protocol.specs.Calls.{format_outcome}
use Rattle.protocol.specs.History.{Cabinet, outcome_of}
use Rattle.protocol.proofs.Invariant.{invariant}
use Rattle.protocol.proofs.SoundnessKept.{soundness_kept}
use Rattle.cabinet.specs.Sessions.{Session, calls_of}
use Rattle.cabinet.specs.Sessions as cabinet
use Rattle.cabinet.proofs.Sessions.{sessions_are_histories, sessions_meet_demand_3}
use Rattle.flat.specs.declared.FlatState.{FlatState}
use Rattle.flat.specs.Flat.{opened, flat_answer, FlatOutcome, flat_outcome}
use Rattle.flat.specs.Histories.{FlatExchange, FlatSession, begun, followed, opened_answer, opened_exchange}
use Rattle.flat.specs.Histories.{opened_calls, LibraryMeetsDemand3}
use Rattle.flat.proofs.Boundary.{sound_is_written}

-- what a program outside saw of a call that left a sound state, opened, is what the call yielded
opened-yields : (o : Outcome) → Sound o.answer.state → {y : FlatOutcome} → y ≡ flat_outcome o
    → yields (opened_answer y.answer) y.area y.output ≡ o
unfolding flat_outcome flat_answer
opened-yields o fit e = rw (e, sound_is_written o.answer.state fit)

module _ {n b : ℕ} {lent : List ℕ} where
  -- the state that a session leaves is sound
  left_proper : {calls : List cabinet.Exchange} {c : Cabinet}
      → Session n b lent calls c.state c.area → Proper c.state
  left_proper {calls} session =
      let history = sessions_are_histories n b lent calls _ _ session in
      let kept = (invariant n b lent history.done (calls_of calls)).proper in
      rw (ap (λ w. w.state) history.cabinet) kept

  is_session : {calls : List FlatExchange} {f : FlatState} {area : List ℕ} → FlatSession n b lent calls f area
      → Session n b lent (opened_calls calls) (opened f) area
  unfolding flat_outcome flat_answer
  is_session (begun {area} {r} p z) =
      let fit : (o : List ℕ) → Sound (format_outcome lent o n b).answer.state =
      λ o. (soundness_kept.by_format lent o n b (sym (ap (λ y. y.answer.refusal) (p o)) ∙ z)).fit in
      cabinet.begun {r = opened_answer r} (λ o. opened-yields (format_outcome lent o n b) (fit o) (p o)) z
  is_session (followed {calls} {f} {area} session x r) =
      let earlier = is_session session in
      let c : Cabinet = record { state = opened f; area = area } in
      let fit = (soundness_kept.by_calls x.given c (left_proper {c = c} earlier)).fit in
      rw (map-append opened_exchange calls (x ∷ []))
      (cabinet.followed earlier (opened_exchange x) (opened-yields (outcome_of x.given c) fit r))

pub library_meets_demand_3 : LibraryMeetsDemand3
library_meets_demand_3 n b lent calls f area session =
    let opened-session = is_session session in
    record { session = opened-session; keeps = sessions_meet_demand_3 n b lent _ _ _ opened-session }

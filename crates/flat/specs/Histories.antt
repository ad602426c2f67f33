-- A history of the exported calls, each with the flat state and the disk area that the last one left: what is proved of
-- every session holds of what programs in C and Rust see.
use Rattle.std.specs.Prelude.{◌≡◌, List, [], ◌∷◌, ◌++◌, map, ℕ}
use Rattle.protocol.specs.declared.Answer.{Answer}
use Rattle.protocol.specs.Calls.{format_outcome}
use Rattle.protocol.specs.History.{Step, outcome_of}
use Rattle.cabinet.specs.Sessions.{Exchange, Session, MeetsDemand3}
use Rattle.flat.specs.declared.FlatState.{FlatState}
use Rattle.flat.specs.declared.FlatAnswer.{FlatAnswer}
use Rattle.flat.specs.Flat.{opened, FlatOutcome, flat_outcome}

-- ---- the calls of a program outside

-- One call: what it was given beside the state and the disk area, and what it yielded.
pub record FlatExchange : Type 0 where
  pub given : Step
  pub yielded : FlatOutcome

-- It was given this state and area, and has kept its promise: it yielded what the protocol's call does. That the
-- exported function of each call does so is the `ensures` of `library::apply`, which takes them as they stand.
abbrev pub FlatReturned : FlatState → List ℕ → FlatExchange → Type 0
FlatReturned f area x = x.yielded ≡ flat_outcome (outcome_of x.given (record { state = opened f; area = area }))

-- A format was lent this area, gave this answer and left that area; of the output, which it is not lent, it says that
-- for every content. This is the `ensures` of `library::format`.
abbrev pub FlatFormatted : ℕ → ℕ → List ℕ → FlatAnswer → List ℕ → Type 0
FlatFormatted n b lent r area =
    (o : List ℕ) → record { answer = r; area = area; output = o } ≡ flat_outcome (format_outcome lent o n b)

-- Calls in order, from a format that gave 0, and the state and the area after the last of them.
pub data FlatSession (n b : ℕ) (lent : List ℕ) : List FlatExchange → FlatState → List ℕ → Type 0 where
  begun : {area : List ℕ} {r : FlatAnswer}
      → ((o : List ℕ) → record { answer = r; area = area; output = o } ≡ flat_outcome (format_outcome lent o n b))
      → r.refusal ≡ 0 → FlatSession n b lent [] r.state area
  followed : {calls : List FlatExchange} {f : FlatState} {area : List ℕ} → FlatSession n b lent calls f area
      → (x : FlatExchange) → FlatReturned f area x
      → FlatSession n b lent (calls ++ (x ∷ [])) x.yielded.answer.state x.yielded.area

-- ---- the same with the states that flat ones stand for

abbrev pub opened_answer : FlatAnswer → Answer
opened_answer r = record { refusal = r.refusal; stores = r.stores; state = opened r.state }

abbrev pub opened_exchange : FlatExchange → Exchange
opened_exchange x = record {
  given = x.given;
  answer = opened_answer x.yielded.answer;
  area = x.yielded.area;
  output = x.yielded.output;
}

abbrev pub opened_calls : List FlatExchange → List Exchange
opened_calls calls = map opened_exchange calls

-- ---- the claim

-- They are a session, from which each call was handed the state that its flat one stands for; and of their numbers,
-- counts, areas and outputs demand 3 holds, reads are right, writes count as they should, and no call gives 1.
pub record LibraryKeeps (n b : ℕ) (lent : List ℕ) (calls : List FlatExchange) (f : FlatState) (area : List ℕ)
    : Type 0 where
  pub session : Session n b lent (opened_calls calls) (opened f) area
  pub keeps : MeetsDemand3 n b lent (opened_calls calls)

abbrev pub LibraryMeetsDemand3 : Type 0
LibraryMeetsDemand3 =
    (n b : ℕ) (lent : List ℕ) (calls : List FlatExchange) (f : FlatState) (area : List ℕ)
    → FlatSession n b lent calls f area → LibraryKeeps n b lent calls f area

-- What these functions return, one call after the other, is a history of the protocol: demand 3 is then a
-- statement about what they return.
use Rattle.std.specs.Prelude.{◌≡◌, ◌≢◌, true, List, [], ◌∷◌, ◌++◌, map, ℕ, ◌≤◌, ◌<◌, length}
use Rattle.sets.specs.Sets.{has, all}
use Rattle.protocol.specs.declared.Answer.{Answer}
use Rattle.protocol.specs.declared.Call.TheVariants.{Read, Write, Restart}
use Rattle.protocol.specs.declared.Power.TheVariants.{Stopped, Running}
use Rattle.protocol.specs.declared.State.{State}
use Rattle.protocol.specs.Geometry.{block}
use Rattle.protocol.specs.Lists.{restart_list}
use Rattle.protocol.specs.Naming.{one, found_by}
use Rattle.protocol.specs.Outcomes.{Outcome, yields}
use Rattle.protocol.specs.Calls.{format_outcome}
use Rattle.protocol.specs.History.{Step, outcome_of}
use Rattle.protocol.specs.Reference.{Contents, replaced, contents_after}
use Rattle.protocol.specs.Demand3.{cabinet_after}
use Rattle.protocol.specs.Claims.{source_store}

-- ---- sessions: calls one after the other

-- One call as its caller sees it: what it was given beside the state and the disk area, its answer, and what the
-- two buffers hold afterwards.
pub record Exchange : Type 0 where
  pub given : Step
  pub answer : Answer
  pub area : List ℕ
  pub output : List ℕ

-- all that it yielded
abbrev pub yielded : Exchange → Outcome
yielded x = yields x.answer x.area x.output

-- A call was given this state and area, and has kept its promise: it yielded what the protocol's call does. This is the
-- `ensures` of `apply`; that of each other function of src/ is the same of its own call, as `perform` says, for
-- whatever output it is not lent, and the proof of `apply` takes them as they stand. A diagnosis yields no answer: its
-- caller has its number, no stores and the state that it gave, which by `ChangesNothing` is what the list's call
-- yields.
abbrev pub Returned : State → List ℕ → Exchange → Type 0
Returned s area x = yielded x ≡ outcome_of x.given (record { state = s; area = area })

-- A fresh call was lent this area, gave this answer and left that area, whatever the output, which it is not lent. This
-- is the `ensures` of `format`.
abbrev pub Formatted : ℕ → ℕ → List ℕ → Answer → List ℕ → Type 0
Formatted n b lent r area = (o : List ℕ) → yields r area o ≡ format_outcome lent o n b

-- "It starts from what one done fresh call gave. Each call gets the state and the disk area that the last one returned
-- or left": calls in order, and the state and the area after the last of them.
pub data Session (n b : ℕ) (lent : List ℕ) : List Exchange → State → List ℕ → Type 0 where
  begun : {area : List ℕ} {r : Answer} → ((o : List ℕ) → yields r area o ≡ format_outcome lent o n b)
      → r.refusal ≡ 0 → Session n b lent [] r.state area
  followed : {calls : List Exchange} {s : State} {area : List ℕ} → Session n b lent calls s area
      → (x : Exchange) → Returned s area x → Session n b lent (calls ++ (x ∷ [])) x.answer.state x.area

-- ---- a call of a session

pub record ExchangeIn (calls : List Exchange) : Type 0 where
  pub before : List Exchange
  pub this : Exchange
  pub after : List Exchange
  pub here : calls ≡ before ++ (this ∷ after)

-- the protocol's list of the calls: nothing that they returned is in it
abbrev pub calls_of : List Exchange → List Step
calls_of calls = map (λ x. x.given) calls

-- what the calls before it left, which it was given
pub record Handed (n b : ℕ) (lent : List ℕ) (before : List Exchange) (this : Exchange) : Type 0 where
  pub state : State
  pub area : List ℕ
  pub session : Session n b lent before state area
  pub returned : Returned state area this

-- what the book, the reference contents, has before it and after it
abbrev pub contents_before : (n b : ℕ) {calls : List Exchange} → ExchangeIn calls → Contents
contents_before n b c = contents_after n b (calls_of c.before)

abbrev pub contents_at : (n b : ℕ) {calls : List Exchange} → ExchangeIn calls → Contents
contents_at n b c = contents_after n b (calls_of c.before ++ (c.this.given ∷ []))

-- ---- a session is a history of the protocol

pub record IsHistory (n b : ℕ) (lent : List ℕ) (calls : List Exchange) (s : State) (area : List ℕ) : Type 0 where
  -- the list begins as Demand3Holds asks,
  pub done : (format_outcome lent [] n b).answer.refusal ≡ 0
  -- leaves what the session left,
  pub cabinet : record { state = s; area = area } ≡ cabinet_after n b lent (calls_of calls)
  -- and each of its calls yields what the function returned
  pub results : (c : ExchangeIn calls)
      → yielded c.this ≡ outcome_of c.this.given (cabinet_after n b lent (calls_of c.before))

abbrev pub SessionsAreHistories : Type 0
SessionsAreHistories =
    (n b : ℕ) (lent : List ℕ) (calls : List Exchange) (s : State) (area : List ℕ)
    → Session n b lent calls s area → IsHistory n b lent calls s area

-- ---- demand 3, of what the functions returned

pub record MeetsDemand3 (n b : ℕ) (lent : List ℕ) (calls : List Exchange) : Type 0 where
  -- "No restart in the list gives 14."
  pub one_set : (c : ExchangeIn calls) (budget : ℕ) → c.this.given.call ≡ Restart budget
      → c.this.answer.refusal ≢ 14
  -- "After each finished restart, for each disk d of that G and each k below b, block k of d in the disk area
  -- equals block k of the book."
  pub right : (c : ExchangeIn calls) (budget : ℕ) → c.this.given.call ≡ Restart budget → c.this.answer.refusal ≡ 0
      → (g : ℕ) × (c.this.answer.state.power ≡ Running g)
      × ((d k : ℕ) → has g d ≡ true → k < b → block b c.this.area d k ≡ contents_at n b c k)
  -- "Each one of a stopped cabinet with all n disks in R finds a set, and gives 0 when its supply is at least the
  -- length of its list of stores."
  pub finds : (c : ExchangeIn calls) (budget : ℕ) → c.this.given.call ≡ Restart budget
      → (v : Handed n b lent c.before c.this) → v.state.power ≡ Stopped → v.state.online ≡ all n
      → (g : ℕ) × (found_by v.state ≡ one g)
      × (length (restart_list v.state g) ≤ budget → c.this.answer.refusal ≡ 0)
  -- every call was handed a state and an area, so what is said of those is said of each call
  pub each_handed : (c : ExchangeIn calls) → Handed n b lent c.before c.this
  -- Beside demand 3, what callers rely on: a read that gave 0 filled its output with the block of the book,
  pub reads_right : (c : ExchangeIn calls) (k budget : ℕ) → c.this.given.call ≡ Read k budget
      → c.this.answer.refusal ≡ 0
      → c.this.output ≡ contents_at n b c k
  -- "a write that gives 0 counts", one that is refused does not,
  pub acknowledged : (c : ExchangeIn calls) (k budget : ℕ) → c.this.given.call ≡ Write k budget
      → c.this.answer.refusal ≡ 0
      → contents_at n b c ≡ replaced k c.this.given.bytes (contents_before n b c)
  pub refused : (c : ExchangeIn calls) (k budget : ℕ) → c.this.given.call ≡ Write k budget
      → c.this.answer.refusal ≢ 0 → c.this.answer.refusal ≢ 15 → contents_at n b c ≡ contents_before n b c
  -- one that the power cut (15) counts if the stores it reports reach that on the source, and else does not,
  pub cut_before : (c : ExchangeIn calls) (k budget : ℕ) → c.this.given.call ≡ Write k budget
      → (v : Handed n b lent c.before c.this) → c.this.answer.refusal ≡ 15
      → c.this.answer.stores < source_store v.state k → contents_at n b c ≡ contents_before n b c
  pub cut_behind : (c : ExchangeIn calls) (k budget : ℕ) → c.this.given.call ≡ Write k budget
      → (v : Handed n b lent c.before c.this) → c.this.answer.refusal ≡ 15
      → source_store v.state k ≤ c.this.answer.stores
      → contents_at n b c ≡ replaced k c.this.given.bytes (contents_before n b c)
  -- and no call gave 1.
  pub stays_sound : (c : ExchangeIn calls) → c.this.answer.refusal ≢ 1

abbrev pub SessionsMeetDemand3 : Type 0
SessionsMeetDemand3 =
    (n b : ℕ) (lent : List ℕ) (calls : List Exchange) (s : State) (area : List ℕ)
    → Session n b lent calls s area → MeetsDemand3 n b lent calls

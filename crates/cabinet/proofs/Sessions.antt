-- From the calls' promises to demand 3. Assumes nothing.
use mathlib.Core.Path.{◌≡◌, refl, sym, ap, ◌∙◌}
use mathlib.Core.Logic.{◌≢◌, ◌⊎◌, inl, inr}
use mathlib.Core.List.{List, [], ◌∷◌, ◌++◌, map-append, nil≢cons, head-eq_of_cons-eq, tail-eq_of_cons-eq}
use Prim.Native.Nat.{ℕ}
use Rattle.protocol.specs.declared.Call.TheVariants.{Write}
use Rattle.protocol.specs.declared.State.{State}
use Rattle.protocol.specs.Calls.{format_outcome}
use Rattle.protocol.specs.History.{Cabinet, perform, outcome_of, cabinet_of, ran}
use Rattle.protocol.specs.Reference.{carried_by, after_writes}
use Rattle.protocol.specs.Demand3.{CallIn, cabinet_after, result, Demand3}
use Rattle.protocol.specs.Claims.{write_answer, contents_left, Counting}
use Rattle.protocol.proofs.History.{ran_last}
use Rattle.protocol.proofs.Invariant.{contents_at_is}
use Rattle.protocol.proofs.Demand3.{demand_3}
use Rattle.protocol.proofs.ReadsRight.{reads_right}
use Rattle.protocol.proofs.WritesCount.{writes_count}
use Rattle.protocol.proofs.SoundnessKept.{soundness_kept}
use Rattle.cabinet.specs.Sessions.{Exchange, yielded, Session, begun, followed, ExchangeIn, calls_of, Handed}
use Rattle.cabinet.specs.Sessions.{contents_before, contents_at, SessionsAreHistories, SessionsMeetDemand3}

-- one call more
one_more : (calls : List Exchange) (x : Exchange) (c : Cabinet)
    → ran (calls_of (calls ++ (x ∷ []))) c ≡ cabinet_of (outcome_of x.given (ran (calls_of calls) c))
one_more calls x c = rw (map-append (λ y. y.given) calls (x ∷ [])) (ran_last (calls_of calls) x.given c)

-- what stands in a list that is one longer is its last, or stood in it before
module _ {A : Type 0} (x y : A) where
  not_empty : (ys zs : List A) → [] ≢ ys ++ (y ∷ zs)
  not_empty [] zs = nil≢cons
  not_empty (v ∷ ys) zs = nil≢cons

  abbrev LastOrEarlier : List A → List A → Type 0
  LastOrEarlier xs ys = ((xs ≡ ys) × (x ≡ y)) ⊎ ((later : List A) × (xs ≡ ys ++ (y ∷ later)))

  last_or_earlier : (xs ys zs : List A) → xs ++ (x ∷ []) ≡ ys ++ (y ∷ zs) → LastOrEarlier xs ys
  last_or_earlier [] [] zs e = inl (refl, head-eq_of_cons-eq e)
  last_or_earlier [] (v ∷ ys) zs e = absurd (not_empty ys zs (tail-eq_of_cons-eq e))
  last_or_earlier (u ∷ xs) [] zs e = inr (xs, cc)
  last_or_earlier (u ∷ xs) (v ∷ ys) zs e = go (last_or_earlier xs ys zs (tail-eq_of_cons-eq e))
    where
      go : LastOrEarlier xs ys → LastOrEarlier (u ∷ xs) (v ∷ ys)
      go (inl (p, q)) = inl (cc, q)
      go (inr (later, p)) = inr (later, cc)

module _ {n b : ℕ} {lent : List ℕ} where
  format_done : {calls : List Exchange} {s : State} {area : List ℕ} → Session n b lent calls s area
      → (format_outcome lent [] n b).answer.refusal ≡ 0
  format_done (begun p z) = sym (ap (λ o. o.answer.refusal) (p [])) ∙ z
  format_done (followed session x r) = format_done session

  left_is : {calls : List Exchange} {s : State} {area : List ℕ} → Session n b lent calls s area
      → record { state = s; area = area } ≡ cabinet_after n b lent (calls_of calls)
  unfolding ran
  left_is (begun p z) = ap cabinet_of (p [])
  left_is (followed {calls} session x r) =
      ap cabinet_of (r ∙ ap (outcome_of x.given) (left_is session)) ∙ sym (one_more calls x _)

  -- the calls before any call of a session are a session
  handed : {calls : List Exchange} {s : State} {area : List ℕ} → Session n b lent calls s area → (c : ExchangeIn calls)
      → Handed n b lent c.before c.this
  handed (begun p z) c = absurd (not_empty c.this c.this c.before c.after c.here)
  handed (followed {calls} {s} {area} session x r) c =
      go (λ d. handed session d) (last_or_earlier x c.this calls c.before c.after c.here)
    where
      go : ((d : ExchangeIn calls) → Handed n b lent d.before d.this)
          → LastOrEarlier x c.this calls c.before → Handed n b lent c.before c.this
      go earlier (inl (p, q)) = record { state = s; area = area; session = rw p at session; returned = rw q at r }
      go earlier (inr (later, p)) = earlier (record { before = c.before; this = c.this; after = later; here = p })

  yielded_is : {calls : List Exchange} {s : State} {area : List ℕ} → Session n b lent calls s area
      → (c : ExchangeIn calls)
      → yielded c.this ≡ outcome_of c.this.given (cabinet_after n b lent (calls_of c.before))
  yielded_is session c =
      let v = handed session c in v.returned ∙ ap (outcome_of c.this.given) (left_is v.session)

pub sessions_are_histories : SessionsAreHistories
sessions_are_histories n b lent calls s area session =
    record { done = format_done session; cabinet = left_is session; results = yielded_is session }

-- the protocol's call, the last of the list up to it
abbrev call_of : {calls : List Exchange} (c : ExchangeIn calls) → CallIn (calls_of c.before ++ (c.this.given ∷ []))
call_of c = record { before = calls_of c.before; this = c.this.given; after = []; here = refl }

module _ {n b : ℕ} {lent : List ℕ} {calls : List Exchange} {s : State} {area : List ℕ}
    (session : Session n b lent calls s area) (c : ExchangeIn calls) where
  done : (format_outcome lent [] n b).answer.refusal ≡ 0
  done = format_done session

  demand : Demand3 n b lent (calls_of c.before ++ (c.this.given ∷ []))
  demand = demand_3 n b lent done _

  answer_is : c.this.answer ≡ (result n b lent (call_of c)).answer
  answer_is = ap (λ o. o.answer) (yielded_is session c)

  -- a write, by what the reference's own cabinet makes of it
  module _ (k budget : ℕ) (is : c.this.given.call ≡ Write k budget) where
    abbrev bytes : List ℕ
    bytes = c.this.given.bytes

    abbrev output : List ℕ
    output = c.this.given.output

    abbrev cabinet : Cabinet
    cabinet = cabinet_after n b lent (calls_of c.before)

    write_is : c.this.answer ≡ write_answer cabinet k budget bytes output
    unfolding perform
    write_is = ap (λ o. o.answer) (yielded_is session c ∙ ap (λ call. perform call bytes output cabinet) is)

    book_is : contents_at n b c ≡ contents_left cabinet k budget bytes output (contents_before n b c)
    book_is =
        contents_at_is n b lent done (call_of c)
        ∙ ap (λ call. after_writes (carried_by call bytes cabinet) (contents_before n b c)) is

    counting : Counting cabinet k budget bytes output (contents_before n b c)
    counting = writes_count _ k budget _ _ _

pub sessions_meet_demand_3 : SessionsMeetDemand3
sessions_meet_demand_3 n b lent calls s area session = record {
  one_set = λ c budget is. rw (answer_is session c) ((demand session c).one_set (call_of c) budget is);
  right =
      λ c budget is. rw (answer_is session c, ap (λ o. o.area) (yielded_is session c))
      ((demand session c).right (call_of c) budget is);
  finds =
      λ c budget is v. rw (answer_is session c, ap (λ w. w.state) (left_is v.session))
      ((demand session c).finds (call_of c) budget is);
  each_handed = handed session;
  reads_right =
      λ c k budget is. rw (answer_is session c, ap (λ o. o.output) (yielded_is session c))
      (reads_right n b lent (done session c) _ (call_of c) k budget is);
  acknowledged =
      λ c k budget is. rw (write_is session c k budget is, book_is session c k budget is)
      (counting session c k budget is).acknowledged;
  refused =
      λ c k budget is. rw (write_is session c k budget is, book_is session c k budget is)
      (counting session c k budget is).refused;
  cut_before =
      λ c k budget is v. rw (
        write_is session c k budget is,
        book_is session c k budget is,
        ap (λ w. w.state) (left_is v.session),
      ) (counting session c k budget is).cut_before;
  cut_behind =
      λ c k budget is v. rw (
        write_is session c k budget is,
        book_is session c k budget is,
        ap (λ w. w.state) (left_is v.session),
      ) (counting session c k budget is).cut_behind;
  stays_sound = λ c. rw (answer_is session c) (soundness_kept.in_lists n b lent (done session c) _ (call_of c));
}

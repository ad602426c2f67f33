-- The ways in which a call ends: refused or not, and its list cut or whole; what a call does behind its list; two lists
-- on one budget. Assumes nothing.
use mathlib.Core.Path.{◌≡◌, ap, ◌∙◌}
use mathlib.Core.Logic.{◌≢◌, ◌⊎◌, inl, inr}
use mathlib.Core.Bool.{Bool, cond}
use mathlib.Core.List.{List, ◌++◌}
use Prim.Native.Nat.{ℕ, ◌-◌, ◌≤◌, ◌<◌}
use native.Mathlib.Nat.{add-sub_of_le}
use native.Mathlib.Omega.{arith}
use native.Mathlib.Decide.{dec_lt}
use lib.Dec.{eqb}
use lib.ListN.{length, length-append}
use lib.Seq.{take-append-le, take-append-add}
use borrow.Author.Tests.{eq-eqb, ne_eqb, lt-ltb, le-ltb}
use Rattle.sets.proofs.Tests.{same_or_not}
use Rattle.refusals.specs.Refusals.{first_of}
use Rattle.protocol.specs.declared.Answer.{Answer}
use Rattle.protocol.specs.declared.State.{State}
use Rattle.protocol.specs.States.{with_labels}
use Rattle.protocol.specs.Stores.{Disks, Store, apply_all}
use Rattle.protocol.specs.Outcomes.{Outcome, yields, outcome, refused_or, disks_of}
use Rattle.protocol.specs.Outcomes.{cut_short, Ending, carry_out, after, OneBudget}
use Rattle.protocol.proofs.Stores.{apply_append}

-- ---- refused or not

module _ (refusals : List (ℕ × Bool)) (s : State) (area output : List ℕ) (done : Outcome) where
  pub refused_or_lem : (P : Outcome → Type 0)
      → (first_of refusals ≢ 0 → P (outcome (first_of refusals) 0 s area output))
      → (first_of refusals ≡ 0 → P done) → P (refused_or refusals s area output done)
  unfolding refused_or
  refused_or_lem P refused passed = go (same_or_not (first_of refusals) 0)
    where
      go : (first_of refusals ≡ 0) ⊎ (first_of refusals ≢ 0)
          → P (cond (eqb (first_of refusals) 0) done (outcome (first_of refusals) 0 s area output))
      go (inl e) = rw (eq-eqb (first_of refusals) 0 e) (passed e)
      go (inr ne) = rw (ne_eqb (first_of refusals) 0 ne) (refused ne)

-- the same of a call that found its first refusal, and then gave this
module _ (refusals : List (ℕ × Bool)) (s : State) (area output : List ℕ) (done : Outcome)
    {refusal : ℕ} (first : refusal ≡ first_of refusals) where
  -- "A refusal gives its number, a store count of 0, and no change in the state or any buffer"
  pub refused : refusal ≢ 0 → {given : Answer} → given ≡ record { refusal = refusal; stores = 0; state = s }
      → yields given area output ≡ refused_or refusals s area output done
  unfolding refused_or
  refused ne e = rw (← first, ne_eqb refusal 0 ne, e)

  pub passed : refusal ≡ 0 → {given : Outcome} → given ≡ done → given ≡ refused_or refusals s area output done
  unfolding refused_or
  passed z e = e ∙ rw (← first, z)

-- ---- cut or whole

module _ (stores : List Store) (budget : ℕ) (s : State) (area output : List ℕ) (whole : Ending) where
  abbrev ending : Outcome
  ending = whole (length stores) (apply_all s.blocks stores (disks_of s area))

  pub is_cut : budget < length stores
      → carry_out stores budget s area output whole ≡ cut_short stores budget s area output
  unfolding carry_out
  is_cut l = rw (lt-ltb _ _ l)

  pub is_whole : length stores ≤ budget → carry_out stores budget s area output whole ≡ ending
  unfolding carry_out
  is_whole l = rw (le-ltb _ _ l)

  pub cut_or_whole : (P : Outcome → Type 0) → (budget < length stores → P (cut_short stores budget s area output))
      → (length stores ≤ budget → P ending) → P (carry_out stores budget s area output whole)
  cut_or_whole P cut made = go (dec_lt budget (length stores))
    where
      go : Dec (budget < length stores) → P (carry_out stores budget s area output whole)
      go (yes l) = rw (is_cut l) (cut l)
      go (no g) = let l : length stores ≤ budget = omega arith in rw (is_whole l) (made l)

  -- a call that makes stores is refused, cut or made whole
  pub refused_cut_or_whole : (refusals : List (ℕ × Bool)) (P : Outcome → Type 0)
      → (first_of refusals ≢ 0 → P (outcome (first_of refusals) 0 s area output))
      → (first_of refusals ≡ 0 → budget < length stores → P (cut_short stores budget s area output))
      → (first_of refusals ≡ 0 → length stores ≤ budget → P ending)
      → P (refused_or refusals s area output (carry_out stores budget s area output whole))
  refused_cut_or_whole refusals P refused cut made =
      refused_or_lem refusals s area output _ P refused (λ e. cut_or_whole P (cut e) (made e))

-- ---- more than a list

-- a call that has its list carried out, and goes on once all stores are made: what it then makes of that outcome
module _ (stores : List Store) (budget : ℕ) (s : State) (area output : List ℕ) (whole : Ending)
    (further : Outcome → Outcome) (done : (count : ℕ) (w : Disks) → (whole count w).answer.refusal ≡ 0) {o : Outcome}
    (carried : o ≡ carry_out stores budget s area output whole) where
  abbrev goes_on : Ending
  goes_on count w = further (whole count w)

  pub went_on : o.answer.refusal ≡ 0 → further o ≡ carry_out stores budget s area output goes_on
  went_on z =
      cut_or_whole stores budget s area output goes_on (λ p. further o ≡ p)
      (λ l.
      let cut = ap (λ p. p.answer.refusal) (carried ∙ is_cut stores budget s area output whole l) in
      absurd (omega (arith, z, cut)))
      (λ l. ap further (carried ∙ is_whole stores budget s area output whole l))

  pub left_off : o.answer.refusal ≢ 0 → o ≡ carry_out stores budget s area output goes_on
  left_off ne =
      cut_or_whole stores budget s area output goes_on (λ p. o ≡ p)
      (λ l. carried ∙ is_cut stores budget s area output whole l)
      (λ l. absurd (ne (ap (λ p. p.answer.refusal) (carried ∙ is_whole stores budget s area output whole l)
      ∙ done _ _)))

-- ---- two lists on one budget

pub one_budget : OneBudget
one_budget stores later budget s area output power whole reports =
    cut_or_whole stores budget s area output _ (λ o. both ≡ o)
    (λ l. is_cut (stores ++ next) budget s area output whole (simp length-append (omega arith))
    ∙ rw (take-append-le budget stores next (omega arith)))
    (λ l. cut_or_whole next (budget - length stores) between left.area output whole
    (λ o. both ≡ after (length stores) o) (cut_later l) (whole-later l))
  where
    left : Disks
    left = apply_all s.blocks stores (disks_of s area)

    next : List Store
    next = later left

    between : State
    between = with_labels s left.labels power

    both : Outcome
    both = carry_out (stores ++ next) budget s area output whole

    cut_later : length stores ≤ budget → budget - length stores < length next
        → both ≡ after (length stores) (cut_short next (budget - length stores) between left.area output)
    cut_later l q =
        let split = take-append-add stores next (budget - length stores) in
        is_cut (stores ++ next) budget s area output whole (simp length-append (omega arith))
        ∙ rw (rw (add-sub_of_le l) at split, apply_append, add-sub_of_le l)

    whole-later : length stores ≤ budget → length next ≤ budget - length stores
        → both ≡ after (length stores) (whole (length next) (apply_all s.blocks next left))
    whole-later l q =
        is_whole (stores ++ next) budget s area output whole (simp length-append (omega arith))
        ∙ rw (length-append, apply_append) (reports _ _ _)

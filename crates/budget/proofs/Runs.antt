-- Laws of lists of stores under a budget. Assumes nothing.
use mathlib.Core.Path.{◌≡◌, refl, sym, ap, ◌∙◌}
use mathlib.Core.Logic.{◌≢◌}
use mathlib.Core.Bool.{Bool, true, false, cond, not, ◌&&◌, false≢true}
use mathlib.Core.List.{List, [], ◌∷◌, ◌++◌}
use Prim.Native.Nat.{ℕ, zero, suc, ◌+◌, ◌-◌}
use native.Mathlib.Nat.{sub-zero, zero-sub, suc-sub-suc}
use native.Mathlib.Numerals.{add-one, sub-one}
use lib.Dec.{eqb, eqb-suc-zero}
use lib.ListN.{length}
use lib.Seq.{take-nil}
use borrow.Author.Tests.{eq-eqb, ne_eqb, not-true}
use Rattle.sets.specs.Sets.{has}
use Rattle.sets.proofs.Tests.{and_parts}
use Rattle.protocol.specs.Loops.{ascending}
use Rattle.protocol.specs.Stores.{Disks, Store, apply, apply_all, made}
use Rattle.budget.specs.Runs.{Progress, run_one, run_all, one_if}

module _ (b : ℕ) where
  pub run_append : (xs ys : List Store) (p : Progress) → run_all b (xs ++ ys) p ≡ run_all b ys (run_all b xs p)
  unfolding run_all
  run_append [] ys p = refl
  run_append (x ∷ xs) ys p = run_append xs ys (run_one b x p)

  -- two lists, one after the other
  pub in_sequence : (xs ys : List Store) (p : Progress) {q r : Progress} → q ≡ run_all b xs p → r ≡ run_all b ys q
      → r ≡ run_all b (xs ++ ys) p
  in_sequence xs ys p first second = rw (run_append xs ys p) (second ∙ ap (run_all b ys) first)

  -- an iteration of a loop: the lists below i, and then list i
  pub run_next : (f : ℕ → List Store) (i : ℕ) (p : Progress) {q r : Progress} → q ≡ run_all b (ascending i f) p
      → r ≡ run_all b (f i) q → r ≡ run_all b (ascending (i + 1) f) p
  unfolding ascending
  run_next f i p first second = rw (add-one, ascending) (in_sequence (ascending i f) (f i) p first second)

  -- ---- one store

  pub power_gone : (store : Store) (p : Progress) → p.left ≡ 0 → p ≡ run_all b (store ∷ []) p
  unfolding run_all run_one
  power_gone store p e = rw (eq-eqb _ _ e)

  pub power_there : (store : Store) (p : Progress) → p.left ≢ 0
      → record { disks = apply b store p.disks; left = p.left - 1 } ≡ run_all b (store ∷ []) p
  unfolding run_all run_one
  power_there store p e = rw (ne_eqb _ _ e)

  -- ---- one store of "for each disk of S"

  -- none is made where the power allows none or the set lacks the disk
  pub none_made : (set d : ℕ) (store : Store) (p : Progress) → (not (eqb p.left 0) && has set d) ≡ false
      → p ≡ run_all b (one_if set d store) p
  unfolding run_all run_one
  none_made set d store p e = go (has set d) (eqb p.left 0) refl e
    where
      go : (member spent : Bool) → eqb p.left 0 ≡ spent → (not spent && member) ≡ false
          → p ≡ run_all b (cond member (store ∷ []) []) p
      go false spent h e = refl
      go true true h e = rw h
      go true false h e = absurd (false≢true (sym e))

  -- otherwise it is
  pub one_made : (set d : ℕ) (store : Store) (p : Progress) → (not (eqb p.left 0) && has set d) ≡ true
      → record { disks = apply b store p.disks; left = p.left - 1 } ≡ run_all b (one_if set d store) p
  unfolding run_all run_one
  one_made set d store p e =
      let (some, member) = and_parts (not (eqb p.left 0)) (has set d) e in
      rw (member, not-true (eqb p.left 0) some)

  -- ---- a run makes exactly the first stores of its list

  -- none where the power allows none
  spent : (xs : List Store) (w : Disks) → run_all b xs (record { disks = w; left = 0 }) ≡ record { disks = w; left = 0 }
  unfolding run_all run_one
  spent [] w = refl
  spent (x ∷ xs) w = spent xs w

  pub run_made : (xs : List Store) (w : Disks) (budget : ℕ)
      → run_all b xs (record { disks = w; left = budget })
      ≡ record { disks = apply_all b (made budget xs) w; left = budget - length xs }
  unfolding run_all run_one apply_all
  run_made [] w budget = rw (take-nil, sub-zero)
  run_made (x ∷ xs) w zero = spent xs w ∙ rw zero-sub
  run_made (x ∷ xs) w (suc budget) = rw (eqb-suc-zero, sub-one, suc-sub-suc) (run_made xs (apply b x w) budget)

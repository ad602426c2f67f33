-- A list that was run is carried out: the answer that its length and the budget give is the paper's. Assumes nothing.
use mathlib.Core.Path.{◌≡◌, ap, ◌∙◌}
use mathlib.Core.List.{List}
use Prim.Native.Nat.{ℕ}
use lib.Dec.{ltb}
use lib.ListN.{length}
use lib.Seq.{take_all}
use borrow.Author.Tests.{ltb-false}
use Rattle.sets.proofs.Tests.{Test, passes, fails, test}
use Rattle.protocol.specs.declared.State.{State}
use Rattle.protocol.specs.declared.Power.TheVariants.{Stopped, Running}
use Rattle.protocol.specs.Stores.{Disks, Store, apply_all, made}
use Rattle.protocol.specs.Outcomes.{yields, disks_of, ended, runs_with, carry_out}
use Rattle.budget.specs.declared.Run.{Run}
use Rattle.budget.specs.Runs.{Progress, progress, run_all}
use Rattle.budget.proofs.Runs.{run_made}
use Rattle.budget.specs.Answers.{answered}

module _ (s : State) (list : List Store) (g budget : ℕ) (run : Run) (area after output : List ℕ)
    (ran : progress run after
    ≡ run_all s.blocks list (progress (record { labels = s.labels; left = budget }) area)) where
  left : Disks
  left = apply_all s.blocks (made budget list) (disks_of s area)

  disks_left : record { labels = run.labels; area = after } ≡ left
  unfolding left
  disks_left = ap (λ (p : Progress). p.disks) (ran ∙ run_made s.blocks list (disks_of s area) budget)

  pub carried : (stores : ℕ) → stores ≡ length list
      → yields (answered s run.labels stores g budget) after output
      ≡ carry_out list budget s area output (runs_with g s output)
  unfolding answered carry_out left
  carried stores e = rw e (go (test (ltb budget (length list))))
    where
      go : Test (ltb budget (length list))
          → yields (answered s run.labels (length list) g budget) after output
          ≡ carry_out list budget s area output (runs_with g s output)
      go (passes h) = rw h (ap (λ w. ended 15 budget s w Stopped output) disks_left)
      go (fails h) =
          let all : made budget list ≡ list = take_all budget list (ltb-false budget (length list) h) in
          rw h (ap (λ w. ended 0 (length list) s w (Running g) output)
          (disks_left ∙ ap (λ xs. apply_all s.blocks xs (disks_of s area)) all))

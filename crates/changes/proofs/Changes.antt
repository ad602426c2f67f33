-- A change on a disk is the paper's store on it. Assumes nothing.
use mathlib.Core.Path.{◌≡◌, refl, sym, ap, ◌∙◌}
use mathlib.Core.Bool.{true, not, ◌&&◌}
use mathlib.Core.List.{List}
use Prim.Native.Nat.{ℕ, ◌-◌}
use lib.Dec.{eqb}
use lib.ListN.{set}
use Rattle.sets.specs.Sets.{has}
use Rattle.protocol.specs.States.{label_at}
use Rattle.protocol.specs.Stores.{Disks, apply, on_label}
use Rattle.changes.specs.declared.Change.{Change}
use Rattle.changes.specs.declared.Change.TheVariants.{Mark, Clear, Propose, Commit}
use Rattle.budget.specs.declared.Run.{Run}
use Rattle.budget.specs.Runs.{progress, run_all, one_if}
use Rattle.changes.specs.Changes.{changed, change_on}
use Rattle.budget.proofs.Runs.{one_made}

applied : (b d : ℕ) (change : Change) (w : Disks)
    → apply b (change_on change d) w ≡ on_label w d (changed change (label_at w.labels d))
unfolding apply
applied b d (Mark r) w = refl
applied b d (Clear r) w = refl
applied b d (Propose s) w = refl
applied b d (Commit s) w = refl

-- the label changed at its one index, and one store less left
pub label_made : (b members d : ℕ) (change : Change) (run : Run) (area : List ℕ)
    → (not (eqb run.left 0) && has members d) ≡ true
    → progress
    (record { labels = set run.labels d (changed change (label_at run.labels d)); left = run.left - 1 }) area
    ≡ run_all b (one_if members d (change_on change d)) (progress run area)
label_made b members d change run area e =
    let w : Disks = record { labels = run.labels; area = area } in
    ap (λ v. record { disks = v; left = run.left - 1 }) (sym (applied b d change w))
    ∙ one_made b members d (change_on change d) (progress run area) e

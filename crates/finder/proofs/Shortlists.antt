-- What the code tests along a list of labels. Assumes nothing.
use mathlib.Core.Path.{◌≡◌, refl, ap, ◌∙◌}
use mathlib.Core.Bool.{Bool, ◌||◌}
use mathlib.Core.List.{List}
use Prim.Native.Nat.{ℕ, zero, suc, ◌≤◌}
use native.Mathlib.Omega.{arith}
use lib.ListN.{length}
use Rattle.std.proofs.Common.{take}
use Rattle.std.specs.List.{list_any}
use Rattle.std.proofs.Math.Seq.{take-suc}
use Rattle.std.proofs.lemmas.List.Recursion.{or_push}
use Rattle.label.specs.declared.Label.{Label}
use Rattle.label.specs.Bytes.{blank}
use Rattle.protocol.specs.Loops.{some_below}
use Rattle.protocol.specs.States.{label_at}

-- whether one of the first labels passes
pub some_of_first : (p : Label → Bool) (labels : List Label) (d : ℕ) → d ≤ length labels
    → list_any p (take d labels) ≡ some_below d (λ e. p (label_at labels e))
unfolding some_below
some_of_first p labels zero l = refl
some_of_first p labels (suc d) l =
    ap (list_any p) (take-suc labels d blank l)
    ∙ or_push (list_any p) p refl (λ _ _. refl) (take d labels) (label_at labels d)
    ∙ ap (λ t. t || p (label_at labels d)) (some_of_first p labels d (omega arith))

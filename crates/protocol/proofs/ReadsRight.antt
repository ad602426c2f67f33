-- What the gate relies on: a read that gives 0 yields the reference block. Assumes nothing.
use mathlib.Core.Path.{◌≡◌, sym, ap, ◌∙◌}
use mathlib.Core.List.{List}
use Prim.Native.Nat.{ℕ}
use native.Mathlib.Omega.{arith}
use Rattle.protocol.specs.Calls.{copies_out, read_outcome}
use Rattle.protocol.specs.History.{Cabinet, perform}
use Rattle.protocol.specs.Reference.{Contents, carried_by, after_writes, contents_after}
use Rattle.protocol.specs.Demand3.{given}
use Rattle.protocol.specs.Claims.{ReadsRight}
use Rattle.protocol.proofs.States.{source_has}
use Rattle.protocol.proofs.Outcomes.{refused_cut_or_whole}
use Rattle.protocol.proofs.NotRefused.{block_passed}
use Rattle.protocol.proofs.LiveMoves.{live_done}
use Rattle.protocol.proofs.Invariant.{Invariant, invariant_before, contents_at_is}

-- a read of a cabinet that holds the reference contents
module _ {n b : ℕ} {contents : Contents} {c : Cabinet} (h : Invariant n b contents c) (output : List ℕ) (k budget : ℕ)
  where
    read_right : (read_outcome c.state c.area output k budget).answer.refusal ≡ 0
        → (read_outcome c.state c.area output k budget).output ≡ contents k
    unfolding read_outcome copies_out
    read_right =
        refused_cut_or_whole _ budget _ _ output _ _ (λ o. o.answer.refusal ≡ 0 → o.output ≡ contents k)
        (λ ne z. absurd (ne z)) (λ e l z. absurd (omega arith))
        (λ e l z.
        let pass = block_passed _ _ k output e in
        (live_done c pass.fit pass.runs pass.some contents h.consistent).holds _
        (source_has _ pass.some) k pass.known)

pub reads_right : ReadsRight
unfolding perform carried_by after_writes
reads_right n b lent done calls c k budget is z =
    let cabinet = given n b lent c in
    let performs = ap (λ call. perform call c.this.bytes c.this.output cabinet) is in
    -- it leaves the reference as it is
    let same = contents_at_is n b lent done c
    ∙ ap (λ call. after_writes (carried_by call c.this.bytes cabinet) (contents_after n b c.before)) is in
    ap (λ o. o.output) performs
    ∙ read_right (invariant_before n b lent done c) c.this.output k budget
    (sym (ap (λ o. o.answer.refusal) performs) ∙ z)
    ∙ ap (λ contents. contents k) (sym same)

-- "So a write that gives 0 counts, and one cut before that store or otherwise refused does not." Assumes nothing.
use mathlib.Core.Path.{◌≡◌, refl, ◌∙◌}
use mathlib.Core.Logic.{◌≢◌}
use mathlib.Core.Bool.{cond}
use mathlib.Core.List.{List}
use Prim.Native.Nat.{ℕ, ◌≤◌, ◌<◌}
use native.Mathlib.Omega.{arith}
use lib.ListN.{length, take}
use lib.Seq.{take_all, take-append-le}
use borrow.Author.Tests.{eq-eqb, ne_eqb}
use Rattle.refusals.specs.Refusals.{first_of}
use Rattle.protocol.specs.States.{live, source}
use Rattle.protocol.specs.Stores.{Store}
use Rattle.protocol.specs.Lists.{preparations, write_list}
use Rattle.protocol.specs.Calls.{block_refusals, write_outcome}
use Rattle.protocol.specs.History.{Cabinet}
use Rattle.protocol.specs.Reference.{Contents, replaced, include, counts, carried_by, after_writes}
use Rattle.protocol.specs.Claims.{source_store, write_answer, contents_left, WritesCount}
use Rattle.protocol.proofs.Outcomes.{refused_cut_or_whole}
use Rattle.protocol.proofs.NotRefused.{block_passed}
use Rattle.protocol.proofs.Reference.{early, write_counts, cut_counts}

module _ (c : Cabinet) (k budget : ℕ) (bytes output : List ℕ) (contents : Contents) where
  abbrev refusal : ℕ
  refusal = first_of (block_refusals c.state c.area k bytes)

  abbrev list : List Store
  list = write_list c.state k bytes

  -- what is carried out is entered if its stores include the source's, and nothing is where the write is refused
  contents_carried : refusal ≡ 0
      → contents_left c k budget bytes output contents
      ≡ cond (include (source (live c.state)) k (take budget list)) (replaced k bytes contents) contents
  unfolding carried_by after_writes counts
  contents_carried e = rw (eq-eqb _ 0 e)

  contents_kept : refusal ≢ 0 → contents_left c k budget bytes output contents ≡ contents
  unfolding carried_by after_writes
  contents_kept ne = rw (ne_eqb _ 0 ne)

  -- a write that gives 0 passed its refusals, and made its whole list; one that gives another number than 15 did not
  -- pass them
  done : (write_answer c k budget bytes output).refusal ≡ 0 → (refusal ≡ 0) × (length list ≤ budget)
  unfolding write_outcome
  done =
      refused_cut_or_whole list budget c.state c.area output _ _
      (λ o. o.answer.refusal ≡ 0 → (refusal ≡ 0) × (length list ≤ budget))
      (λ ne z. absurd (ne z)) (λ e l z. absurd (omega arith)) (λ e l z. (e, l))

  not_passed : (write_answer c k budget bytes output).refusal ≢ 0 → (write_answer c k budget bytes output).refusal ≢ 15
      → refusal ≢ 0
  unfolding write_outcome
  not_passed =
      refused_cut_or_whole list budget c.state c.area output _ _
      (λ o. o.answer.refusal ≢ 0 → o.answer.refusal ≢ 15 → refusal ≢ 0)
      (λ ne p q. ne) (λ e l p q. absurd (q refl)) (λ e l p q. absurd (p refl))

  acknowledged : (write_answer c k budget bytes output).refusal ≡ 0
      → contents_left c k budget bytes output contents ≡ replaced k bytes contents
  acknowledged z =
      let (e, l) = done z in
      let pass = block_passed c.state c.area k bytes e in
      contents_carried e ∙ rw (take_all budget _ l, write_counts c.state k bytes pass.fit pass.some)

  -- one that is refused has 0 stores, and one that is cut as many as its supply
  cut_before : (write_answer c k budget bytes output).refusal ≡ 15
      → (write_answer c k budget bytes output).stores < source_store c.state k
      → contents_left c k budget bytes output contents ≡ contents
  unfolding write_outcome write_list
  cut_before =
      refused_cut_or_whole list budget c.state c.area output _ _
      (λ o. o.answer.refusal ≡ 15 → o.answer.stores < source_store c.state k
      → contents_left c k budget bytes output contents ≡ contents)
      (λ ne z l. contents_kept ne)
      (λ e q z l. contents_carried e
      ∙ rw (take-append-le budget (preparations c.state k) _ (omega arith), early c.state k _ k budget))
      (λ e q z l. absurd (omega arith))

  cut_behind : (write_answer c k budget bytes output).refusal ≡ 15
      → source_store c.state k ≤ (write_answer c k budget bytes output).stores
      → contents_left c k budget bytes output contents ≡ replaced k bytes contents
  unfolding write_outcome
  cut_behind =
      refused_cut_or_whole list budget c.state c.area output _ _
      (λ o. o.answer.refusal ≡ 15 → source_store c.state k ≤ o.answer.stores
      → contents_left c k budget bytes output contents ≡ replaced k bytes contents)
      (λ ne z l. absurd (omega arith))
      (λ e q z l. let pass = block_passed c.state c.area k bytes e in
      contents_carried e ∙ rw (cut_counts c.state k bytes pass.fit pass.some budget l))
      (λ e q z l. absurd (omega arith))

pub writes_count : WritesCount
writes_count c k budget bytes output contents = record {
  acknowledged = acknowledged c k budget bytes output contents;
  refused = λ ne nf. contents_kept c k budget bytes output contents (not_passed c k budget bytes output contents ne nf);
  cut_before = cut_before c k budget bytes output contents;
  cut_behind = cut_behind c k budget bytes output contents;
}

-- The disk area at the front of the memory: the part that is lent to a call, and what the call leaves. Assumes nothing.
use mathlib.Core.Path.{◌≡◌, refl, sym, ap, ◌∙◌}
use mathlib.Core.List.{List, [], ◌++◌}
use Prim.Native.Nat.{ℕ, min, ◌+◌, ◌≤◌, ◌<◌}
use native.Mathlib.Omega.{arith}
use lib.Dec.{ltb}
use lib.ListN.{length, take, drop, get_or, replicate, length-take, length-drop, take-append-drop, drop_of_length-le}
use lib.Seq.{take_all, take-append-le, drop-append-le}
use borrow.Author.Tests.{ltb-true, ltb-false}
use Rattle.sets.proofs.Tests.{Test, test, passes, fails}
use Rattle.protocol.specs.declared.Answer.{Answer}
use Rattle.protocol.specs.declared.Call.{Call}
use Rattle.protocol.specs.declared.State.{State}
use Rattle.protocol.specs.Geometry.{area_size, block_size, place, block}
use Rattle.protocol.specs.Calls.{format_outcome}
use Rattle.protocol.specs.History.{Cabinet, perform}
use Rattle.protocol.proofs.Blocks.{block_length}
use Rattle.commands.specs.declared.Loan.{Loan}
use Rattle.interpreter.specs.Execution.{machine_of, reply_to, kept_state, format_executed, call_reply, call_executed}
use Rattle.interpreter.specs.Lending.{lent_bytes}
use Rattle.interpreter.proofs.FirstByte.{first_byte_lem}

module _ (size : ℕ) (memory : List ℕ) where
  abbrev Lent : ℕ → Type 0
  Lent end = (take end memory ≡ take size memory) × (drop end memory ≡ drop size memory)

  lent : (end : ℕ) → end ≡ min size (length memory) → Lent end
  lent end e = go (test (ltb size (length memory)))
    where
      go : Test (ltb size (length memory)) → Lent end
      go (passes t) =
          let h = ltb-true size (length memory) t in
          let same : end ≡ size = omega (arith, h, e) in
          rw same (refl, refl)
      go (fails t) =
          let h = ltb-false size (length memory) t in
          let whole : end ≡ length memory = omega (arith, h, e) in (
            take_all end memory (omega arith) ∙ sym (take_all size memory h),
            drop_of_length-le memory {i = end} (omega arith) ∙ sym (drop_of_length-le memory h),
          )

-- a block of the disk area is where it was, in a memory that has the area at its front
pub block_in_memory : (n b : ℕ) (memory : List ℕ) → length (take (area_size n b) memory) ≡ area_size n b
    → (d k : ℕ) → d < n → k < b → block b memory d k ≡ block b (take (area_size n b) memory) d k
unfolding block
block_in_memory n b memory size d k hd hk =
    let area = take (area_size n b) memory in
    let rest = drop (area_size n b) memory in
    let at = place b d k in
    let whole = block_length n b area size d k hd hk in
    let many = length-take block_size (drop at area) in
    let room : at + block_size ≤ length area = omega (arith, whole, many, length-drop at area) in
    ap (λ xs. take block_size (drop at xs)) (sym (take-append-drop (area_size n b) memory))
    ∙ ap (take block_size) (drop-append-le at area rest (omega arith))
    ∙ take-append-le block_size (drop at area) rest (omega (arith, whole, many))

pub format_leaves : (n b : ℕ) (s : State) (memory : List ℕ) (end : ℕ) {area : List ℕ} {a : Answer}
    → end ≡ min (area_size n b) (length memory)
    → record { answer = a; area = area; output = [] } ≡ format_outcome (take end memory) [] n b
    → record {
      machine = machine_of (kept_state a s) (area ++ drop end memory);
      reply = reply_to a.refusal a.stores (kept_state a s) 0;
    } ≡ format_executed n b (machine_of s memory)
unfolding format_executed
format_leaves n b s memory end e done =
    let part = lent (area_size n b) memory end e in
    rw (part.1, ← part.0, ← done)

pub call_leaves : (call : Call) (loan : Loan) (s : State) (memory : List ℕ) (end : ℕ)
    {area output : List ℕ} {a : Answer}
    → end ≡ min (area_size s.disks s.blocks) (length memory)
    → record { answer = a; area = area; output = output }
    ≡ perform call (lent_bytes loan s) (replicate block_size 0) (record { state = s; area = take end memory })
    → record {
      machine = machine_of a.state (area ++ drop end memory);
      reply = reply_to a.refusal a.stores a.state (get_or output 0 0);
    } ≡ call_executed call loan (machine_of s memory)
unfolding call_executed call_reply
call_leaves call loan s memory end e done =
    let part = lent (area_size s.disks s.blocks) memory end e in
    let before : Cabinet = record { state = s; area = take end memory } in
    rw (part.1, ← part.0, ← done, ← (rw (← done) at (first_byte_lem (lent_bytes loan s) before call)))

-- A read and a write among the lines, and the book. Assumes nothing.
use mathlib.Core.Path.{◌≡◌, refl, ap}
use mathlib.Core.List.{List}
use Prim.Native.Nat.{ℕ}
use native.Mathlib.Omega.{arith}
use lib.ListN.{length, get_or, replicate}
use borrow.Author.Tests.{eq-eqb}
use Rattle.protocol.specs.declared.Call.TheVariants.{Read, Write}
use Rattle.protocol.specs.Geometry.{most_disks, most_blocks, block_size, area_size}
use Rattle.protocol.specs.Calls.{zero_area}
use Rattle.protocol.specs.History.{perform}
use Rattle.protocol.specs.Reference.{contents_after}
use Rattle.protocol.specs.Demand3.{cabinet_after}
use Rattle.protocol.specs.Claims.{contents_left, Counting}
use Rattle.protocol.proofs.Invariant.{contents_at_is}
use Rattle.protocol.proofs.ReadsRight.{reads_right}
use Rattle.protocol.proofs.WritesCount.{writes_count}
use Rattle.commands.specs.declared.Loan.TheVariants.{Block}
use Rattle.interpreter.specs.Execution.{first_byte, call_reply, reply_to}
use Rattle.program.specs.Demand3.{LineIn, behind, calls_since, executed_at, book, IsRead, IsWrite, Counts}
use Rattle.program.proofs.Lines.{done, with_it, here, up_to, call_line}

module _ (memory : List ℕ) (size : length memory ≡ area_size most_disks most_blocks)
    {whole : List (List ℕ)} (c : LineIn whole) where
  pub read_shows : (k budget : ℕ) → IsRead c.this k budget → (executed_at memory c).reply.result ≡ 0
      → (executed_at memory c).reply.byte ≡ get_or (book (calls_since (up_to memory size c)) k) 0 0
  unfolding call_reply reply_to first_byte
  read_shows k budget is =
      call_line memory size c (Read k budget) (Block 0) is
      (λ reply t u. reply.result ≡ 0 → reply.byte ≡ get_or (book u k) 0 0)
      (λ z. absurd (omega (arith, z)))
      (λ n b since known z.
      let it = here (Read k budget) (Block 0) n b since in
      let filled = reads_right n b (zero_area n b) (done n b known.good_format) _ it k budget refl z in
      rw (eq-eqb _ 0 z) (ap (λ bytes. get_or bytes 0 0) filled))

  pub write_counts : (k v budget : ℕ) → IsWrite c.this k v budget
      → Counts k v (behind memory c.before).state (executed_at memory c).reply
      (book (calls_since c.before)) (book (calls_since (up_to memory size c)))
  unfolding call_reply reply_to perform
  write_counts k v budget is =
      call_line memory size c (Write k budget) (Block v) is
      (λ reply t u. Counts k v (behind memory c.before).state reply (book t) (book u))
      (record {
        acknowledged = λ z. absurd (omega (arith, z));
        refused = λ ne nf. refl;
        cut_before = λ z. absurd (omega (arith, z));
        cut_behind = λ z. absurd (omega (arith, z));
      })
      (λ n b since known.
      let cabinet = cabinet_after n b (zero_area n b) since in
      let bytes = replicate block_size v in
      let output = replicate block_size 0 in
      let counting : Counting cabinet k budget bytes output (contents_after n b since) =
      writes_count cabinet k budget bytes output _ in
      let it = here (Write k budget) (Block v) n b since in
      let after : contents_after n b (with_it (Write k budget) (Block v) n b since)
      ≡ contents_left cabinet k budget bytes output (contents_after n b since) =
      contents_at_is n b (zero_area n b) (done n b known.good_format) it in
      rw (after, ap (λ w. w.state) known.given) (record {
        acknowledged = counting.acknowledged;
        refused = counting.refused;
        cut_before = counting.cut_before;
        cut_behind = counting.cut_behind;
      }))

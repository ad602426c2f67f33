-- Document 01, "The list and the book": the reference contents, which are the paper's book: the right block for each
-- number, from n, b and the list of calls alone.
use Rattle.std.specs.Prelude.{Bool, false, cond, ◌&&◌, ◌||◌, List, [], ◌∷◌, ℕ, eqb, replicate}
use Rattle.refusals.specs.Refusals.{first_of}
use Rattle.protocol.specs.declared.Call.{Call}
use Rattle.protocol.specs.declared.Call.TheVariants.{Read, Write, Join, Clean, Restart, Detach, Attach, PowerOff}
use Rattle.protocol.specs.declared.Call.TheVariants.{Diagnose, Swap}
use Rattle.protocol.specs.declared.State.{State}
use Rattle.protocol.specs.Geometry.{block_size}
use Rattle.protocol.specs.States.{live, source}
use Rattle.protocol.specs.Stores.{Store, write, copy, mark, clear, propose, commit, made}
use Rattle.protocol.specs.Lists.{write_list}
use Rattle.protocol.specs.Calls.{block_refusals, formatted, zero_area}
use Rattle.protocol.specs.History.{Step, Cabinet, outcome_of, cabinet_of}

-- ---- when a write counts

-- A write by the paper's rule that a call carries out: it is not refused, though the power may go during it.
pub record CarriedWrite : Type 0 where
  pub block : ℕ
  pub bytes : List ℕ
  -- the member of its L that is copied from
  pub source : ℕ
  pub made : List Store

abbrev pub is_block_store : ℕ → ℕ → Store → Bool
is_block_store d k (write e j bytes) = eqb e d && eqb j k
is_block_store d k (copy from to j) = false
is_block_store d k (mark e r) = false
is_block_store d k (clear e r) = false
is_block_store d k (propose e s) = false
is_block_store d k (commit e s) = false

-- the stores include that of block k on disk d
unfoldable pub include : ℕ → ℕ → List Store → Bool
include d k [] = false
include d k (store ∷ later) = is_block_store d k store || include d k later

-- "A write of block k counts when the stores so made include that of block k on the lowest member of its L"
unfoldable pub counts : CarriedWrite → Bool
counts w = include w.source w.block w.made

-- the write of block k that is not refused
abbrev pub carried_write : ℕ → List ℕ → ℕ → State → CarriedWrite
carried_write k bytes budget s =
    record { block = k; bytes = bytes; source = source (live s); made = made budget (write_list s k bytes) }

-- the writes that a call carries out on this cabinet, in order: "The other seven calls leave the book as it is." So
-- do a diagnosis and a swap.
unfoldable pub carried_by : Call → List ℕ → Cabinet → List CarriedWrite
carried_by (Read k budget) bytes c = []
carried_by (Write k budget) bytes c =
    cond (eqb (first_of (block_refusals c.state c.area k bytes)) 0) (carried_write k bytes budget c.state ∷ []) []
carried_by (Join d budget) bytes c = []
carried_by (Clean budget) bytes c = []
carried_by (Restart budget) bytes c = []
carried_by (Detach d) bytes c = []
carried_by (Attach d) bytes c = []
carried_by PowerOff bytes c = []
carried_by (Diagnose stage d) bytes c = []
carried_by (Swap d budget) bytes c = []

-- ---- the reference contents

-- "a block for each k"
abbrev pub Contents : Type 0
Contents = ℕ → List ℕ

-- "zeros at first"
abbrev pub zero_contents : Contents
zero_contents k = replicate block_size 0

abbrev pub replaced : ℕ → List ℕ → Contents → Contents
replaced k bytes contents j = cond (eqb j k) bytes (contents j)

-- "then block k of the book becomes its data"
unfoldable pub after_writes : List CarriedWrite → Contents → Contents
after_writes [] contents = contents
after_writes (w ∷ later) contents =
    after_writes later (cond (counts w) (replaced w.block w.bytes contents) contents)

-- The book: "Beside it stands a cabinet of this paper", its own, which is given the calls of the list and nothing of
-- the program's.
pub record Reference : Type 0 where
  pub cabinet : Cabinet
  pub contents : Contents

-- "begun as fresh gives it"
unfoldable pub started : ℕ → ℕ → Reference
started n b = record { cabinet = record { state = formatted n b; area = zero_area n b }; contents = zero_contents }

-- one call
unfoldable pub recorded : Step → Reference → Reference
recorded x ref = record {
  cabinet = cabinet_of (outcome_of x ref.cabinet);
  contents = after_writes (carried_by x.call x.bytes ref.cabinet) ref.contents;
}

unfoldable pub recorded_all : List Step → Reference → Reference
recorded_all [] ref = ref
recorded_all (x ∷ later) ref = recorded_all later (recorded x ref)

-- what the book has after these calls
abbrev pub contents_after : ℕ → ℕ → List Step → Contents
contents_after n b calls = (recorded_all calls (started n b)).contents

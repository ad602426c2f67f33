-- One pass over a line, byte by byte. Assumes nothing.
use mathlib.Core.Path.{◌≡◌, refl}
use mathlib.Core.Bool.{Bool, true, false, cond}
use mathlib.Core.List.{List, [], ◌∷◌, ◌++◌}
use Prim.Native.Nat.{ℕ, suc, ◌+◌, ◌≤◌, ◌<◌}
use native.Mathlib.Nat.{add-zero, zero-add}
use native.Mathlib.Numerals.{add-one}
use native.Mathlib.Omega.{arith}
use lib.Dec.{eqb}
use lib.ListN.{length, take, get_or}
use lib.Seq.{take-suc, length-take-le}
use Rattle.commands.specs.declared.scanner.Scan.{Scan}
use Rattle.commands.specs.Scanning.{initial_scan, word_ended, byte_read, stepped, scanned}

-- ---- a pass in two parts, and its counts

scanned_append : (s : Scan) (first next : List ℕ) → scanned s (first ++ next) ≡ scanned (scanned s first) next
unfolding scanned
scanned_append s [] next = refl
scanned_append s (x ∷ first) next = scanned_append (stepped s x) first next

-- no more words and no longer a word than there were bytes
pub record Few (n : ℕ) (s : Scan) : Type 0 where
  pub words : s.words ≤ n
  pub bytes : s.bytes ≤ n

few_step : (s : Scan) (x n : ℕ) → Few n s → Few (suc n) (stepped s x)
unfolding stepped word_ended byte_read
few_step s x n few = go (eqb x 32)
  where
    go : (t : Bool) → Few (suc n) (cond t (word_ended s) (byte_read s x))
    go true = record { words = omega (arith, few.words); bytes = omega arith }
    go false = record { words = omega (arith, few.words); bytes = omega (arith, few.bytes) }

few_scanned : (line : List ℕ) (s : Scan) (n : ℕ) → Few n s → Few (length line + n) (scanned s line)
unfolding scanned
few_scanned [] s n few = rw (zero-add n) few
few_scanned (x ∷ line) s n few =
    let e : suc (length line) + n ≡ length line + suc n = omega arith in
    rw e (few_scanned line (stepped s x) (suc n) (few_step s x n few))

few : (line : List ℕ) → Few (length line) (scanned initial_scan line)
unfolding initial_scan
few line =
    let none : Few 0 initial_scan = record { words = omega arith; bytes = omega arith } in
    rw (add-zero (length line)) at (few_scanned line initial_scan 0 none)

-- ---- the loop

pub next_step : (line : List ℕ) (i : ℕ) (s next : Scan) → i < length line → s ≡ scanned initial_scan (take i line)
    → next ≡ stepped s (get_or line i 0) → next ≡ scanned initial_scan (take (i + 1) line)
unfolding scanned
next_step line i s next h e step =
    rw (add-one i, take-suc line i 0 h, scanned_append initial_scan (take i line) (get_or line i 0 ∷ []), ← e) step

pub few_read : (line : List ℕ) (i : ℕ) (s : Scan) → i ≤ length line → s ≡ scanned initial_scan (take i line) → Few i s
few_read line i s h e = rw (← length-take-le i line h, e) (few (take i line))

pub nothing_read : ◌≡◌ {A = Scan}
    record { letter = 0; words = 0; third = 0; second = 0; last = 0; bytes = 0; value = 0; valid = true }
    (scanned initial_scan [])
unfolding scanned initial_scan
nothing_read = refl

-- what the check needs to prove `Scan::of`
pub ruleset scanning = (nothing_read, next_step, few_read)

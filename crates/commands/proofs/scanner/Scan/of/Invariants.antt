use mathlib.Core.Path.{◌≡◌}
use lib.ListN.{take}
use Rattle.commands.specs.Scanning.{initial_scan, scanned}
use Rattle.commands.proofs.scanner.Scan.of.Given as goal

abbrev pub invariant-loop-byte : goal.invariant-loop-byte
invariant-loop-byte l = l.scan ≡ scanned initial_scan (take l.byte-index l.line)

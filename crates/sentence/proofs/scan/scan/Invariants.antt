use Rattle.std.proofs.Common.{◌≡◌, drop}
use Rattle.sentence.specs.Scanning.{scan_from, scanned}
use Rattle.sentence.proofs.Scans.{Eight}
use Rattle.sentence.proofs.scan.scan.Given as goal

abbrev pub invariant-loop-b : goal.invariant-loop-b
invariant-loop-b l = Eight l.s × (scan_from l.s (drop l.b-index l.line) ≡ scanned l.line)

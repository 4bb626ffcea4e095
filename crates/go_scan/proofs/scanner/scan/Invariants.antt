use Rattle.std.proofs.Common.{◌≤◌, ◌-◌, length}
use Rattle.go_scan.specs.Scanning.{view_place}
use Rattle.go_scan.proofs.ScanLaws.{IsScanned}
use Rattle.go_scan.proofs.scanner.scan.Given as goal

abbrev pub invariant-loop-place : goal.invariant-loop-place
invariant-loop-place l = record {
  within : l.place.at ≤ length l.bytes;
  scanned : IsScanned l.bytes (view_place l.place) l.tokens;
}

abbrev pub decreases-loop-place : goal.decreases-loop-place
decreases-loop-place l = length l.bytes - l.place.at

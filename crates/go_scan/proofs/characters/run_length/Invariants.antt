use Rattle.std.proofs.Common.{◌≡◌, ◌+◌, ◌-◌, ◌≤◌, length, drop}
use Rattle.go_ast.specs.Characters.{passing}
use Rattle.go_scan.specs.Reach.{run_length}
use Rattle.go_scan.specs.Runs.{allows}
use Rattle.go_scan.proofs.characters.run_length.Given as goal

abbrev pub invariant-loop-width : goal.invariant-loop-width
invariant-loop-width l = record {
  within : l.at ≤ length l.text;
  reached : run_length (passing (allows l.run)) 0 l.text ≡ l.at + run_length (passing (allows l.run)) 0 (drop l.at l.text);
}

abbrev pub decreases-loop-width : goal.decreases-loop-width
decreases-loop-width l = length l.text - l.at

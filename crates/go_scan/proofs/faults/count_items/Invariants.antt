use Rattle.std.proofs.Common.{length, drop, ◌-◌, ◌≡◌, ◌+◌, ◌≤◌}
use Rattle.go_ast.specs.Literals.{first_bad, item_rests}
use Rattle.go_scan.specs.Reading.{reading}
use Rattle.go_scan.proofs.faults.count_items.Given as goal

abbrev pub invariant-loop-at : goal.invariant-loop-at
invariant-loop-at l = record {
  within : l.at ≤ length l.text;
  fewer : l.count ≤ l.at;
  bad : first_bad (reading l.how) l.text ≡ first_bad (reading l.how) (drop l.at l.text);
  counted : length (item_rests (reading l.how) l.text) ≡ l.count + length (item_rests (reading l.how) (drop l.at l.text));
}

abbrev pub decreases-loop-at : goal.decreases-loop-at
decreases-loop-at l = length l.text - l.at

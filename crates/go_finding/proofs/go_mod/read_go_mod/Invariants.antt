use Rattle.std.proofs.Common.{◌≡◌, ◌-◌, ◌≤◌, length, drop}
use Rattle.std.specs.List.{slice_split}
use Rattle.go_finding.specs.Words.{is_newline}
use Rattle.go_finding.specs.GoMod.{take_lines, nothing_said}
use Rattle.go_finding.proofs.go_mod.read_go_mod.Given as goal

abbrev pub invariant-lines : goal.invariant-lines
invariant-lines l = record {
  within : l.at ≤ length l.text;
  said : take_lines 0 (slice_split is_newline l.text) nothing_said ≡ take_lines l.at (slice_split is_newline (drop l.at l.text)) l.reader;
}

abbrev pub decreases-lines : goal.decreases-lines
decreases-lines l = length l.text - l.at

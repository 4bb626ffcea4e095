use Rattle.std.proofs.Common.{◌≡◌, ◌≤◌, drop}
use Rattle.command_line.specs.Values.{number_behind}
use Rattle.command_line.proofs.values.number_up_to.Given as goal

abbrev pub invariant-loop-digit : goal.invariant-loop-digit
invariant-loop-digit l = record {
  within : l.value ≤ l.most;
  reached : number_behind 0 l.text ≡ number_behind l.value (drop l.digit-index l.text);
}

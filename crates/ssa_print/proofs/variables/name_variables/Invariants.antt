use Rattle.std.proofs.Common.{◌≡◌, ◌++◌, ℕ, nat_eq, unwrap_or, count_by, [], take, drop}
use Rattle.std.specs.HashMap.{get}
use Rattle.ssa_print.specs.Variables.{is_blank_in, named_behind}
use Rattle.ssa_print.proofs.variables.name_variables.Given as goal

abbrev pub invariant-loop-variable : goal.invariant-loop-variable
invariant-loop-variable l = record {
  named :
      l.named.items ++ named_behind l.names (take l.variable-index l.variables) (drop l.variable-index l.variables)
      ≡ named_behind l.names [] l.variables;
  counts : (q : ℕ) → unwrap_or (get nat_eq l.met q) 0 ≡ count_by (is_blank_in l.names q) (take l.variable-index l.variables);
}

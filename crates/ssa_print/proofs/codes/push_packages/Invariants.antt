use Rattle.std.proofs.Common.{◌≡◌, ◌-◌, ◌++◌, length}
use Rattle.ssa_print.specs.Codes.{packages_text, methods_left}
use Rattle.ssa_print.proofs.codes.push_packages.Given as goal

abbrev pub invariant-loop-number : goal.invariant-loop-number
invariant-loop-number l = record {
  text :
      l.text.items ++ packages_text l.setting (length l.setting.naming.labels - l.number) l.number l.types l.methods l.variables
      ≡ l.initial.text.items ++ packages_text l.setting (length l.setting.naming.labels) 0 l.setting.declared l.setting.methods l.setting.variables;
  left :
      methods_left l.setting (length l.setting.naming.labels - l.number) l.number l.types l.methods
      ≡ methods_left l.setting (length l.setting.naming.labels) 0 l.setting.declared l.setting.methods;
}

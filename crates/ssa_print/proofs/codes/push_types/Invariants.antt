use Rattle.std.proofs.Common.{◌≡◌, ◌++◌, drop}
use Rattle.ssa_print.specs.Codes.{types_text, methods_past}
use Rattle.ssa_print.proofs.codes.push_types.Given as goal

abbrev pub invariant-loop-id : goal.invariant-loop-id
invariant-loop-id l = record {
  text : l.text.items ++ types_text l.setting (drop l.id-index l.ids) l.rest ≡ l.initial.text.items ++ types_text l.setting l.ids l.fn.methods;
  left : methods_past l.setting (drop l.id-index l.ids) l.rest ≡ methods_past l.setting l.ids l.fn.methods;
}

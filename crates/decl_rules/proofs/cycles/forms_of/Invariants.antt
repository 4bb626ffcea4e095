use Rattle.std.proofs.Common.{◌≡◌, ◌++◌, drop, map}
use Rattle.decl_rules.proofs.cycles.forms_of.Given as goal

abbrev pub invariant-loop-field : goal.invariant-loop-field
invariant-loop-field l = l.forms.items ++ map (λ f. f.form) (drop l.field-index l.fields) ≡ map (λ f. f.form) l.fields
